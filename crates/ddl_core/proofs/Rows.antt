-- Worked rows of the core language, computed on the definitions.
use Rattle.std.proofs.Common.{◌≡◌, ℕ, zero, suc, List, [], ◌∷◌, length, refl, None, Some}
use Rattle.ddl_arith.specs.declared.operation.Op.TheVariants.{Div}
use Rattle.ddl_base.specs.declared.span.Span.{Span}
use Rattle.ddl_base.specs.declared.why.Why.TheVariants as why
use Rattle.ddl_types.specs.declared.fault.Fault.TheVariants.{DivZero}
use Rattle.ddl_types.specs.declared.num.NumType.TheVariants.{Int}
use Rattle.ddl_types.specs.Types.{Ty, con}
use Rattle.ddl_types.specs.Types as t
use Rattle.ddl_types.specs.Value.{Value, Stream, in_input, array, unit, mapping, no_values, value, no_pairs, pair}
use Rattle.ddl_types.specs.Outcome.{Outcome, End, Faulted, Deep, Stuck, ends, tick, miss, parse, parsed}
use Rattle.ddl_ops.specs.Numbers.{count_value}
use Rattle.ddl_ops.specs.Primitives.{byte_value, byte_values}
use Rattle.ddl_ops.specs.declared.operators.Infix.TheVariants.{Arithmetic}
use Rattle.ddl_ops.specs.declared.pattern.Pattern.TheVariants.{Number}
use Rattle.ddl_core.specs.Core.{Form, Function, Core, Operation, give, perform, none, bind, both, attempt, call, case_, loop, again, inside, none_left, when}
use Rattle.ddl_core.specs.Core.{text, literal, list, infix_, most, push, less_one, next_position, gather, match, match_text, uint8, end}
use Rattle.ddl_core.specs.Meaning.{Run}
use Rattle.ddl_core.specs.Operations.{applied}

abbrev span : Span
span = record { «module» = 1; from = 11; to = 21 }

-- types are not looked at
abbrev any_type : Ty
any_type = con t.unit t.none

abbrev input : List ℕ → Stream
input bs = record { bytes = bs; source = in_input; from = 0; to = length bs }

-- the stream from a place on
abbrev rest : List ℕ → ℕ → Stream
rest bs from = record { bytes = bs; source = in_input; from = from; to = length bs }

abbrev function : Form → Function
function g = record { name = None; params = []; result = any_type; body = g }

abbrev op_of : Operation → List ℕ → Form
op_of o xs = perform o xs span

abbrev ticking : ℕ → Outcome → Outcome
ticking zero o = o
ticking (suc n) o = tick (ticking n o)

-- the meaning of a program of one function at a depth
abbrev meant : ℕ → Form → List ℕ → Outcome
meant n g bs = Run n (record { functions = function g ∷ []; entry = 0 }) (input bs)

abbrev ab : List ℕ
ab = 97 ∷ 98 ∷ []

abbrev ac : List ℕ
ac = 97 ∷ 99 ∷ []

-- ---- operations

-- `Match "ab"`: the call, the text, the match and two bytes
matches_on_ab : meant 1 (bind any_type (op_of (text ab) []) (op_of match (0 ∷ []))) ab ≡ ticking 5 (parsed (array (byte_values ab)) (rest ab 2))
matches_on_ab = refl

-- it fails at the second byte
matches_on_ac : meant 1 (bind any_type (op_of (text ab) []) (op_of match (0 ∷ []))) ac ≡ ticking 5 (miss why.Match in_input 1 span (ends End))
matches_on_ac = refl

-- an operation without the values that it takes has no meaning
no_value : meant 1 (op_of match []) ab ≡ ticking 2 (ends Stuck)
no_value = refl

-- a division by zero ends at its span
divides_by_zero : meant 1 (bind any_type (op_of (literal 1 (Some Int)) [])
    (bind any_type (op_of (literal 0 (Some Int)) []) (op_of (infix_ (Arithmetic Div)) (1 ∷ 0 ∷ [])))) [] ≡ ticking 4 (ends (Faulted DivZero span))
divides_by_zero = refl

-- the greater of two counts; what is less than 0 is 0; a position after the last one stays where it is
greater_count : applied most (value (count_value 3) (value (count_value 5) no_values)) span
    ≡ applied most (value (count_value 5) (value (count_value 3) no_values)) span
greater_count = refl

less_than_none : applied less_one (value (count_value 0) no_values) span ≡ applied less_one (value (count_value 1) no_values) span
less_than_none = refl

past_the_last : applied next_position (value (array (byte_values ab)) (value (count_value 2) no_values)) span
    ≡ applied next_position (value (array (byte_values ab)) (value (count_value 1) no_values)) span
past_the_last = refl

-- new elements under the keys of a map
abbrev one_entry : Value → Value
one_entry v = mapping (pair (byte_value 97) v no_pairs)

gathers : applied gather (value (one_entry (byte_value 1)) (value (array (value (byte_value 2) no_values)) no_values)) span
    ≡ applied gather (value (one_entry (byte_value 3)) (value (array (value (byte_value 2) no_values)) no_values)) span
gathers = refl

-- ---- choices

-- no parse and no failure
none_on_ab : meant 1 none ab ≡ ticking 2 (ends End)
none_on_ab = refl

-- both sides count, each from the same place
both_on_ab : meant 1 (both (op_of uint8 []) (op_of (match_text (97 ∷ [])) [])) ab
    ≡ ticking 3 (parse (byte_value 97) (rest ab 1) (ticking 2 (parsed (array (byte_values (97 ∷ []))) (rest ab 1))))
both_on_ab = refl

-- a choice is made as its left side has a parse: what follows it may fail, and the right side does not count
chosen_then_fails : meant 1 (attempt any_type (op_of uint8 []) none (op_of uint8 [])) ab ≡ ticking 5 (ends End)
chosen_then_fails = refl

-- "ab", else "ac": the right side begins where the choice began
ab_or_ac : meant 1 (attempt any_type (op_of (match_text ab) []) (give 0) (op_of (match_text ac) [])) ac
    ≡ ticking 5 (miss why.Match in_input 1 span (ticking 3 (parsed (array (byte_values ac)) (rest ac 2))))
ab_or_ac = refl

-- each parse of the left side goes on, with a tick as it leaves
all_of_the_left : meant 1 (attempt any_type (both (op_of uint8 []) (op_of uint8 [])) (give 0) none) ab
    ≡ ticking 6 (parse (byte_value 97) (rest ab 1) (ticking 3 (parsed (byte_value 97) (rest ab 1))))
all_of_the_left = refl

-- the first alternative that the value has, the content before all other variables; else the other form
abbrev by_byte : Form
by_byte = bind any_type (op_of uint8 []) (case_ 0 (when (Number 97) any_type (give 1) (when (Number 98) any_type (give 0) none_left)) (op_of end []))

first_alternative : meant 1 by_byte ab ≡ ticking 4 (parsed (byte_value 97) (rest ab 1))
first_alternative = refl

no_alternative : meant 1 by_byte (99 ∷ []) ≡ ticking 4 (parsed unit (rest (99 ∷ []) 1))
no_alternative = refl

-- ---- turns and calls

-- `Many UInt8`: a turn, the choice, the byte, its exit and the push for each byte
abbrev many_bytes : Form
many_bytes = bind any_type (op_of list []) (loop (any_type ∷ []) (0 ∷ [])
    (attempt any_type (op_of uint8 []) (bind any_type (op_of push (1 ∷ 0 ∷ [])) (again (0 ∷ []))) (give 0)))

many_on_ab : meant 4 many_bytes ab ≡ ticking 15 (miss why.Byte in_input 2 span (tick (parsed (array (byte_values ab)) (rest ab 2))))
many_on_ab = refl

-- the third turn is too deep
many_too_deep : meant 3 many_bytes ab ≡ ticking 12 (ends Deep)
many_too_deep = refl

-- outside a loop there is no next turn
no_turn : meant 1 (again []) ab ≡ ticking 1 (ends Stuck)
no_turn = refl

-- the side that a choice tries is no end of a loop's body
no_turn_on_the_left : meant 3 (loop [] [] (attempt any_type (again []) (give 0) none)) ab ≡ ticking 3 (ends Stuck)
no_turn_on_the_left = refl

-- a call, with a tick as it begins and one as a parse leaves it
abbrev calls : Core
calls = record {
  functions = function (bind any_type (call 1 []) (bind any_type (op_of end []) (give 1))) ∷ function (inside 0 (op_of uint8 [])) ∷ [];
  entry =
      0;
}

called : Run 2 calls (input (97 ∷ [])) ≡ ticking 6 (parsed (byte_value 97) (rest (97 ∷ []) 1))
called = refl

called_too_deep : Run 1 calls (input (97 ∷ [])) ≡ ticking 2 (ends Deep)
called_too_deep = refl

not_called : Run 0 calls (input (97 ∷ [])) ≡ ticking 1 (ends Deep)
not_called = refl
