-- Worked rows of the machine in the slot reading, computed on the definitions.
use Rattle.std.proofs.Common.{◌≡◌, ℕ, zero, suc, List, [], ◌∷◌, length, refl, None, Some, true, false, Option}
use Rattle.ddl_base.specs.declared.span.Span.{Span}
use Rattle.ddl_base.specs.declared.why.Why.TheVariants as why
use Rattle.ddl_types.specs.declared.num.NumType.TheVariants.{Uint}
use Rattle.ddl_types.specs.Types.{Ty, con, none}
use Rattle.ddl_types.specs.Types as t
use Rattle.ddl_types.specs.Value.{Value, Stream, in_input, in_array, just, array, no_values, value}
use Rattle.ddl_types.specs.Outcome.{Outcome, End, Deep, Stuck, ends, tick, miss, parse, parsed}
use Rattle.ddl_ops.specs.Primitives.{byte_value, byte_values}
use Rattle.ddl_ops.specs.declared.operators.Builtin.TheVariants.{ArrayStream, Empty, InsertInto, LookupIn}
use Rattle.ddl_ops.specs.declared.operators.Primitive.TheVariants.{SetStream}
use Rattle.ddl_ops.specs.declared.pattern.Pattern.TheVariants.{Tag}
use Rattle.ddl_core.specs.Core.{Operation, text, literal, just_, list, record_, union_, select, push, match, uint8, builtin, primitive}
use Rattle.ddl_blocks.specs.Code.{ValueType, of_type, builder, Instr, do_, build, content, spawn, notify, dup, free, Exit, call_to, return, fail_, Block}
use Rattle.ddl_core.specs.Places.{PlaceShape, record_shape, union_shape}
use Rattle.ddl_blocks.specs.Code.{Function, Code}
use Rattle.ddl_blocks.specs.OperationTypes as types
use Rattle.ddl_blocks.specs.Run.{Run}
use Rattle.ddl_blocks.specs.SlotRun.{SlotRun, slot_counts}

abbrev span : Span
span = record { «module» = 0; from = 11; to = 21 }

abbrev byte : ValueType
byte = of_type types.byte

abbrev unit : ValueType
unit = of_type types.unit

abbrev bytes : ValueType
bytes = of_type (types.array types.byte)

-- an operation with its result's type, and the block for its failure
abbrev op_to : Operation → List ℕ → ValueType → Option ℕ → Instr
op_to o xs ty fails = do_ (record { operation = o; arguments = xs; of = ty; span = span; opened = []; targets = record { fail = fails; faults = [] } })

abbrev op_of : Operation → List ℕ → ValueType → Instr
op_of o xs ty = op_to o xs ty None

abbrev text_of : List ℕ → Instr
text_of bs = op_of (text bs) [] bytes

abbrev a_byte : ℕ → Instr
a_byte n = op_of (literal n (Some (Uint 8))) [] byte

abbrev block : List ValueType → List Instr → Exit → Block
block params body exit = record { params = params; body = body; exit = exit }

abbrev function : List Block → Function
function bs = record { params = 0; blocks = bs; result = bytes; name = None }

-- place 0 is a record of a byte and some bytes, place 1 a union of them
abbrev names : List (List ℕ)
names = (120 ∷ []) ∷ (121 ∷ []) ∷ []

abbrev shapes : List PlaceShape
shapes = record_shape names (types.byte ∷ types.array types.byte ∷ []) ∷ union_shape names (types.byte ∷ types.array types.byte ∷ []) ∷ []

abbrev place : ℕ → ValueType
place n = of_type (con (t.place n) none)

abbrev code_of : List Function → Code
code_of fs = record { functions = fs; entry = 0; texts = []; units = []; decls = []; places = shapes; entry_name = span; result = types.array types.byte }

abbrev main_of : List Block → Code
main_of bs = code_of (function bs ∷ [])

abbrev a : List ℕ
a = 97 ∷ []

abbrev ab : List ℕ
ab = 97 ∷ 98 ∷ []

abbrev input : List ℕ → Stream
input bs = record { bytes = bs; source = in_input; from = 0; to = length bs }

abbrev rest : List ℕ → ℕ → Stream
rest bs from = record { bytes = bs; source = in_input; from = from; to = length bs }

abbrev ticking : ℕ → Outcome → Outcome
ticking zero o = o
ticking (suc n) o = tick (ticking n o)

-- so many numbers, all of them 0
abbrev zeros : ℕ → List ℕ
zeros zero = []
zeros (suc n) = 0 ∷ zeros n

abbrev array_value : List ℕ → Value
array_value bs = array (byte_values bs)

-- ---- a match

-- `Match "ab"`: where it fails, the text is used up, and so is not handed on
abbrev match_ab : Code
match_ab = main_of (block [] (text_of ab ∷ op_to match (0 ∷ []) bytes (Some 1) ∷ []) (return 1) ∷ block [] [] fail_ ∷ [])

row_1 : SlotRun (zeros 5) match_ab ab ≡ ticking 5 (parsed (array_value ab) (rest ab 2))
row_1 = refl

-- whatever numbers are offered
row_1_any : SlotRun (9 ∷ 4 ∷ 4 ∷ 0 ∷ 7 ∷ []) match_ab ab ≡ SlotRun (zeros 5) match_ab ab
row_1_any = refl

row_1_spent : SlotRun (zeros 3) match_ab ab ≡ ticking 3 (ends Deep)
row_1_spent = refl

row_2 : SlotRun (zeros 9) match_ab [] ≡ ticking 2 (miss why.Match in_input 0 span (tick (ends End)))
row_2 = refl

-- the text is one slot, and the parse that is out keeps it; where the match fails, or the budget is spent, none is left
row_1_counts : slot_counts (zeros 5) match_ab ab ≡ record { steps = 5; threads = 1; most_slots = 1; left = 1 }
row_1_counts = refl

row_2_counts : slot_counts (zeros 9) match_ab [] ≡ record { steps = 3; threads = 1; most_slots = 1; left = 0 }
row_2_counts = refl

row_1_spent_counts : slot_counts (zeros 3) match_ab ab ≡ record { steps = 3; threads = 1; most_slots = 1; left = 0 }
row_1_spent_counts = refl

-- ---- references

-- two threads share the text
abbrev shares : Code
shares = main_of (
    block [] (text_of a ∷ dup 0 ∷ spawn 1 (0 ∷ []) false ∷ op_to match (0 ∷ []) bytes (Some 2) ∷ []) (return 2)
    ∷ block (bytes ∷ []) (op_to match (0 ∷ []) bytes (Some 3) ∷ []) (return 1)
    ∷ block (unit ∷ []) [] fail_
    ∷ block [] [] fail_
    ∷ []
    )

shares_on_a : SlotRun (zeros 9) shares a ≡ ticking 5 (parse (array_value a) (rest a 1) (ticking 3 (parsed (array_value a) (rest a 1))))
shares_on_a = refl

shares_counts : slot_counts (zeros 9) shares a ≡ record { steps = 8; threads = 2; most_slots = 1; left = 1 }
shares_counts = refl

-- a thread that is flagged gives back what it holds, uncounted
abbrev flags : Code
flags = main_of (
    block [] (text_of a ∷ spawn 1 (0 ∷ []) true ∷ notify 1 ∷ a_byte 1 ∷ []) (return 2)
    ∷ block (bytes ∷ []) [] (return 0)
    ∷ []
    )

flags_on_nothing : SlotRun (zeros 9) flags [] ≡ ticking 5 (parsed (byte_value 1) (input []))
flags_on_nothing = refl

flags_counts : slot_counts (zeros 9) flags [] ≡ record { steps = 5; threads = 2; most_slots = 1; left = 0 }
flags_counts = refl

-- a value that is used up is there no more; at an end each reference must be used up, as by Free
abbrev uses_twice : Code
uses_twice = main_of (block [] (text_of a ∷ op_of just_ (0 ∷ []) bytes ∷ op_of just_ (0 ∷ []) bytes ∷ []) (return 1) ∷ [])

uses_twice_run : SlotRun (zeros 9) uses_twice [] ≡ ticking 3 (ends Stuck)
uses_twice_run = refl

abbrev forgets : List Instr → Code
forgets is = main_of (block [] (text_of a ∷ a_byte 1 ∷ is) (return 1) ∷ [])

forgets_run : SlotRun (zeros 9) (forgets []) [] ≡ ticking 3 (ends Stuck)
forgets_run = refl

frees_run : SlotRun (zeros 9) (forgets (free 0 ∷ [])) [] ≡ ticking 3 (parsed (byte_value 1) (input []))
frees_run = refl

frees_counts : slot_counts (zeros 9) (forgets (free 0 ∷ [])) [] ≡ record { steps = 3; threads = 1; most_slots = 1; left = 0 }
frees_counts = refl

-- a call stands in a slot until it comes back; the values that are kept stand in it
abbrev calls : Code
calls = code_of (
    function (
    block [] (a_byte 1 ∷ text_of a ∷ []) (call_to 1 (0 ∷ []) 1 (1 ∷ []) [])
    ∷ block (bytes ∷ byte ∷ []) (op_of just_ (0 ∷ []) (of_type (types.maybe (types.array types.byte))) ∷ []) (return 2)
    ∷ []
    )
    ∷ function (block (byte ∷ []) [] (return 0) ∷ [])
    ∷ []
    )

calls_on_nothing : SlotRun (zeros 9) calls [] ≡ ticking 6 (parsed (just (array_value a)) (input []))
calls_on_nothing = refl

calls_counts : slot_counts (zeros 9) calls [] ≡ record { steps = 6; threads = 1; most_slots = 2; left = 2 }
calls_counts = refl

-- two threads come back by the same frame, which goes with the second
abbrev comes_back_twice : Code
comes_back_twice = code_of (
    function (
    block [] (a_byte 1 ∷ text_of a ∷ []) (call_to 1 (0 ∷ []) 1 (1 ∷ []) [])
    ∷ block (bytes ∷ byte ∷ []) (op_of just_ (0 ∷ []) (of_type (types.maybe (types.array types.byte))) ∷ []) (return 2)
    ∷ []
    )
    ∷ function (block (byte ∷ []) (spawn 1 [] false ∷ []) (return 0) ∷ block [] (a_byte 7 ∷ []) (return 0) ∷ [])
    ∷ []
    )

comes_back_run : SlotRun (zeros 20) comes_back_twice []
    ≡ ticking 7 (parse (just (array_value a)) (input []) (ticking 4 (parsed (just (array_value a)) (input []))))
comes_back_run = refl

comes_back_counts : slot_counts (zeros 20) comes_back_twice [] ≡ record { steps = 11; threads = 2; most_slots = 3; left = 3 }
comes_back_counts = refl

-- ---- values in slots

-- a builder that nothing else refers to grows in its slot
abbrev grows : Code
grows = main_of (
    block [] (
    op_of list [] (builder types.byte) ∷ a_byte 5 ∷ op_of push (0 ∷ 1 ∷ []) (builder types.byte) ∷ a_byte 6
    ∷ op_of push (2 ∷ 3 ∷ []) (builder types.byte) ∷ build 4 ∷ []
    ) (return 5)
    ∷ []
    )

grows_on_nothing : SlotRun (zeros 7) grows [] ≡ ticking 7 (parsed (array_value (5 ∷ 6 ∷ [])) (input []))
grows_on_nothing = refl

grows_as_plain : SlotRun (zeros 7) grows [] ≡ Run 7 grows (input [])
grows_as_plain = refl

grows_counts : slot_counts (zeros 7) grows [] ≡ record { steps = 7; threads = 1; most_slots = 1; left = 1 }
grows_counts = refl

-- one that is shared keeps its elements, and what is pushed stands in a slot of its own
abbrev grows_shared : Code
grows_shared = main_of (
    block [] (
    op_of list [] (builder types.byte) ∷ a_byte 5 ∷ op_of push (0 ∷ 1 ∷ []) (builder types.byte) ∷ a_byte 6
    ∷ dup 2 ∷ op_of push (2 ∷ 3 ∷ []) (builder types.byte) ∷ build 4 ∷ build 2
    ∷ op_of list (5 ∷ 6 ∷ []) (of_type (types.array (types.array types.byte))) ∷ []
    ) (return 7)
    ∷ []
    )

shared_on_nothing : SlotRun (zeros 9) grows_shared []
    ≡ ticking 9 (parsed (array (value (array_value (5 ∷ 6 ∷ [])) (value (array_value (5 ∷ [])) no_values))) (input []))
shared_on_nothing = refl

shared_counts : slot_counts (zeros 9) grows_shared [] ≡ record { steps = 9; threads = 1; most_slots = 3; left = 3 }
shared_counts = refl

-- a field of a record, and the content of a union
abbrev selects : Code
selects = main_of (
    block [] (a_byte 5 ∷ text_of a ∷ op_of (record_ names) (0 ∷ 1 ∷ []) (place 0) ∷ op_of (select (121 ∷ [])) (2 ∷ []) bytes ∷ []) (return 3)
    ∷ []
    )

selects_run : SlotRun (zeros 5) selects [] ≡ Run 5 selects (input [])
selects_run = refl

selects_counts : slot_counts (zeros 5) selects [] ≡ record { steps = 5; threads = 1; most_slots = 2; left = 1 }
selects_counts = refl

abbrev takes_content : Code
takes_content = main_of (
    block [] (text_of a ∷ op_of (union_ (121 ∷ [])) (0 ∷ []) (place 1) ∷ content 1 (Tag (121 ∷ []) None) (types.array types.byte) 1 ∷ []) (return 2)
    ∷ block [] [] fail_
    ∷ []
    )

takes_content_run : SlotRun (zeros 4) takes_content [] ≡ Run 4 takes_content (input [])
takes_content_run = refl

takes_content_counts : slot_counts (zeros 4) takes_content [] ≡ record { steps = 4; threads = 1; most_slots = 2; left = 1 }
takes_content_counts = refl

-- a map with one entry, and what stands there under its key
abbrev map_type : ValueType
map_type = of_type (types.mapping types.byte (types.array types.byte))

abbrev looks_up : Code
looks_up = main_of (
    block [] (
    op_of (builtin Empty) [] map_type ∷ a_byte 2 ∷ text_of a ∷ op_of (builtin InsertInto) (1 ∷ 2 ∷ 0 ∷ []) map_type
    ∷ a_byte 2 ∷ op_of (builtin LookupIn) (4 ∷ 3 ∷ []) (of_type (types.maybe (types.array types.byte))) ∷ []
    ) (return 5)
    ∷ []
    )

looks_up_run : SlotRun (zeros 7) looks_up [] ≡ ticking 7 (parsed (just (array_value a)) (input []))
looks_up_run = refl

looks_up_counts : slot_counts (zeros 7) looks_up [] ≡ record { steps = 7; threads = 1; most_slots = 2; left = 2 }
looks_up_counts = refl

-- a stream over an array keeps its slot
abbrev over_array : Code
over_array = main_of (
    block [] (
    text_of ab ∷ op_of (builtin ArrayStream) (0 ∷ []) (of_type types.stream) ∷ op_of (primitive SetStream) (1 ∷ []) unit
    ∷ op_to uint8 [] byte (Some 1) ∷ []
    ) (return 3)
    ∷ block (unit ∷ []) [] fail_
    ∷ []
    )

over_array_run : SlotRun (zeros 5) over_array [] ≡ ticking 5 (parsed (byte_value 97) (record { bytes = ab; source = in_array; from = 1; to = 2 }))
over_array_run = refl

over_array_counts : slot_counts (zeros 5) over_array [] ≡ record { steps = 5; threads = 1; most_slots = 1; left = 1 }
over_array_counts = refl
