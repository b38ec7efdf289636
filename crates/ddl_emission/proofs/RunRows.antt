-- Worked rows: runs of the code of small programs, beside what the programs mean.
use Rattle.std.proofs.Common.{◌≡◌, ℕ, List, [], ◌∷◌, refl}
use Rattle.std.specs.Prelude.{pos}
use Rattle.ddl_base.specs.declared.why.Why.TheVariants as why
use Rattle.ddl_types.specs.declared.fault.Fault.TheVariants.{DivZero}
use Rattle.ddl_types.specs.declared.num.NumType.TheVariants.{Uint}
use Rattle.ddl_types.specs.Value.{Value, in_input, number, array, no_values, value}
use Rattle.ddl_types.specs.Outcome.{Outcome, End, Faulted, ends, tick, miss, parse, ticks, unticked}
use Rattle.ddl_core.specs.Core.{Form, Core, give, both, attempt}
use Rattle.ddl_core.specs.Core.{uint8, match_text}
use Rattle.ddl_core.specs.Meaning.{function_at}
use Rattle.ddl_core.specs.Meaning as meaning
use Rattle.ddl_blocks.specs.OperationTypes as types
use Rattle.ddl_blocks.specs.Run.{Run}
use Rattle.ddl_emission.specs.Program.{code_of}
use Rattle.ddl_emission.proofs.Rows.{span, input, rest, bytes, main_of, nothing_beside, op_of, two_bytes, byte_or_zero, many_bytes, gathered, two_or_none}
use Rattle.ddl_emission.proofs.Rows.{divided, digit, by_one, by_three, calls}

abbrev pub run_by : ℕ → Core → List ℕ → Outcome
run_by m program bs = Run m (code_of nothing_beside program) (input bs)

abbrev pub meant_by : ℕ → Core → List ℕ → Outcome
meant_by n program bs = meaning.Run n program (input bs)

abbrev pub one_byte : ℕ → Value
one_byte n = number (Uint 8) (pos n)

-- a byte of a block is one step
runs_two_bytes : run_by 3 (main_of types.byte two_bytes) (1 ∷ 2 ∷ []) ≡ tick (tick (tick (parse (one_byte 2) (rest (1 ∷ 2 ∷ []) 2) (ends End))))
runs_two_bytes = refl

-- a choice of one byte: 2 steps, and where it fails 3
runs_byte_or_zero : ticks (run_by 9 (main_of types.byte byte_or_zero) (5 ∷ [])) ≡ 2
runs_byte_or_zero = refl

runs_byte_or_zero_else : run_by 9 (main_of types.byte byte_or_zero) []
    ≡ tick (miss why.Byte in_input 0 span (tick (tick (parse (one_byte 0) (input []) (ends End)))))
runs_byte_or_zero_else = refl

-- many bytes: three steps a byte, and one for the array at the end
runs_many_bytes : unticked (run_by 40 (main_of bytes many_bytes) (1 ∷ 2 ∷ []))
    ≡ miss why.Byte in_input 2 span (parse (array (value (one_byte 1) (value (one_byte 2) no_values))) (rest (1 ∷ 2 ∷ []) 2) (ends End))
runs_many_bytes = refl

means_many_bytes : unticked (meant_by 9 (main_of bytes many_bytes) (1 ∷ 2 ∷ [])) ≡ unticked (run_by 40 (main_of bytes many_bytes) (1 ∷ 2 ∷ []))
means_many_bytes = refl

many_bytes_two : ticks (run_by 40 (main_of bytes many_bytes) (1 ∷ 2 ∷ [])) ≡ 11
many_bytes_two = refl

many_bytes_four : ticks (run_by 40 (main_of bytes many_bytes) (1 ∷ 2 ∷ 3 ∷ 4 ∷ [])) ≡ 17
many_bytes_four = refl

-- what was gathered
runs_gathered : unticked (run_by 9 (main_of bytes gathered) []) ≡ parse (array (value (one_byte 5) no_values)) (input []) (ends End)
runs_gathered = refl

means_gathered : unticked (meant_by 9 (main_of bytes gathered) []) ≡ unticked (run_by 9 (main_of bytes gathered) [])
means_gathered = refl

-- a budget that is spent
many_bytes_spent : ticks (run_by 7 (main_of bytes many_bytes) (1 ∷ 2 ∷ [])) ≡ 7
many_bytes_spent = refl

-- a match of a text, and what is tried then begins where it began
abbrev pub ab_or_ac : Form
ab_or_ac = attempt bytes (op_of (match_text (97 ∷ 98 ∷ [])) []) (give 0) (op_of (match_text (97 ∷ 99 ∷ [])) [])

goes_back : unticked (run_by 20 (main_of bytes ab_or_ac) (97 ∷ 99 ∷ []))
    ≡ miss why.Match in_input 1 span (parse (array (value (one_byte 97) (value (one_byte 99) no_values))) (rest (97 ∷ 99 ∷ []) 2) (ends End))
goes_back = refl

means_to_go_back : unticked (meant_by 9 (main_of bytes ab_or_ac) (97 ∷ 99 ∷ [])) ≡ unticked (run_by 20 (main_of bytes ab_or_ac) (97 ∷ 99 ∷ []))
means_to_go_back = refl

-- a biased choice keeps all parses of its left side, and none of its right one
abbrev pub nested : Form
nested = attempt types.byte (both (op_of uint8 []) (op_of uint8 [])) (give 0) (digit 0)

runs_nested : unticked (run_by 40 (main_of types.byte nested) (97 ∷ []))
    ≡ parse (one_byte 97) (rest (97 ∷ []) 1) (parse (one_byte 97) (rest (97 ∷ []) 1) (ends End))
runs_nested = refl

means_nested : unticked (meant_by 9 (main_of types.byte nested) (97 ∷ [])) ≡ unticked (run_by 40 (main_of types.byte nested) (97 ∷ []))
means_nested = refl

-- without a parse of its left side the right one is next, at the end without a parse or a failure of its own
runs_two_or_none : unticked (run_by 40 (main_of types.byte two_or_none) (97 ∷ [])) ≡ miss why.Byte in_input 1 span (ends End)
runs_two_or_none = refl

-- a case of one alternative: one test; by a table: a choice, a switch and the content, whatever the number of alternatives
runs_by_one : ticks (run_by 20 (main_of types.byte by_one) (7 ∷ [])) ≡ 4
runs_by_one = refl

runs_by_three : run_by 6 (main_of types.byte by_three) (9 ∷ []) ≡ tick (tick (tick (tick (tick (tick (parse (one_byte 3) (rest (9 ∷ []) 1) (ends End)))))))
runs_by_three = refl

runs_by_other : unticked (run_by 20 (main_of types.byte by_three) (5 ∷ [])) ≡ unticked (meant_by 9 (main_of types.byte by_three) (5 ∷ []))
runs_by_other = refl

-- a fault, at the operation's span
runs_divided : unticked (run_by 20 (main_of types.byte divided) (8 ∷ 0 ∷ [])) ≡ ends (Faulted DivZero span)
runs_divided = refl

means_divided : unticked (meant_by 9 (main_of types.byte divided) (8 ∷ 0 ∷ [])) ≡ ends (Faulted DivZero span)
means_divided = refl

-- a call, two bytes, two returns, and the end
runs_calls : ticks (run_by 20 calls (1 ∷ 2 ∷ [])) ≡ 6
runs_calls = refl

means_calls : unticked (meant_by 9 calls (1 ∷ 2 ∷ [])) ≡ unticked (run_by 20 calls (1 ∷ 2 ∷ []))
means_calls = refl
