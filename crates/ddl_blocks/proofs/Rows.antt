-- Worked rows of the machine in the plain reading, computed on the definitions: each instruction and each end.
use Rattle.std.proofs.Common.{◌≡◌, ℕ, zero, suc, List, [], ◌∷◌, length, refl, None, Some, Bool, true, false}
use Rattle.std.specs.Prelude.{pos}
use Rattle.ddl_arith.specs.declared.operation.Op.TheVariants.{Div}
use Rattle.ddl_base.specs.declared.span.Span.{Span}
use Rattle.ddl_base.specs.declared.why.Why.TheVariants as why
use Rattle.ddl_types.specs.declared.fault.Fault.{Fault}
use Rattle.ddl_types.specs.declared.fault.Fault.TheVariants.{DivZero, Overflow}
use Rattle.ddl_types.specs.declared.num.NumType.TheVariants.{Uint}
use Rattle.ddl_types.specs.Types as t
use Rattle.ddl_types.specs.Value.{Stream, in_input, number, unit, nothing, array, no_values, value}
use Rattle.ddl_types.specs.Outcome.{Outcome, End, Faulted, Deep, Stuck, ends, tick, miss, parse, parsed}
use Rattle.ddl_ops.specs.Primitives.{byte_value, byte_values}
use Rattle.ddl_ops.specs.declared.operators.Infix.TheVariants.{Arithmetic}
use Rattle.ddl_ops.specs.declared.pattern.Pattern.TheVariants.{Number, Just}
use Rattle.ddl_core.specs.Core.{Operation, text, literal, truth, unit_, nothing_, just_, list, infix_, push, match, match_text, uint8}
use Rattle.ddl_blocks.specs.Code.{of_type, Targets, Instr, do_, build, choose, content, spawn, notify, dup, free, note, Exit, jump, branch, switch_to, call_to}
use Rattle.ddl_blocks.specs.Code.{return, fail_, halt, Block, Function, Code}
use Rattle.ddl_blocks.specs.Run.{Run, counts}

abbrev span : Span
span = record { «module» = 1; from = 11; to = 21 }

-- types are not looked at
abbrev any_type : t.Ty
any_type = t.con t.unit t.none

abbrev input : List ℕ → Stream
input bs = record { bytes = bs; source = in_input; from = 0; to = length bs }

-- the stream from a place on
abbrev rest : List ℕ → ℕ → Stream
rest bs from = record { bytes = bs; source = in_input; from = from; to = length bs }

abbrev ticking : ℕ → Outcome → Outcome
ticking zero o = o
ticking (suc n) o = tick (ticking n o)

abbrev op_to : Operation → List ℕ → Targets → Instr
op_to o xs targets = do_ (record { operation = o; arguments = xs; of = of_type any_type; span = span; opened = []; targets = targets })

-- an operation that goes on nowhere else, one that fails to a block, one with a block for a fault
abbrev op_of : Operation → List ℕ → Instr
op_of o xs = op_to o xs (record { fail = None; faults = [] })

abbrev or_fail : Operation → List ℕ → ℕ → Instr
or_fail o xs b = op_to o xs (record { fail = Some b; faults = [] })

abbrev or_fault : Operation → List ℕ → Fault → ℕ → Instr
or_fault o xs fault b = op_to o xs (record { fail = None; faults = record { fault = fault; block = b } ∷ [] })

abbrev block : List Instr → Exit → Block
block body exit = record { params = []; body = body; exit = exit }

abbrev function : List Block → Function
function bs = record { params = 0; blocks = bs; result = of_type any_type; name = None }

abbrev code_of : List Function → Code
code_of fs = record { functions = fs; entry = 0; texts = []; units = []; decls = []; places = []; entry_name = span; result = any_type }

-- the run of one function
abbrev run_of : ℕ → List Block → List ℕ → Outcome
run_of m bs s = Run m (code_of (function bs ∷ [])) (input s)

abbrev ab : List ℕ
ab = 97 ∷ 98 ∷ []

abbrev ac : List ℕ
ac = 97 ∷ 99 ∷ []

abbrev byte : ℕ → Instr
byte n = op_of (literal n (Some (Uint 8))) []

-- ---- operations

-- `Match "ab"`: the text, the match, its two bytes and the return
abbrev match_ab : List Block
match_ab = block (op_of (text ab) [] ∷ or_fail match (0 ∷ []) 1 ∷ []) (return 1) ∷ block [] fail_ ∷ []

row_1 : run_of 5 match_ab ab ≡ ticking 5 (parsed (array (byte_values ab)) (rest ab 2))
row_1 = refl

row_1_spent : run_of 4 match_ab ab ≡ ticking 4 (ends Deep)
row_1_spent = refl

-- the budget ends in the middle of the match
row_1_in_the_middle : run_of 3 match_ab ab ≡ ticking 3 (ends Deep)
row_1_in_the_middle = refl

nothing_to_spend : run_of 0 match_ab ab ≡ ends Deep
nothing_to_spend = refl

-- on nothing: the text, the match with its failure, the end of the thread
row_2 : run_of 9 match_ab [] ≡ ticking 2 (miss why.Match in_input 0 span (tick (ends End)))
row_2 = refl

-- a match notes its failure at the byte that differs, and what is tried then begins where it began, with the block's values
abbrev ab_or_byte : List Block
ab_or_byte = block (byte 7 ∷ or_fail (match_text ab) [] 1 ∷ []) (return 1) ∷ block (or_fail uint8 [] 2 ∷ op_of list (0 ∷ 1 ∷ []) ∷ []) (return 2) ∷ []

goes_back : run_of 9 ab_or_byte ac ≡ ticking 4 (miss why.Match in_input 1 span (ticking 3 (parsed (array (byte_values (7 ∷ 97 ∷ []))) (rest ac 1))))
goes_back = refl

-- a fault goes on at its block
abbrev divided : List Block
divided = block (byte 1 ∷ byte 0 ∷ or_fault (infix_ (Arithmetic Div)) (0 ∷ 1 ∷ []) DivZero 1 ∷ []) (return 2) ∷ block [] (halt DivZero span) ∷ []

divides_by_zero : run_of 9 divided [] ≡ ticking 4 (ends (Faulted DivZero span))
divides_by_zero = refl

-- without a block for this fault, for a failure, without a value or with one of a wrong kind it is stuck
no_fault_block : run_of 9 (block (byte 1 ∷ byte 0 ∷ or_fault (infix_ (Arithmetic Div)) (0 ∷ 1 ∷ []) Overflow 0 ∷ []) (return 2) ∷ []) []
    ≡ ticking 3 (ends Stuck)
no_fault_block = refl

no_fail_block : run_of 9 (block (op_of uint8 [] ∷ []) (return 0) ∷ []) [] ≡ tick (miss why.Byte in_input 0 span (ends Stuck))
no_fail_block = refl

no_value : run_of 9 (block (op_of just_ (0 ∷ []) ∷ []) (return 0) ∷ []) [] ≡ tick (ends Stuck)
no_value = refl

wrong_kind : run_of 9 (block (byte 1 ∷ or_fail match (0 ∷ []) 0 ∷ []) (return 0) ∷ []) [] ≡ ticking 2 (ends Stuck)
wrong_kind = refl

-- ---- other instructions

-- an array that grows, and then is built
abbrev pushes : List Block
pushes = block (op_of list [] ∷ byte 5 ∷ op_of push (0 ∷ 1 ∷ []) ∷ build 2 ∷ []) (return 3) ∷ []

builds : run_of 9 pushes [] ≡ ticking 5 (parsed (array (value (byte_value 5) no_values)) (input []))
builds = refl

builds_no_number : run_of 9 (block (byte 5 ∷ build 0 ∷ []) (return 1) ∷ []) [] ≡ ticking 2 (ends Stuck)
builds_no_number = refl

-- a choice by a table, and the block of each alternative
abbrev by_byte : List Block
by_byte = block (or_fail uint8 [] 0 ∷ choose 0 (Number 97 ∷ Number 98 ∷ []) ∷ []) (switch_to 1 (1 ∷ 2 ∷ 3 ∷ []))
    ∷ block [] (return 0) ∷ block [] (return 1) ∷ block [] fail_ ∷ []

first_alternative : run_of 9 by_byte (97 ∷ []) ≡ ticking 4 (parsed (byte_value 97) (rest (97 ∷ []) 1))
first_alternative = refl

second_alternative : run_of 9 by_byte (98 ∷ []) ≡ ticking 4 (parsed (number (Uint 64) (pos 1)) (rest (98 ∷ []) 1))
second_alternative = refl

no_alternative : run_of 9 by_byte (99 ∷ []) ≡ ticking 4 (ends End)
no_alternative = refl

-- the content of a value that has the pattern; where it has another one, on at the other block, with nothing noted
abbrev by_content : Instr → List Block
by_content made = block (byte 5 ∷ made ∷ content 1 (Just None) any_type 1 ∷ []) (return 2) ∷ block [] (return 1) ∷ []

has_content : run_of 9 (by_content (op_of just_ (0 ∷ []))) [] ≡ ticking 4 (parsed (byte_value 5) (input []))
has_content = refl

has_other_content : run_of 9 (by_content (op_of nothing_ [])) [] ≡ ticking 4 (parsed nothing (input []))
has_other_content = refl

has_no_such_content : run_of 9 (by_content (op_of unit_ [])) [] ≡ ticking 3 (ends Stuck)
has_no_such_content = refl

-- both sides of an unbiased choice, the second from where it was spawned
abbrev both_sides : List Block
both_sides = block (spawn 1 [] false ∷ or_fail uint8 [] 2 ∷ []) (return 1) ∷ block (or_fail (match_text (97 ∷ [])) [] 2 ∷ []) (return 0) ∷ block [] fail_ ∷ []

both_on_ab : run_of 9 both_sides ab ≡ ticking 3 (parse (byte_value 97) (rest ab 1) (ticking 3 (parsed (array (byte_values (97 ∷ []))) (rest ab 1))))
both_on_ab = refl

-- a Spawn that is not biased gives `{}`
spawns_unit : run_of 9 (block (spawn 1 [] false ∷ []) (return 0) ∷ block [] fail_ ∷ []) [] ≡ ticking 2 (parse unit (input []) (tick (ends End)))
spawns_unit = refl

-- a thread that is flagged ends as its turn comes, uncounted; the one that was spawned after it resumes
abbrev notifies : Instr → List Block
notifies told = block (spawn 1 [] true ∷ spawn 2 (0 ∷ []) false ∷ told ∷ []) (return 0) ∷ block (byte 1 ∷ []) (return 0) ∷ block (byte 2 ∷ []) (return 1) ∷ []

flags_the_first : run_of 9 (notifies (notify 0)) [] ≡ ticking 4 (parse (number (Uint 64) (pos 1)) (input []) (ticking 2 (parsed (byte_value 2) (input []))))
flags_the_first = refl

flags_none : run_of 9 (notifies (dup 0)) []
    ≡ ticking 3 (parse (number (Uint 64) (pos 1)) (input []) (ticking 2 (parse (byte_value 2) (input []) (ticking 2 (parsed (byte_value 1) (input []))))))
flags_none = refl

-- of a number that no suspended thread has it changes nothing
flags_nobody : run_of 9 (block (op_of (literal 9 (Some (Uint 64))) [] ∷ spawn 1 [] true ∷ notify 0 ∷ []) fail_ ∷ block [] fail_ ∷ []) [] ≡ ticking 5 (ends End)
flags_nobody = refl

flags_no_number : run_of 9 (block (op_of unit_ [] ∷ notify 0 ∷ []) fail_ ∷ []) [] ≡ ticking 2 (ends Stuck)
flags_no_number = refl

-- Dup and Free are not counted, and do nothing
not_counted : run_of 9 (block (byte 1 ∷ dup 0 ∷ free 0 ∷ free 0 ∷ []) (return 0) ∷ []) [] ≡ ticking 2 (parsed (byte_value 1) (input []))
not_counted = refl

-- a failure that is noted; the run goes on
notes_and_goes_on : run_of 9 (block (or_fail uint8 [] 0 ∷ note why.Case span [] ∷ []) (return 0) ∷ []) ab
    ≡ ticking 2 (miss why.Case in_input 1 span (tick (parsed (byte_value 97) (rest ab 1))))
notes_and_goes_on = refl

-- ---- ends

-- a Jump hands on its values in order
jumps : run_of 9 (block (byte 1 ∷ byte 2 ∷ []) (jump 1 (1 ∷ 0 ∷ [])) ∷ block (op_of list (0 ∷ 1 ∷ []) ∷ []) (return 2) ∷ []) []
    ≡ ticking 5 (parsed (array (byte_values (2 ∷ 1 ∷ []))) (input []))
jumps = refl

abbrev branches : Bool → List Block
branches b = block (op_of (truth b) [] ∷ []) (branch 0 1 2) ∷ block (byte 1 ∷ []) (return 1) ∷ block (byte 2 ∷ []) (return 1) ∷ []

branches_on_truth : run_of 9 (branches true) [] ≡ ticking 4 (parsed (byte_value 1) (input []))
branches_on_truth = refl

branches_else : run_of 9 (branches false) [] ≡ ticking 4 (parsed (byte_value 2) (input []))
branches_else = refl

branches_on_no_number : run_of 9 (block (byte 1 ∷ []) (branch 0 0 0) ∷ []) [] ≡ ticking 2 (ends Stuck)
branches_on_no_number = refl

switches_past_the_last : run_of 9 (block (byte 1 ∷ []) (switch_to 0 (0 ∷ [])) ∷ []) [] ≡ ticking 2 (ends Stuck)
switches_past_the_last = refl

-- a call, whose results go on at a block after the values that are kept; each of its parses is a Return
abbrev calls : Code
calls = code_of (function (block (byte 1 ∷ byte 2 ∷ []) (call_to 1 (1 ∷ []) 1 (0 ∷ []) []) ∷ block (op_of list (0 ∷ 1 ∷ []) ∷ []) (return 2) ∷ [])
    ∷ function (block (spawn 0 (0 ∷ []) false ∷ []) (return 0) ∷ []) ∷ [])

called : Run 8 calls (input []) ≡ ticking 7 (parse (array (byte_values (1 ∷ 2 ∷ []))) (input []) (tick (ends Deep)))
called = refl

-- a block, a function or a value that is not there
no_block : run_of 9 (block [] (jump 1 []) ∷ []) [] ≡ tick (ends Stuck)
no_block = refl

no_function : run_of 9 (block [] (call_to 1 [] 0 [] []) ∷ []) [] ≡ tick (ends Stuck)
no_function = refl

nothing_to_return : run_of 9 (block [] (return 0) ∷ []) [] ≡ tick (ends Stuck)
nothing_to_return = refl

no_entry : Run 9 (code_of []) (input []) ≡ ends Stuck
no_entry = refl

-- ---- counts

counts_threads : counts 9 (code_of (function (notifies (notify 0)) ∷ [])) (input []) ≡ record { steps = 6; threads = 3; most_slots = 0 }
counts_threads = refl

counts_what_is_spent : counts 4 (code_of (function match_ab ∷ [])) (input ab) ≡ record { steps = 4; threads = 1; most_slots = 0 }
counts_what_is_spent = refl
