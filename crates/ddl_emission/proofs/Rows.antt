-- Worked rows: the code of small programs.
use Rattle.std.proofs.Common.{◌≡◌, ℕ, List, [], ◌∷◌, length, refl, None, Some, true, false}
use Rattle.ddl_arith.specs.declared.operation.Op.TheVariants.{Div}
use Rattle.ddl_base.specs.declared.span.Span.{Span}
use Rattle.ddl_types.specs.declared.fault.Fault.TheVariants.{Overflow, DivZero}
use Rattle.ddl_types.specs.declared.num.NumType.TheVariants.{Uint}
use Rattle.ddl_types.specs.Types.{Ty}
use Rattle.ddl_types.specs.Value.{Stream, in_input}
use Rattle.ddl_ops.specs.declared.operators.Infix.TheVariants.{Arithmetic}
use Rattle.ddl_ops.specs.declared.pattern.Pattern.TheVariants.{Number}
use Rattle.ddl_core.specs.Core.{Operation, Form, Core, Alternatives, give, perform, none, bind, both, attempt, call, case_, loop, again, inside, none_left}
use Rattle.ddl_core.specs.Core.{when}
use Rattle.ddl_core.specs.Core.{text, literal, list, push, gather, infix_, uint8, match_text, match, end}
use Rattle.ddl_core.specs.Core as c
use Rattle.ddl_blocks.specs.Code.{ValueType, of_type, builder, thread, Targets, Instr, do_, build, choose, content, spawn, notify, Exit, jump, switch_to}
use Rattle.ddl_blocks.specs.Code.{call_to, return}
use Rattle.ddl_blocks.specs.Code.{fail_, halt, Block, Function}
use Rattle.ddl_blocks.specs.OperationTypes as types
use Rattle.ddl_emission.specs.Program.{Beside, code_of}

abbrev pub span : Span
span = record { «module» = 1; from = 11; to = 21 }

abbrev pub input : List ℕ → Stream
input bs = record { bytes = bs; source = in_input; from = 0; to = length bs }

abbrev pub rest : List ℕ → ℕ → Stream
rest bs from = record { bytes = bs; source = in_input; from = from; to = length bs }

abbrev pub bytes : Ty
bytes = types.array types.byte

-- programs of functions without parameters, the first of which is run
abbrev pub one_function : Ty → Form → c.Function
one_function ty g = record { name = None; params = []; result = ty; body = g }

abbrev pub main_of : Ty → Form → Core
main_of ty g = record { functions = one_function ty g ∷ []; entry = 0 }

abbrev pub nothing_beside : Beside
nothing_beside = record { texts = []; units = []; decls = []; places = []; entry_name = span }

abbrev pub op_of : Operation → List ℕ → Form
op_of o xs = perform o xs span

-- ---- the code

abbrev pub functions_of : Core → List Function
functions_of program = (code_of nothing_beside program).functions

abbrev pub function : Ty → List Block → Function
function ty bs = record { params = 0; blocks = bs; result = of_type ty; name = None }

abbrev pub block : List ValueType → List Instr → Exit → Block
block tys body exit = record { params = tys; body = body; exit = exit }

abbrev pub doing : Operation → List ℕ → Ty → Targets → List ℕ → Instr
doing o xs ty targets opened = do_ (record { operation = o; arguments = xs; of = of_type ty; span = span; opened = opened; targets = targets })

-- an operation that goes on nowhere else, and one that fails to a block
abbrev pub always : Operation → List ℕ → Ty → Instr
always o xs ty = doing o xs ty (record { fail = None; faults = [] }) []

abbrev pub or_at : Operation → List ℕ → Ty → ℕ → Instr
or_at o xs ty b = doing o xs ty (record { fail = Some b; faults = [] }) []

-- the second block of a function
abbrev pub returning : Ty → Block
returning ty = block (of_type ty ∷ []) [] (return 0)

abbrev pub a_byte : ValueType
a_byte = of_type types.byte

-- bytes that grow, and an operation that gives such
abbrev pub more_bytes : ValueType
more_bytes = builder types.byte

abbrev pub growing : Operation → List ℕ → Ty → Instr
growing o xs ty =
    do_ (record { operation = o; arguments = xs; of = builder ty; span = span; opened = []; targets = record { fail = None; faults = [] } })

-- two bytes in a block: one block, and one for each failure
abbrev pub two_bytes : Form
two_bytes = bind types.byte (op_of uint8 []) (op_of uint8 [])

code_of_two_bytes : functions_of (main_of types.byte two_bytes)
    ≡ function types.byte (
    block [] (or_at uint8 [] types.byte 2 ∷ or_at uint8 [] types.byte 3 ∷ []) (return 1)
    ∷ returning types.byte
    ∷ block [] [] fail_
    ∷ block (a_byte ∷ []) [] fail_
    ∷ []
    )
    ∷ []
code_of_two_bytes = refl

-- a choice of one byte has no thread: where the byte fails the right side's block is next
abbrev pub byte_or_zero : Form
byte_or_zero = attempt types.byte (op_of uint8 []) (give 0) (op_of (literal 0 (Some (Uint 8))) [])

code_of_byte_or_zero : functions_of (main_of types.byte byte_or_zero)
    ≡ function types.byte (
    block [] (or_at uint8 [] types.byte 2 ∷ []) (return 0)
    ∷ returning types.byte
    ∷ block [] (always (literal 0 (Some (Uint 8))) [] types.byte ∷ []) (return 0)
    ∷ []
    )
    ∷ []
code_of_byte_or_zero = refl

-- many bytes: a turn is one block; the array grows from an empty list on, and is built where the byte fails
abbrev pub many_bytes : Form
many_bytes = bind bytes (op_of list []) (loop (bytes ∷ []) (0 ∷ [])
    (attempt types.byte (op_of uint8 []) (bind bytes (op_of push (1 ∷ 0 ∷ [])) (again (0 ∷ []))) (give 0)))

code_of_many_bytes : functions_of (main_of bytes many_bytes)
    ≡ function bytes (
    block [] (growing list [] types.byte ∷ []) (jump 2 (0 ∷ 0 ∷ []))
    ∷ returning bytes
    ∷ block (more_bytes ∷ more_bytes ∷ []) (or_at uint8 [] types.byte 3 ∷ growing push (1 ∷ 2 ∷ []) types.byte ∷ []) (jump 2 (0 ∷ 3 ∷ []))
    ∷ block (more_bytes ∷ more_bytes ∷ []) (build 1 ∷ []) (return 2)
    ∷ []
    )
    ∷ []
code_of_many_bytes = refl

-- a list that nothing is pushed to is an array
abbrev pub no_bytes : Form
no_bytes = bind bytes (op_of list []) (give 0)

code_of_no_bytes : functions_of (main_of bytes no_bytes) ≡ function bytes (block [] (always list [] bytes ∷ []) (return 0) ∷ returning bytes ∷ []) ∷ []
code_of_no_bytes = refl

-- what is gathered is built first
abbrev pub gathered : Form
gathered = bind bytes (op_of (text (97 ∷ [])) []) (bind bytes (op_of list []) (bind types.byte (op_of (literal 5 (Some (Uint 8))) [])
    (bind bytes (op_of push (1 ∷ 0 ∷ [])) (op_of gather (3 ∷ 0 ∷ [])))))

code_of_gathered : functions_of (main_of bytes gathered)
    ≡ function bytes (
    block [] (
    always (text (97 ∷ [])) [] bytes
    ∷ growing list [] types.byte
    ∷ always (literal 5 (Some (Uint 8))) [] types.byte
    ∷ growing push (1 ∷ 2 ∷ []) types.byte
    ∷ build 3
    ∷ always gather (0 ∷ 4 ∷ []) bytes
    ∷ []
    ) (return 5)
    ∷ returning bytes
    ∷ []
    )
    ∷ []
code_of_gathered = refl

-- a left side of more than one operation: the right side waits in a thread, and each parse notifies it
abbrev pub two_or_none : Form
two_or_none = attempt types.byte (bind types.byte (op_of uint8 []) (op_of uint8 [])) (give 0) none

code_of_two_or_none : functions_of (main_of types.byte two_or_none)
    ≡ function types.byte (
    block [] (spawn 2 [] true ∷ or_at uint8 [] types.byte 4 ∷ or_at uint8 [] types.byte 5 ∷ []) (jump 3 (0 ∷ 2 ∷ []))
    ∷ returning types.byte
    ∷ block [] [] fail_
    ∷ block (thread ∷ a_byte ∷ []) (notify 0 ∷ []) (return 1)
    ∷ block (thread ∷ []) [] fail_
    ∷ block (thread ∷ a_byte ∷ []) [] fail_
    ∷ []
    )
    ∷ []
code_of_two_or_none = refl

-- an unbiased choice: a thread without a number, and no block but the right side's
abbrev pub byte_and_byte : Form
byte_and_byte = both (op_of uint8 []) (inside 4 (op_of uint8 []))

code_of_byte_and_byte : functions_of (main_of types.byte byte_and_byte)
    ≡ function types.byte (
    block [] (spawn 2 [] false ∷ or_at uint8 [] types.byte 4 ∷ []) (return 1)
    ∷ returning types.byte
    ∷ block [] (doing uint8 [] types.byte (record { fail = Some 3; faults = [] }) (4 ∷ []) ∷ []) (return 0)
    ∷ block [] [] fail_
    ∷ block (of_type types.unit ∷ []) [] fail_
    ∷ []
    )
    ∷ []
code_of_byte_and_byte = refl

-- an operation names a block for each fault that it may have; before a result comes out of a `bind` it goes to a block
abbrev pub divided : Form
divided = bind types.byte (op_of uint8 []) (bind types.byte (op_of uint8 []) (op_of (infix_ (Arithmetic Div)) (1 ∷ 0 ∷ [])))

abbrev pub both_bytes : List ValueType
both_bytes = a_byte ∷ a_byte ∷ []

code_of_divided : functions_of (main_of types.byte divided)
    ≡ function types.byte (
    block [] (
    or_at uint8 [] types.byte 2
    ∷ or_at uint8 [] types.byte 3
    ∷ doing (infix_ (Arithmetic Div)) (0 ∷ 1 ∷ []) types.byte (record {
      fail = None;
      faults = record { fault = Overflow; block = 4 } ∷ record { fault = DivZero; block = 5 } ∷ [];
    }) []
    ∷ []
    ) (return 2)
    ∷ returning types.byte
    ∷ block [] [] fail_
    ∷ block (a_byte ∷ []) [] fail_
    ∷ block both_bytes [] (halt Overflow span)
    ∷ block both_bytes [] (halt DivZero span)
    ∷ []
    )
    ∷ []
code_of_divided = refl

-- a case of one alternative: a test, whose other block is the other form; of three: a table
abbrev pub digit : ℕ → Form
digit n = op_of (literal n (Some (Uint 8))) []

abbrev pub digit_at : ℕ → Instr
digit_at n = always (literal n (Some (Uint 8))) [] types.byte

abbrev pub by_one : Form
by_one = bind types.byte (op_of uint8 []) (case_ 0 (when (Number 7) types.unit (digit 1) none_left) none)

code_of_by_one : functions_of (main_of types.byte by_one)
    ≡ function types.byte (
    block [] (or_at uint8 [] types.byte 2 ∷ content 0 (Number 7) types.unit 3 ∷ digit_at 1 ∷ []) (return 2)
    ∷ returning types.byte
    ∷ block [] [] fail_
    ∷ block (a_byte ∷ []) [] fail_
    ∷ []
    )
    ∷ []
code_of_by_one = refl

abbrev pub by_three : Form
by_three = bind types.byte (op_of uint8 []) (case_ 0
    (when (Number 7) types.unit (digit 1) (when (Number 8) types.unit (digit 2) (when (Number 9) types.unit (digit 3) none_left))) (op_of uint8 []))

abbrev pub answered : List ValueType
answered = a_byte ∷ of_type types.count ∷ []

code_of_by_three : functions_of (main_of types.byte by_three)
    ≡ function types.byte (
    block [] (or_at uint8 [] types.byte 2 ∷ choose 0 (Number 7 ∷ Number 8 ∷ Number 9 ∷ []) ∷ []) (switch_to 1 (5 ∷ 6 ∷ 7 ∷ 3 ∷ []))
    ∷ returning types.byte
    ∷ block [] [] fail_
    ∷ block answered (or_at uint8 [] types.byte 4 ∷ []) (return 2)
    ∷ block answered [] fail_
    ∷ block answered (content 0 (Number 7) types.unit 3 ∷ digit_at 1 ∷ []) (return 3)
    ∷ block answered (content 0 (Number 8) types.unit 3 ∷ digit_at 2 ∷ []) (return 3)
    ∷ block answered (content 0 (Number 9) types.unit 3 ∷ digit_at 3 ∷ []) (return 3)
    ∷ []
    )
    ∷ []
code_of_by_three = refl

-- a call comes back to a block with what is kept
abbrev pub calls : Core
calls = record {
  functions = one_function types.byte (bind types.byte (call 1 []) (bind types.unit (op_of end []) (give 1))) ∷ one_function types.byte two_bytes
      ∷ [];
  entry = 0;
}

code_of_calls : functions_of calls
    ≡ function types.byte (
    block [] [] (call_to 1 [] 2 [] [])
    ∷ returning types.byte
    ∷ block (a_byte ∷ []) (or_at end [] types.unit 3 ∷ []) (return 0)
    ∷ block (a_byte ∷ []) [] fail_
    ∷ []
    )
    ∷ function types.byte (
    block [] (or_at uint8 [] types.byte 2 ∷ or_at uint8 [] types.byte 3 ∷ []) (return 1)
    ∷ returning types.byte
    ∷ block [] [] fail_
    ∷ block (a_byte ∷ []) [] fail_
    ∷ []
    )
    ∷ []
code_of_calls = refl
