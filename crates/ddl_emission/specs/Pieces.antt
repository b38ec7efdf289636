-- Pieces of code, and where a form stands.
use Rattle.std.specs.Prelude.{ℕ, zero, suc, ◌+◌, List, [], ◌∷◌, ◌++◌, length, slice_get, slice_index}
use Rattle.std.specs.Prelude.{Option, Some, None, Bool, true, false, if◌then◌else◌}
use Rattle.ddl_base.specs.declared.span.Span.{Span}
use Rattle.ddl_types.specs.declared.fault.Fault.{Fault}
use Rattle.ddl_types.specs.Types.{Ty}
use Rattle.ddl_core.specs.Core.{Operation}
use Rattle.ddl_blocks.specs.Code.{ValueType, of_type, builder, Target, Targets, Instr, do_, build}
use Rattle.ddl_blocks.specs.Code.{Exit, jump, return, fail_, halt, Block}
use Rattle.ddl_blocks.specs.Failing.{may_fail, faults_of}
use Rattle.ddl_blocks.specs.OperationTypes.{array, unit}
use Rattle.ddl_emission.specs.Growing.{grown_type}

-- so many numbers from k on
abbrev pub upto : ℕ → ℕ → List ℕ
upto k zero = []
upto k (suc n) = k ∷ upto (k + 1) n

-- where a parse goes: a block, with the numbers of the values that it is handed before the parse's value; where that
-- block only returns the value, a parse may as well be returned at once
pub record Out : Type 0 where
  pub block : ℕ
  pub keep : List ℕ
  pub returns : Bool

abbrev pub to_block : ℕ → List ℕ → Out
to_block block keep = record { block = block; keep = keep; returns = false }

abbrev pub exit_of : Out → ℕ → Exit
exit_of o x = if o.returns then return x else jump o.block (o.keep ++ x ∷ [])

-- where a form stands: the numbers of its variables' values, and which of them are arrays that grow; the types of all
-- values that are there, the type of its parses, the declarations around it, where its parses go, and where the next
-- turn begins of the loop whose body it ends
pub record Place : Type 0 where
  pub variables : List ℕ
  pub grow : List Bool
  pub types : List ValueType
  pub of : ValueType
  pub opened : List ℕ
  pub out : Out
  pub top : Out

-- the numbers of all values, and the number of the next one
abbrev pub all_of : Place → List ℕ
all_of p = upto 0 (length p.types)

abbrev pub next_of : Place → ℕ
next_of p = length p.types

-- where other values are there, too
abbrev pub with_types : Place → List ValueType → Place
with_types p types = record {
  variables = p.variables;
  grow = p.grow;
  types = types;
  of = p.of;
  opened = p.opened;
  out = p.out;
  top = p.top;
}

-- with one value more, which no variable has
abbrev pub wider : Place → ValueType → Place
wider p ty = record {
  variables = p.variables;
  grow = p.grow;
  types = p.types ++ ty ∷ [];
  of = p.of;
  opened = p.opened;
  out = p.out;
  top = p.top;
}

-- with one value more, which is variable 0; it may be an array that grows
abbrev pub bound_as : Bool → Place → Ty → Place
bound_as b p ty = record {
  variables = next_of p ∷ p.variables;
  grow = b ∷ p.grow;
  types = p.types ++ grown_type b ty ∷ [];
  of = p.of;
  opened = p.opened;
  out = p.out;
  top = p.top;
}

abbrev pub bound : Place → Ty → Place
bound p ty = bound_as false p ty

-- where each parse, of this type, goes to a block with all values
abbrev pub before : Place → Ty → ℕ → Place
before p ty block = record {
  variables = p.variables;
  grow = p.grow;
  types = p.types;
  of = of_type ty;
  opened = p.opened;
  out = to_block block (all_of p);
  top = p.top;
}

-- in a declaration
abbrev pub opened_in : Place → ℕ → Place
opened_in p d = record {
  variables = p.variables;
  grow = p.grow;
  types = p.types;
  of = p.of;
  opened = p.opened ++ d ∷ [];
  out = p.out;
  top = p.top;
}

-- the numbers that variables have
abbrev pub renumber : List ℕ → List ℕ → List ℕ
renumber [] m = []
renumber (x ∷ xs) m = slice_index m x ∷ renumber xs m

-- an operation at values
abbrev pub doing_at : Place → ValueType → Operation → List ℕ → Span → Targets → Instr
doing_at p of op ys span targets = do_ (record {
  operation = op;
  arguments = ys;
  of = of;
  span = span;
  opened = p.opened;
  targets = targets;
})

-- where the array is built first of the second variable, which grows: the types of all values then, and the arguments
abbrev pub array_type : Option ValueType → ValueType
array_type (Some (builder ty)) = of_type (array ty)
array_type ty = of_type unit

abbrev pub second : List ℕ → ℕ
second (x ∷ y ∷ xs) = y
second xs = 0

abbrev pub number_of : Place → ℕ → ℕ
number_of p x = slice_index p.variables x

abbrev pub built_types : Bool → Place → List ℕ → List ValueType
built_types true p xs = p.types ++ array_type (slice_get p.types (number_of p (second xs))) ∷ []
built_types false p xs = p.types

abbrev pub built_front : Bool → Place → List ℕ → List Instr
built_front true p xs = build (number_of p (second xs)) ∷ []
built_front false p xs = []

abbrev pub with_second : ℕ → List ℕ → List ℕ
with_second i (x ∷ y ∷ xs) = x ∷ i ∷ xs
with_second i xs = xs

abbrev pub built_arguments : Bool → Place → List ℕ → List ℕ
built_arguments true p xs = with_second (next_of p) (renumber xs p.variables)
built_arguments false p xs = renumber xs p.variables

-- the rest of the block in which a form begins, and the form's further blocks
pub record Piece : Type 0 where
  pub body : List Instr
  pub exit : Exit
  pub more : List Block

-- a block that begins with values of these types
abbrev pub entry_of : List ValueType → Piece → Block
entry_of types p = record { params = types; body = p.body; exit = p.exit }

-- a block that only ends
abbrev pub ending_block : List ValueType → Exit → Block
ending_block types e = record { params = types; body = []; exit = e }

-- where an operation goes on that fails, where it may fail
abbrev pub fail_count : Bool → ℕ
fail_count true = 1
fail_count false = 0

abbrev pub fail_blocks : Bool → List ValueType → List Block
fail_blocks true types = ending_block types fail_ ∷ []
fail_blocks false types = []

abbrev pub fail_target : Bool → ℕ → Option ℕ
fail_target true block = Some block
fail_target false block = None

-- and where for each of its faults
abbrev pub halts : List Fault → List ValueType → Span → List Block
halts [] types span = []
halts (f ∷ fs) types span = ending_block types (halt f span) ∷ halts fs types span

abbrev pub fault_targets : List Fault → ℕ → List Target
fault_targets [] at = []
fault_targets (f ∷ fs) at = record { fault = f; block = at } ∷ fault_targets fs (at + 1)

-- the blocks that an operation has which ends its thread where it fails
abbrev pub stops : Operation → List ValueType → Span → List Block
stops op types span = fail_blocks (may_fail op) types ++ halts (faults_of op) types span

abbrev pub stop_count : Operation → ℕ
stop_count op = fail_count (may_fail op) + length (faults_of op)

abbrev pub stop_targets : Operation → ℕ → Targets
stop_targets op at = record {
  fail = fail_target (may_fail op) at;
  faults = fault_targets (faults_of op) (at + fail_count (may_fail op));
}

-- and one that goes on at the first of its blocks where it fails
abbrev pub choice_targets : Operation → ℕ → Targets
choice_targets op at = record { fail = fail_target (may_fail op) at; faults = fault_targets (faults_of op) (at + 1) }
