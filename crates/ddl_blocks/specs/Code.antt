-- Code, as definitions see it.
use Rattle.std.specs.Prelude.{ℕ, Bool, List, Option}
use Rattle.ddl_base.specs.declared.span.Span.{Span}
use Rattle.ddl_base.specs.declared.why.Why.{Why}
use Rattle.ddl_types.specs.declared.fault.Fault.{Fault}
use Rattle.ddl_types.specs.Types.{Ty}
use Rattle.ddl_ops.specs.declared.pattern.Pattern.{Pattern}
use Rattle.ddl_core.specs.Core.{Operation}
use Rattle.ddl_core.specs.Places.{DeclName, PlaceShape}

-- the type of a value of a block: a type of the language, an array that still grows, or the number of a thread
pub data ValueType : Type 0 where
  of_type : Ty → ValueType
  builder : Ty → ValueType
  thread : ValueType

-- the block for a fault
pub record Target : Type 0 where
  pub fault : Fault
  pub block : ℕ

-- where an operation goes on that fails, and for each fault that it may have
pub record Targets : Type 0 where
  pub fail : Option ℕ
  pub faults : List Target

-- an operation at values of its block, with its result's type, the declarations in which it stands, and where it goes on
-- without a result
pub record Prim : Type 0 where
  pub operation : Operation
  pub arguments : List ℕ
  pub of : ValueType
  pub span : Span
  pub opened : List ℕ
  pub targets : Targets

-- an instruction; values and blocks are named by their numbers
pub data Instr : Type 0 where
  do_ : Prim → Instr
  -- the array of a builder
  build : ℕ → Instr
  -- the number of the first pattern that a value has, else how many there are
  choose : ℕ → List Pattern → Instr
  -- the content, of this type, of a value that has a pattern; where it has another one, on at the other block
  content : ℕ → Pattern → Ty → ℕ → Instr
  -- a suspended thread at a block with values; its number is a value where it is the right side of a biased choice
  spawn : ℕ → List ℕ → Bool → Instr
  notify : ℕ → Instr
  dup : ℕ → Instr
  free : ℕ → Instr
  note : Why → Span → List ℕ → Instr

-- the end of a block
pub data Exit : Type 0 where
  jump : ℕ → List ℕ → Exit
  branch : ℕ → ℕ → ℕ → Exit
  switch_to : ℕ → List ℕ → Exit
  -- a function at values, and the block where each result goes on, after the values that are kept
  call_to : ℕ → List ℕ → ℕ → List ℕ → List ℕ → Exit
  return : ℕ → Exit
  fail_ : Exit
  halt : Fault → Span → Exit

-- a block: the types of the values that it begins with, its instructions, its end
pub record Block : Type 0 where
  pub params : List ValueType
  pub body : List Instr
  pub exit : Exit

-- a function: how many values it takes, its blocks, its result's type, the declaration whose copy it is
pub record Function : Type 0 where
  pub params : ℕ
  pub blocks : List Block
  pub result : ValueType
  pub name : Option ℕ

-- what the machine runs
pub record Code : Type 0 where
  pub functions : List Function
  pub entry : ℕ
  pub texts : List (List ℕ)
  pub units : List (List ℕ)
  pub decls : List DeclName
  pub places : List PlaceShape
  pub entry_name : Span
  pub result : Ty
