-- Names of declarations, and what types are that are named by numbers.
use Rattle.std.specs.Prelude.{ℕ, List}
use Rattle.ddl_types.specs.Layout.{Layout}
use Rattle.ddl_types.specs.Types.{Ty}

-- a declaration: the number of its module, and its name
pub record DeclName : Type 0 where
  pub unit : ℕ
  pub name : List ℕ

-- a record with its fields' names and types, a union with its tags and their contents' types, or a bitdata
pub data PlaceShape : Type 0 where
  record_shape : List (List ℕ) → List Ty → PlaceShape
  union_shape : List (List ℕ) → List Ty → PlaceShape
  bits_shape : List ℕ → Layout → PlaceShape
