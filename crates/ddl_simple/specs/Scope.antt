-- The names that are in scope, and what a name means.
use Rattle.std.specs.Prelude.{ℕ, List, [], ◌∷◌, length, Option, Some, None, if◌then◌else◌, bytes_eq}
use Rattle.ddl_types.specs.Types.{Ty}

-- a name that is bound, and the type of its value
pub record Binding : Type 0 where
  pub name : List ℕ
  pub of : Ty

-- the names in scope, the latest first
abbrev pub Scope : Type 0
Scope = List Binding

-- what a name means: the number of its binding, which is how many names were in scope before it, and its type
pub record Meaning : Type 0 where
  pub number : ℕ
  pub of : Ty

-- a name means its latest binding
abbrev pub meaning : Scope → List ℕ → Option Meaning
meaning [] x = None
meaning (b ∷ bs) x = if bytes_eq b.name x then Some (record { number = length bs; of = b.of }) else meaning bs x
