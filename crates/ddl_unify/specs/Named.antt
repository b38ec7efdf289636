-- Which variables stand in the types that others were bound to.
use Rattle.std.specs.Prelude.{◌≡◌, ◌≤◌, ◌||◌, ℕ, List, [], ◌∷◌, length, get_or, Bool, false}
use Rattle.ddl_unify.specs.declared.store.Bound.{Bound}
use Rattle.ddl_unify.specs.Occurs.{has}
use Rattle.ddl_unify.specs.Bindings.{Binding}
use Rattle.ddl_unify.specs.View.{bounds}

-- a variable stands in none of the types that variables are bound to
abbrev pub Absent : ℕ → List Binding → Type 0
Absent v [] = Unit {0}
Absent v (b ∷ bs) = (has b.to v ≡ false) × Absent v bs

-- there is a mark for each variable, and a variable that is not marked stands in none of the types
pub record Named (named : List Bool) (place : List ℕ) (xs : List Bound) : Type 0 where
  pub long : length place ≤ length named
  pub absent : (v : ℕ) → get_or named v false ≡ false → Absent v (bounds xs)

-- marked are the variables that were, and those of a set
pub record Marked (is_in : ℕ → Bool) (named named2 : List Bool) : Type 0 where
  pub long : length named2 ≡ length named
  pub marks : (v : ℕ) → get_or named2 v false ≡ (is_in v || get_or named v false)
