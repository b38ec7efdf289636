-- Bindings with the place of each variable's own: 0 for none, k + 1 for the k-th.
use Rattle.std.specs.Prelude.{◌≡◌, ℕ, ◌+◌, List, [], ◌∷◌, length, get_or, zero, suc}
use Rattle.ddl_unify.specs.declared.store.Bound.{Bound}
use Rattle.ddl_unify.specs.Bindings.{Unbound, Sound, ToBelow}
use Rattle.ddl_unify.specs.Measures.{zeros}
use Rattle.ddl_unify.specs.View.{bounds}

-- the k-th binding is that of a variable
abbrev pub IsFrom : ℕ → ℕ → List Bound → Type 0
IsFrom k v [] = ⊥
IsFrom zero v (x ∷ xs) = x.from ≡ v
IsFrom (suc k) v (x ∷ xs) = IsFrom k v xs

-- the bindings are sound, each variable's place is that of its binding, and each binding has one variable's place
pub record Kept (place : List ℕ) (xs : List Bound) : Type 0 where
  pub sound : Sound (bounds xs)
  pub unbound : (v : ℕ) → get_or place v 0 ≡ 0 → Unbound v (bounds xs)
  pub bound : (v k : ℕ) → get_or place v 0 ≡ suc k → IsFrom k v xs
  pub below : ToBelow (bounds xs) (length place)
  pub counted : zeros place + length xs ≡ length place
