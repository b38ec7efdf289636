-- Which demands are kept, by the variables of their types.
use Rattle.std.proofs.Common.{◌≡◌, ℕ, ◌+◌, ◌<◌, List, refl, sym, subst, ◌∙◌, inl, inr, ◌⊎◌, map, take, length, get_or, true, false, ◌||◌, Bool}
use Rattle.ddl_types.specs.declared.ty.Ty as program
use Rattle.ddl_types.specs.Types.{Sub, tys_of}
use Rattle.ddl_types.specs.TyView.{ty_view}
use Rattle.ddl_unify.specs.Occurs.{has, has_all}
use Rattle.ddl_conditions.specs.Closing.{Says}
use Rattle.ddl_conditions.specs.Growing.{Group}
use Rattle.ddl_conditions.specs.Keeping.{AllStand}
use Rattle.ddl_conditions.proofs.Holding.{holds_in, holds_next}

or_cases : (a b : Bool) → (a || b) ≡ true → (a ≡ true) ⊎ (b ≡ true)
or_cases true b e = inl refl
or_cases false b e = inr e

-- a variable of one part of a list does not stand
pub stand_not_in : (g : Group) (f : Sub) (xs : List program.Ty) (i : ℕ) (x : program.Ty) → i < length xs → x ≡ get_or xs i x
    → (AllStand g f (has (ty_view x)) → ⊥) → AllStand g f (has_all (tys_of (map ty_view xs))) → ⊥
stand_not_in g f xs i x h e unmet a = unmet (λ v z. a v (holds_in xs i x v h e z))

-- those of one part more stand
pub stand_next : (g : Group) (f : Sub) (xs : List program.Ty) (i : ℕ) (x : program.Ty) → i < length xs → x ≡ get_or xs i x
    → AllStand g f (has_all (tys_of (map ty_view (take i xs)))) → AllStand g f (has (ty_view x))
    → AllStand g f (has_all (tys_of (map ty_view (take (i + 1) xs))))
stand_next g f xs i x h e a k v z = elim (or_cases (has_all (tys_of (map ty_view (take i xs))) v) (has (ty_view x) v) (sym (holds_next xs i x v h e) ∙ z))
    [ inl q ↦ a v q | inr q ↦ k v q ]

-- a test that came out so
pub says_true : (b : Bool) (A : Type 0) → b ≡ true → Says b A → A
says_true b A e s = subst (λ c. Says c A) e s

pub says_false : (b : Bool) (A : Type 0) → b ≡ false → Says b A → A → ⊥
says_false b A e s = subst (λ c. Says c A) e s
