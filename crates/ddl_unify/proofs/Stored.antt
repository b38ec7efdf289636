-- The list of bindings, oldest first, and the bindings that it stands for.
use Rattle.std.proofs.Common.{◌≡◌, ℕ, ◌<◌, ◌+◌, ◌-◌, ◌≢◌, List, [], ◌∷◌, ◌++◌, refl, sym, ap, ◌∙◌, arith, zero, suc, length, get_or, inl, inr}
use Rattle.ddl_types.specs.TyView.{ty_view}
use Rattle.ddl_types.specs.Types.{Ty}
use Rattle.ddl_unify.specs.declared.store.Bound.{Bound}
use Rattle.ddl_unify.specs.View.{bound_view, onto, bounds}
use Rattle.ddl_unify.specs.Bindings.{Binding, Binds}
use Rattle.ddl_unify.specs.Kept.{Kept, IsFrom}

pub onto_append : (bs : List Binding) (a b : List Bound) → onto bs (a ++ b) ≡ onto (onto bs a) b
onto_append bs [] b = refl
onto_append bs (x ∷ a) b = onto_append (bound_view x ∷ bs) a b

onto_last : (bs : List Binding) (xs : List Bound) (x : Bound) → onto bs (xs ++ x ∷ []) ≡ bound_view x ∷ onto bs xs
onto_last bs [] x = refl
onto_last bs (y ∷ xs) x = onto_last (bound_view y ∷ bs) xs x

-- the last binding of the list is the newest
pub bounds_more : (xs xs2 : List Bound) (x : Bound) → xs2 ≡ xs ++ x ∷ [] → bounds xs2 ≡ bound_view x ∷ bounds xs
bounds_more xs xs2 x e = ap bounds e ∙ onto_last [] xs x

binds_under : (bs : List Binding) (xs : List Bound) (v : ℕ) (t : Ty) → Binds bs v t → Binds (onto bs xs) v t
binds_under bs [] v t h = h
binds_under bs (x ∷ xs) v t h = binds_under (bound_view x ∷ bs) xs v t (inr h)

binds_onto : (bs : List Binding) (xs : List Bound) (k v : ℕ) (b : Bound) → IsFrom k v xs → b ≡ get_or xs k b → Binds (onto bs xs) v (ty_view b.to)
binds_onto bs [] k v b f e = absurd f
binds_onto bs (x ∷ xs) zero v b f e = binds_under (bound_view x ∷ bs) xs v (ty_view b.to) (inl (f, ap (λ (z : Bound). ty_view z.to) (sym e)))
binds_onto bs (x ∷ xs) (suc k) v b f e = binds_onto (bound_view x ∷ bs) xs k v b f e

-- the k-th binding binds its variable
pub binds_at : (xs : List Bound) (k v : ℕ) (b : Bound) → IsFrom k v xs → b ≡ get_or xs k b → Binds (bounds xs) v (ty_view b.to)
binds_at xs k v b f e = binds_onto [] xs k v b f e

pub from_below : (xs : List Bound) (k v : ℕ) → IsFrom k v xs → k < length xs
from_below [] k v f = absurd f
from_below (x ∷ xs) zero v f = omega arith
from_below (x ∷ xs) (suc k) v f = omega (arith, from_below xs k v f)

pub from_place : (place : List ℕ) (xs : List Bound) (v at : ℕ) → Kept place xs → at ≡ get_or place v 0 → at ≢ 0 → IsFrom (at - 1) v xs
from_place place xs v at k e n = k.bound v (at - 1) (omega arith)

pub get_past : (xs : List ℕ) (i : ℕ) → length xs < i + 1 → get_or xs i 0 ≡ 0
get_past [] i h = refl
get_past (x ∷ xs) zero h = absurd (omega arith)
get_past (x ∷ xs) (suc i) h = get_past xs i (omega arith)
