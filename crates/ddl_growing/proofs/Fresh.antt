-- The types of a place at new variables.
use Rattle.std.proofs.Common.{◌≡◌, ℕ, ◌+◌, ◌<◌, ◌≤◌, ◌≢◌, List, [], ◌∷◌, refl, sym, ap, ◌∙◌, arith, zero, suc, get_or, length, ne_eqb, subst, map}
use Rattle.ddl_types.specs.declared.ty.Ty as program
use Rattle.ddl_types.specs.TyView.{ty_view}
use Rattle.ddl_types.specs.Types.{Ty, Ty.var, Ty.con, Tys, Tys.none, Tys.more, Sub, Head.place, on, on_all, Below, BelowAll, arguments, tys_of}
use Rattle.ddl_growing.specs.Carrying.{listed}
use Rattle.ddl_judging.specs.Shapes.{at, fresh}
use Rattle.ddl_growing.proofs.Naming.{listed_fresh}

-- maps that agree below a number give the same for types below it
mutual
  on_agreed : (t : Ty) (k : ℕ) (f g : Sub) → Below t k → ((i : ℕ) → i < k → f i ≡ g i) → on t f ≡ on t g
  on_agreed (var v) k f g b h = h v b
  on_agreed (con c ts) k f g b h = ap (con c) (all_agreed ts k f g b h)

  all_agreed : (ts : Tys) (k : ℕ) (f g : Sub) → BelowAll ts k → ((i : ℕ) → i < k → f i ≡ g i) → on_all ts f ≡ on_all ts g
  all_agreed none k f g b h = refl
  all_agreed (more t ts) k f g b h = let x = on_agreed t k f g b.0 h in let y = all_agreed ts k f g b.1 h in cc

-- a map that gives variables below a number gives types below it
mutual
  on_lower : (t : Ty) (k m : ℕ) (f : Sub) → Below t k → ((i : ℕ) → i < k → Below (f i) m) → Below (on t f) m
  on_lower (var v) k m f b h = h v b
  on_lower (con c ts) k m f b h = all_lower ts k m f b h

  all_lower : (ts : Tys) (k m : ℕ) (f : Sub) → BelowAll ts k → ((i : ℕ) → i < k → Below (f i) m) → BelowAll (on_all ts f) m
  all_lower none k m f b h = tt
  all_lower (more t ts) k m f b h = (on_lower t k m f b.0 h, all_lower ts k m f b.1 h)

-- a place without variables leaves types as they are
mutual
  pub as_it_is : (t : Ty) (n : ℕ) → on t (at 0 n) ≡ t
  as_it_is (var v) n = refl
  as_it_is (con c ts) n = ap (con c) (all_as_they_are ts n)

  all_as_they_are : (ts : Tys) (n : ℕ) → on_all ts (at 0 n) ≡ ts
  all_as_they_are none n = refl
  all_as_they_are (more t ts) n = let x = as_it_is t n in let y = all_as_they_are ts n in cc

listed_at : (k n i : ℕ) (d : Ty) → i < k → get_or (listed k n) i d ≡ var (n + i)
listed_at zero n i d h = absurd (omega arith)
listed_at (suc k) n zero d h = ap var (let q : n ≡ n + 0 = omega arith in q)
listed_at (suc k) n (suc i) d h = listed_at k (suc n) i d (omega arith) ∙ ap var (let q : suc n + i ≡ n + suc i = omega arith in q)

at_some : (k n i : ℕ) → k ≢ 0 → at k n i ≡ var (n + i)
at_some k n i h = rw (ne_eqb k 0 h) refl

-- types at the listed variables are those at the new ones
pub at_listed : (u : Ty) (k n : ℕ) → Below u k → k ≢ 0 → on u (arguments (listed k n)) ≡ on u (at k n)
at_listed u k n b h = on_agreed u k (arguments (listed k n)) (at k n) b (λ i l. listed_at k n i (var i) l ∙ sym (at_some k n i h))

pub lower_at : (u : Ty) (k n : ℕ) → Below u k → k ≢ 0 → Below (on u (at k n)) (n + k)
lower_at u k n b h =
    on_lower u k (n + k) (at k n) b (λ i l. let P : Ty → Type 0 =
    λ z. Below z (n + k) in subst P (sym (at_some k n i h)) (let q : n + i < n + k = omega (arith, l) in q))

pub fresh_lower : (k n m : ℕ) → n + k ≤ m → BelowAll (fresh k n) m
fresh_lower zero n m h = tt
fresh_lower (suc k) n m h = (let q : n < m = omega arith in q, fresh_lower k (suc n) m (omega arith))

pub tys_listed : (xs : List program.Ty) (k n : ℕ) → map ty_view xs ≡ listed k n → tys_of (map ty_view xs) ≡ fresh k n
tys_listed xs k n e = ap tys_of e ∙ listed_fresh k n
