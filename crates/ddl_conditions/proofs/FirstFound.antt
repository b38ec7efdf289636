-- The shape of a place, and the types of a list, as the program reads them.
use Rattle.std.proofs.Common.{◌≡◌, ℕ, ◌+◌, ◌<◌, ◌≤◌, List, [], ◌∷◌, ◌++◌, refl, sym, ap, subst, arith, zero, suc, map, take, length, get_or, Contains, add-one}
use Rattle.std.proofs.Common.{true, false, Bool}
use Rattle.ddl_types.specs.declared.ty.Ty as program
use Rattle.ddl_types.specs.Types.{Ty, Sub, on}
use Rattle.ddl_types.specs.TyView.{ty_view}
use Rattle.ddl_typed.specs.declared.specification.PlaceType.{PlaceType}
use Rattle.ddl_judging.specs.Shapes.{no_shape, place_at}
use Rattle.ddl_judging.specs.Views.{place_shape}
use Rattle.ddl_unify.specs.Occurs.{has}
use Rattle.ddl_conditions.specs.Seen.{AreRead, IsRead}
use Rattle.ddl_conditions.proofs.Opening.{read_more}

pub place_found : (xs : List PlaceType) (p : ℕ) (x : PlaceType) → p < length xs → x ≡ get_or xs p x → place_at (map place_shape xs) p ≡ place_shape x
place_found [] p x h e = absurd (omega arith)
place_found (y ∷ xs) zero x h e = ap (λ (q : PlaceType). place_shape q) (sym e)
place_found (y ∷ xs) (suc p) x h e = place_found xs p x (omega arith) e

pub place_beyond : (xs : List PlaceType) (p : ℕ) → length xs ≤ p → place_at (map place_shape xs) p ≡ no_shape
place_beyond [] p h = refl
place_beyond (y ∷ xs) zero h = absurd (omega arith)
place_beyond (y ∷ xs) (suc p) h = place_beyond xs p (omega arith)

-- an element of a list, as it is seen
pub seen_in : (xs : List program.Ty) (i : ℕ) (x : program.Ty) → i < length xs → x ≡ get_or xs i x → Contains (map ty_view xs) (ty_view x)
seen_in [] i x h e = absurd (omega arith)
seen_in (y ∷ xs) zero x h e = (zero, omega arith, ap (λ (q : program.Ty). ty_view q) (sym e))
seen_in (y ∷ xs) (suc i) x h e = let c : Contains (map ty_view xs) (ty_view x) = seen_in xs i x (omega arith) e in (suc c.0, omega (arith, c.1), c.2)

-- the list with one element more, as it is seen
pub seen_next : (xs : List program.Ty) (i : ℕ) (x : program.Ty) → i < length xs → x ≡ get_or xs i x
    → map ty_view (take (i + 1) xs) ≡ map ty_view (take i xs) ++ ty_view x ∷ []
seen_next xs i x h e = rw (add-one i) (by_suc xs i h e)
  where
    by_suc : (xs : List program.Ty) (i : ℕ) → i < length xs → x ≡ get_or xs i x → map ty_view (take (suc i) xs) ≡ map ty_view (take i xs) ++ ty_view x ∷ []
    by_suc [] i h e = absurd (omega arith)
    by_suc (y ∷ xs) zero h e = ap (λ (q : program.Ty). ty_view q ∷ []) (sym e)
    by_suc (y ∷ xs) (suc i) h e = ap (λ zs. ty_view y ∷ zs) (by_suc xs i (omega arith) e)

-- the variable stands in a type of the list
pub read_found : (xs : List program.Ty) (i : ℕ) (x : program.Ty) (f : Sub) (v : ℕ) (b : Bool) (seen seen2 : List Bool) (pending pending2 : List ℕ)
    → i < length xs → x ≡ get_or xs i x → b ≡ true → IsRead b f v (ty_view x) seen seen2 pending pending2 → (t : Ty) × Contains (map ty_view xs) t
    × (has (on t f) v ≡ true)
read_found xs i x f v b seen seen2 pending pending2 h e z r =
    let q : IsRead true f v (ty_view x) seen seen2 pending pending2 = subst (λ c. IsRead c f v (ty_view x) seen seen2 pending pending2) z r in
    (ty_view x, seen_in xs i x h e, q)

-- or it does not, and one type more was read
pub read_next : (xs : List program.Ty) (i : ℕ) (x : program.Ty) (f : Sub) (v : ℕ) (b : Bool) (seen seen2 seen3 : List Bool) (pending pending2 pending3 : List ℕ)
    → i < length xs → x ≡ get_or xs i x → AreRead false f v (map ty_view (take i xs)) seen seen2 pending pending2 → b ≡ false
    → IsRead b f v (ty_view x) seen2 seen3 pending2 pending3
    → AreRead false f v (map ty_view (take (i + 1) xs)) seen seen3 pending pending3
read_next xs i x f v b seen seen2 seen3 pending pending2 pending3 h e a z r =
    let q : IsRead false f v (ty_view x) seen2 seen3 pending2 pending3 = subst (λ c. IsRead c f v (ty_view x) seen2 seen3 pending2 pending3) z r in
    read_more f v (map ty_view (take i xs)) (map ty_view (take (i + 1) xs)) (ty_view x) seen seen2 seen3 pending pending2 pending3 (seen_next xs i x h e) a q

-- what was read of a list that is another
pub are_read : (b c : Bool) (f : Sub) (v : ℕ) (ts us : List Ty) (seen seen2 : List Bool) (pending pending2 : List ℕ) → b ≡ c → ts ≡ us
    → AreRead b f v ts seen seen2 pending pending2 → AreRead c f v us seen seen2 pending pending2
are_read b c f v ts us seen seen2 pending pending2 z e r =
    subst (λ xs. AreRead c f v xs seen seen2 pending pending2) e (subst (λ d. AreRead d f v ts seen seen2 pending pending2) z r)
