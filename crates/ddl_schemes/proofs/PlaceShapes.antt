-- Where the shape of a place stands in the list, and where there is none.
use Rattle.std.proofs.Common.{◌≡◌, ℕ, zero, suc, ◌<◌, ◌≤◌, List, [], ◌∷◌, map, get_or, length, refl, sym, ap, arith}
use Rattle.ddl_typed.specs.declared.specification.PlaceType.{PlaceType}
use Rattle.ddl_judging.specs.Shapes.{no_shape, place_at}
use Rattle.ddl_judging.specs.Views.{place_shape}

pub place_found : (xs : List PlaceType) (p : ℕ) (x : PlaceType) → p < length xs → x ≡ get_or xs p x → place_at (map place_shape xs) p ≡ place_shape x
place_found [] p x h e = absurd (omega arith)
place_found (y ∷ xs) zero x h e = ap (λ (q : PlaceType). place_shape q) (sym e)
place_found (y ∷ xs) (suc p) x h e = place_found xs p x (omega arith) e

pub place_beyond : (xs : List PlaceType) (p : ℕ) → length xs ≤ p → place_at (map place_shape xs) p ≡ no_shape
place_beyond [] p h = refl
place_beyond (y ∷ xs) zero h = absurd (omega arith)
place_beyond (y ∷ xs) (suc p) h = place_beyond xs p (omega arith)
