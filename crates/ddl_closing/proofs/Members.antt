-- The shapes of places and of bitdata in their lists.
use Rattle.std.proofs.Common.{◌≡◌, ℕ, zero, suc, ◌<◌, ◌≤◌, List, [], ◌∷◌, map, length, get_or, refl, ap, sym, arith}
use Rattle.ddl_typed.specs.declared.specification.PlaceType.{PlaceType}
use Rattle.ddl_judging.specs.declared.shapes.BitsShape.{BitsShape}
use Rattle.ddl_judging.specs.Shapes.{bits_at, no_shape, place_at}
use Rattle.ddl_judging.specs.Views.{bit_shape, place_shape}

pub place_is : (xs : List PlaceType) (i : ℕ) (x : PlaceType) → i < length xs → x ≡ get_or xs i x → place_at (map place_shape xs) i ≡ place_shape x
place_is [] i x h e = absurd (omega arith)
place_is (y ∷ ys) zero x h e = ap place_shape (sym e)
place_is (y ∷ ys) (suc i) x h e = place_is ys i x (omega arith) e

pub no_place : (xs : List PlaceType) (i : ℕ) → length xs ≤ i → place_at (map place_shape xs) i ≡ no_shape
no_place [] i h = refl
no_place (y ∷ ys) zero h = absurd (omega arith)
no_place (y ∷ ys) (suc i) h = no_place ys i (omega arith)

pub bits_is : (xs : List BitsShape) (i : ℕ) (x : BitsShape) → i < length xs → x ≡ get_or xs i x → bits_at (map bit_shape xs) i ≡ bit_shape x
bits_is [] i x h e = absurd (omega arith)
bits_is (y ∷ ys) zero x h e = ap bit_shape (sym e)
bits_is (y ∷ ys) (suc i) x h e = bits_is ys i x (omega arith) e

pub no_bits_there : (xs : List BitsShape) (i : ℕ) → length xs ≤ i → (bits_at (map bit_shape xs) i).shape ≡ no_shape
no_bits_there [] i h = refl
no_bits_there (y ∷ ys) zero h = absurd (omega arith)
no_bits_there (y ∷ ys) (suc i) h = no_bits_there ys i (omega arith)

pub ruleset members = (place_is, no_place, bits_is, no_bits_there)
