-- The elements of a list, one after another.
use Rattle.std.proofs.Common.{◌≡◌, ℕ, ◌+◌, ◌<◌, List, [], ◌∷◌, length, drop, get_or, refl, drop-cons, add-one, arith}

-- a list without a length has no elements
pub none : {X : Type 0} (xs : List X) → length xs ≡ 0 → xs ≡ []
none [] h = refl
none (x ∷ xs) h = absurd (omega (arith, h))

-- what is left of a list begins with the element there
pub next : {X : Type 0} (xs : List X) (i : ℕ) (x : X) → x ≡ get_or xs i x → i < length xs → drop i xs ≡ x ∷ drop (i + 1) xs
next xs i x e h = rw (add-one, drop-cons xs i x, ← e) refl
