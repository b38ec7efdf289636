-- Members of shapes.
use Rattle.std.proofs.Common.{◌≡◌, ℕ, zero, suc, ◌<◌, ◌≤◌, List, [], ◌∷◌, length, map, get_or, Option, Some, None, is_some, MatchOption, Bor, HoldsAt, refl}
use Rattle.std.proofs.Common.{sym, ap, ◌∙◌, arith}
use Rattle.ddl_judging.specs.declared.shapes.BitsShape.{BitsShape}
use Rattle.ddl_types.specs.Types.{Ty}
use Rattle.ddl_judging.specs.Judging.{if_member}
use Rattle.ddl_judging.specs.Members.{if_found, no_bits}
use Rattle.ddl_judging.specs.Shapes.{bits_at}
use Rattle.ddl_judging.specs.Views.{bit_shape}

pub found_is : (o : Option Ty) (x : List ℕ) (t : Ty) → if_found (is_some o) x t ≡ if_member o x t
found_is None x t = refl
found_is (Some u) x t = refl

-- what a look-up finds, as it is tested
pub found_some : {A : Type 0} (t : A → Ty) (o : Option A) (m : Option Ty) → MatchOption o (m ≡ None) (λ a. m ≡ Some (t a)) → is_some o ≡ is_some m
found_some t None m h = sym (ap (λ (z : Option Ty). is_some z) h)
found_some t (Some a) m h = sym (ap (λ (z : Option Ty). is_some z) h)

-- the shape of a number, and none beyond the list
pub bits_none : (xs : List BitsShape) (i : ℕ) → length xs ≤ i → bits_at (map bit_shape xs) i ≡ no_bits
bits_none [] i h = refl
bits_none (x ∷ xs) zero h = absurd (omega arith)
bits_none (x ∷ xs) (suc i) h = bits_none xs i (omega arith)

pub bits_some : (xs : List BitsShape) (i : ℕ) (b : BitsShape) → i < length xs → b ≡ get_or xs i b → bits_at (map bit_shape xs) i ≡ bit_shape b
bits_some [] i b h e = absurd (omega arith)
bits_some (x ∷ xs) zero b h e = ap bit_shape (sym e)
bits_some (x ∷ xs) (suc i) b h e = bits_some xs i b (omega arith) e

-- what a look-up of a list answers, said of the shapes
pub bits_lookup : (o : Option (Bor BitsShape)) (xs ys : List BitsShape) (i : ℕ) → ys ≡ xs
    → MatchOption o (length ys ≤ i) (λ x. (i < length ys) × HoldsAt (λ y. x.now ≡ y) ys i)
    → MatchOption o (bits_at (map bit_shape xs) i ≡ no_bits) (λ b. bits_at (map bit_shape xs) i ≡ bit_shape b.now)
bits_lookup None xs ys i e h = ap (λ (z : List BitsShape). bits_at (map bit_shape z) i) (sym e) ∙ bits_none ys i h
bits_lookup (Some b) xs ys i e h = ap (λ (z : List BitsShape). bits_at (map bit_shape z) i) (sym e) ∙ bits_some ys i b.now h.0 (h.1 b.now)
