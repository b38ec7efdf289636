-- Members that are found by their names.
use Rattle.std.proofs.Common.{◌≡◌, ℕ, ◌+◌, ◌<◌, ◌≤◌, List, [], ◌∷◌, Bool, true, false, Some, None, refl, sym, ap, ◌∙◌, arith, zero, suc, get_or, length, map}
use Rattle.std.proofs.Common.{inl, inr, min, not}
use Rattle.std.proofs.lemmas.Bool.Decides.{eqb_tells}
use Rattle.std.proofs.lemmas.Bool.{false≢true}
use Rattle.std.proofs.Math.Bool.{beq}
use Rattle.std.specs.Prelude.{bytes_eq}
use Rattle.ddl_types.specs.declared.ty.Ty as program
use Rattle.ddl_types.specs.TyView.{ty_view}
use Rattle.ddl_judging.specs.Shapes.{Shape, bits_at, found, member, no_shape, place_at}
use Rattle.ddl_typed.specs.declared.specification.PlaceType.{PlaceType}
use Rattle.ddl_judging.specs.declared.shapes.BitsShape.{BitsShape}
use Rattle.ddl_judging.specs.Views.{bit_shape, place_shape}

-- the first names differ from this one
abbrev pub Differ : List ℕ → List (List ℕ) → ℕ → Type 0
Differ x ns i = (k : ℕ) → k < i → bytes_eq (get_or ns k []) x ≡ false

read_at : {A : Type 0} (xs : List A) (i : ℕ) (x d : A) → i < length xs → x ≡ get_or xs i x → get_or xs i d ≡ x
read_at [] i x d h e = absurd (omega arith)
read_at (y ∷ xs) zero x d h e = sym e
read_at (y ∷ xs) (suc i) x d h e = read_at xs i x d (omega arith) e

pub differ_more : (x : List ℕ) (ns : List (List ℕ)) (i j : ℕ) (n : List ℕ) → j ≡ i + 1 → i < length ns → n ≡ get_or ns i n → bytes_eq n x ≡ false
    → Differ x ns i → Differ x ns j
differ_more x ns i j n e h q b d k l =
    elim (eqb_tells k i) [
      | inl s ↦ ap (λ m. bytes_eq (get_or ns m []) x) s.1 ∙ ap (λ z. bytes_eq z x) (read_at ns i n [] h q) ∙ b
      | inr s ↦ d k (omega (arith, l, e, s.1))
    ]

-- the member of the first name that is this one
pub member_at : (x : List ℕ) (ns : List (List ℕ)) (ts : List program.Ty) (i : ℕ) (n : List ℕ) (t : program.Ty) → i < length ns → i < length ts
    → n ≡ get_or ns i n → t ≡ get_or ts i t → bytes_eq n x ≡ true → Differ x ns i → member x ns (map ty_view ts) ≡ Some (ty_view t)
member_at x [] ts i n t h k q r b d = absurd (omega arith)
member_at x (m ∷ ns) [] i n t h k q r b d = absurd (omega arith)
member_at x (m ∷ ns) (u ∷ ts) zero n t h k q r b d = rw (ap (λ z. bytes_eq z x) (sym q) ∙ b) (ap (λ z. Some (ty_view z)) (sym r))
member_at x (m ∷ ns) (u ∷ ts) (suc i) n t h k q r b d =
    rw (d 0 (omega arith)) (member_at x ns ts i n t (omega arith) (omega arith) q r b (λ j l. d (suc j) (omega (arith, l))))

-- no name is this one
pub member_none : (x : List ℕ) (ns : List (List ℕ)) (ts : List program.Ty) (i : ℕ) → min (length ns) (length ts) ≤ i → Differ x ns i
    → member x ns (map ty_view ts) ≡ None
member_none x [] ts i h d = refl
member_none x (m ∷ ns) [] i h d = refl
member_none x (m ∷ ns) (u ∷ ts) zero h d = absurd (omega (arith, h))
member_none x (m ∷ ns) (u ∷ ts) (suc i) h d = rw (d 0 (omega arith)) (member_none x ns ts i (omega (arith, h)) (λ j l. d (suc j) (omega (arith, l))))

-- a field or a tag, by whether the names are tags
pub found_same : (b : Bool) (x : List ℕ) (s : Shape) → s.tagged ≡ b → found b x s ≡ member x s.names s.types
found_same true x s e = rw e refl
found_same false x s e = rw e refl

pub found_other : (b : Bool) (x : List ℕ) (s : Shape) → (s.tagged ≡ b → ⊥) → found b x s ≡ None
found_other b x s h = by_tag b s.tagged refl h
  where
    by_tag : (b t : Bool) → s.tagged ≡ t → (t ≡ b → ⊥) → found b x s ≡ None
    by_tag true true e h = absurd (h refl)
    by_tag true false e h = rw e refl
    by_tag false true e h = rw e refl
    by_tag false false e h = absurd (h refl)

nothing_found : (b : Bool) (x : List ℕ) → found b x no_shape ≡ None
nothing_found true x = refl
nothing_found false x = refl

-- the place of a number
pub place_at_is : (xs : List PlaceType) (p : ℕ) (y : PlaceType) → p < length xs → y ≡ get_or xs p y → place_at (map place_shape xs) p ≡ place_shape y
place_at_is [] p y h e = absurd (omega arith)
place_at_is (z ∷ xs) zero y h e = ap place_shape (sym e)
place_at_is (z ∷ xs) (suc p) y h e = place_at_is xs p y (omega arith) e

pub place_beyond : (b : Bool) (x : List ℕ) (xs : List PlaceType) (p : ℕ) → length xs ≤ p → found b x (place_at (map place_shape xs) p) ≡ None
place_beyond b x [] p h = nothing_found b x
place_beyond b x (z ∷ xs) zero h = absurd (omega arith)
place_beyond b x (z ∷ xs) (suc p) h = place_beyond b x xs p (omega arith)

bits_at_is : (xs : List BitsShape) (p : ℕ) (y : BitsShape) → p < length xs → y ≡ get_or xs p y → bits_at (map bit_shape xs) p ≡ bit_shape y
bits_at_is [] p y h e = absurd (omega arith)
bits_at_is (z ∷ xs) zero y h e = ap bit_shape (sym e)
bits_at_is (z ∷ xs) (suc p) y h e = bits_at_is xs p y (omega arith) e

pub bits_beyond : (b : Bool) (x : List ℕ) (xs : List BitsShape) (p : ℕ) → length xs ≤ p → found b x (bits_at (map bit_shape xs) p).shape ≡ None
bits_beyond b x [] p h = nothing_found b x
bits_beyond b x (z ∷ xs) zero h = absurd (omega arith)
bits_beyond b x (z ∷ xs) (suc p) h = bits_beyond b x xs p (omega arith)

-- it has members of the other sort
pub place_other : (b : Bool) (x : List ℕ) (xs : List PlaceType) (p : ℕ) (y : PlaceType) → p < length xs → y ≡ get_or xs p y → (y.tagged ≡ b → ⊥)
    → found b x (place_at (map place_shape xs) p) ≡ None
place_other b x xs p y h e q = ap (found b x) (place_at_is xs p y h e) ∙ found_other b x (place_shape y) q

pub bits_other : (b : Bool) (x : List ℕ) (xs : List BitsShape) (p : ℕ) (y : BitsShape) → p < length xs → y ≡ get_or xs p y → (y.tagged ≡ b → ⊥)
    → found b x (bits_at (map bit_shape xs) p).shape ≡ None
bits_other b x xs p y h e q = ap (λ z. found b x z.shape) (bits_at_is xs p y h e) ∙ found_other b x (bit_shape y).shape q

names_same : (x : List ℕ) (ns ms : List (List ℕ)) (ts us : List program.Ty) → ns ≡ ms → ts ≡ us → member x ms (map ty_view us) ≡ member x ns (map ty_view ts)
names_same x ns ms ts us e f = ap (λ z. member x z (map ty_view us)) (sym e) ∙ ap (λ z. member x ns (map ty_view z)) (sym f)

pub place_found : (b : Bool) (x : List ℕ) (xs : List PlaceType) (p : ℕ) (y : PlaceType) (ns : List (List ℕ)) (ts : List program.Ty) → p < length xs
    → y ≡ get_or xs p y → y.tagged ≡ b → ns ≡ y.names.items → ts ≡ y.types.items → found b x (place_at (map place_shape xs) p) ≡ member x ns (map ty_view ts)
place_found b x xs p y ns ts h e q f g = ap (found b x) (place_at_is xs p y h e) ∙ found_same b x (place_shape y) q
    ∙ names_same x ns y.names.items ts y.types.items f g

pub bits_found : (b : Bool) (x : List ℕ) (xs : List BitsShape) (p : ℕ) (y : BitsShape) (ns : List (List ℕ)) (ts : List program.Ty) → p < length xs
    → y ≡ get_or xs p y → y.tagged ≡ b → ns ≡ y.names.items → ts ≡ y.types.items → found b x (bits_at (map bit_shape xs) p).shape ≡ member x ns (map ty_view ts)
bits_found b x xs p y ns ts h e q f g = ap (λ z. found b x z.shape) (bits_at_is xs p y h e) ∙ found_same b x (bit_shape y).shape q
    ∙ names_same x ns y.names.items ts y.types.items f g

-- what a test of two marks tells
pub tags_differ : (a b : Bool) → not (beq a b) ≡ true → a ≡ b → ⊥
tags_differ true true e q = false≢true e
tags_differ true false e q = false≢true (sym q)
tags_differ false true e q = false≢true q
tags_differ false false e q = false≢true e

pub tags_agree : (a b : Bool) → not (beq a b) ≡ false → a ≡ b
tags_agree true true e = refl
tags_agree true false e = absurd (false≢true (sym e))
tags_agree false true e = absurd (false≢true (sym e))
tags_agree false false e = refl
