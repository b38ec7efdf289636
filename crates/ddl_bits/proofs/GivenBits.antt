-- A number that fits has the bits that are given.
use Rattle.std.proofs.Common.{◌≡◌, ℕ, ◌+◌, ◌-◌, ◌*◌, ◌/◌, ◌%◌, ◌^◌, ◌<◌, Bool, true, false, not, eqb, ltb, if◌then◌else◌, Option, Some, None, refl, ◌∙◌, sym}
use Rattle.std.proofs.Common.{ap}
use Rattle.std.proofs.lemmas.Bool.{eqb-true, ltb-true, ltb-false, eq-eqb}
use Rattle.std.proofs.lemmas.Nat.{pow_pos, shr_split, mod_below}
use Rattle.std.proofs.lemmas.Nat.Bits.{bit_at_cat_low, bit_at_cat_high}
use Rattle.ddl_bits.specs.FixedBits.{part_bit, parts_bit, differ}
use Rattle.ddl_bits.specs.Overlaps.{parts_both}
use Rattle.ddl_bits.specs.Tree.{Part, fixed, any, inner, Parts, no_parts, part, parts_width, part_fits, parts_fit}
use Rattle.ddl_bits.proofs.Searching.{false_unless, first_true, second_true}

pub part_told : (p : Part) (place n b : ℕ) → part_bit p place ≡ Some b → part_fits p n ≡ true → n / 2 ^ place % 2 ≡ b
part_told (fixed bits width) place n b given fits =
    let same : n ≡ bits = eqb-true n bits (first_true (eqb n bits) (ltb n (2 ^ width)) fits) in
    let bit : bits / 2 ^ place % 2 ≡ b = cc in
    ap (λ m. m / 2 ^ place % 2) same ∙ bit
part_told (any width) place n b given fits = absurd cc
part_told (inner cons) place n b given fits = absurd cc

joined_told : (u v : Option ℕ) (place w q r b : ℕ) (t : Bool) → ltb place w ≡ t → r < 2 ^ w → (u ≡ Some b → r / 2 ^ place % 2 ≡ b)
    → (v ≡ Some b → q / 2 ^ (place - w) % 2 ≡ b) → (if t then u else v) ≡ Some b → (q * 2 ^ w + r) / 2 ^ place % 2 ≡ b
joined_told u v place w q r b true is low f g given = bit_at_cat_low q w r place (ltb-true place w is) ∙ f given
joined_told u v place w q r b false is low f g given = bit_at_cat_high q w r place low (ltb-false place w is) ∙ g given

pub parts_told : (ps : Parts) (place n b : ℕ) → parts_bit ps place ≡ Some b → parts_fit ps n ≡ true → n / 2 ^ place % 2 ≡ b
parts_told no_parts place n b given fits = absurd cc
parts_told (part p ps) place n b given fits =
    let w = parts_width ps in
    let q = n / 2 ^ w in
    let r = n % 2 ^ w in
    ap (λ m. m / 2 ^ place % 2) (sym (shr_split n w))
    ∙ joined_told (parts_bit ps place) (part_bit p (place - w)) place w q r b (ltb place w) refl (mod_below n (2 ^ w) (pow_pos w))
    (λ e. parts_told ps place r b e (second_true (part_fits p q) (parts_fit ps r) fits))
    (λ e. part_told p (place - w) q b e (first_true (part_fits p q) (parts_fit ps r) fits))
    given

pub differ_none : (u v : Option ℕ) (m : ℕ) → ((b : ℕ) → u ≡ Some b → m ≡ b) → ((b : ℕ) → v ≡ Some b → m ≡ b) → differ u v ≡ true → ⊥
differ_none (Some a) (Some b) m f g e =
    let same : eqb a b ≡ true = eq-eqb a b (sym (f a refl) ∙ g b refl) in
    let no : not true ≡ true = ap not (sym same) ∙ e in
    absurd cc
differ_none (Some a) None m f g e = absurd cc
differ_none None v m f g e = absurd cc

pub told_apart : (a b : Parts) (place : ℕ) → differ (parts_bit a place) (parts_bit b place) ≡ true → (n : ℕ) → parts_both a b n ≡ false
told_apart a b place e n =
    false_unless (parts_both a b n) (λ both.
    differ_none (parts_bit a place) (parts_bit b place) (n / 2 ^ place % 2)
    (λ bit given. parts_told a place n bit given (first_true (parts_fit a n) (parts_fit b n) both))
    (λ bit given. parts_told b place n bit given (second_true (parts_fit a n) (parts_fit b n) both))
    e)
