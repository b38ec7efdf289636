-- One step over the parts of a constructor, or over the constructors of a layout.
use Rattle.std.proofs.Common.{◌≡◌, ℕ, ◌+◌, ◌-◌, ◌*◌, ◌/◌, ◌%◌, ◌^◌, ◌<◌, ◌≤◌, Bool, true, false, eqb, ltb, List, [], ◌∷◌, length, get_or, drop, bit_and, Option}
use Rattle.std.proofs.Common.{Some, None, if◌then◌else◌, min, ap, subst, sym, ◌∙◌, refl, inl, inr, arith}
use Rattle.std.proofs.Math.Nat.{div-eq_of_lt}
use Rattle.std.proofs.lemmas.List.{at_drop_more}
use Rattle.std.proofs.lemmas.Nat.{pow_pos, shr_split, mod_below, one_shl, and_mask}
use Rattle.std.proofs.lemmas.Bool.{cases_lt, lt-ltb, le-ltb, eq-eqb, ne_eqb, ltb-false}
use Rattle.ddl_bits.specs.declared.layout.LayoutCon.{LayoutCon}
use Rattle.ddl_bits.specs.declared.layout.LayoutPart.{LayoutPart}
use Rattle.ddl_bits.specs.Cuts.{cons_cut}
use Rattle.ddl_bits.specs.Tree.{Part, fixed, any, inner, Parts, part, Cons, no_cons, con, cons_width, too_wide_from, other_width_from, part_width, parts_width}
use Rattle.ddl_bits.specs.Tree.{PartSized, PartsSized, ConsSized}
use Rattle.ddl_bits.specs.View.{part_view, con_view, parts_view, cons_view}
use Rattle.ddl_bits.specs.Widths.{width_unless_other, width_unless_too_wide, one_width_of}

pub at_part : (xs : List LayoutPart) (i : ℕ) (x : LayoutPart) → i < length xs → x ≡ get_or xs i x
    → parts_view (drop i xs) ≡ part (part_view x) (parts_view (drop (i + 1) xs))
at_part xs i x h is = at_drop_more parts_view xs i x h ∙ ap (λ y. part (part_view y) (parts_view (drop (i + 1) xs))) (sym is)

pub at_con : (xs : List LayoutCon) (i : ℕ) (x : LayoutCon) → i < length xs → x ≡ get_or xs i x
    → cons_view (drop i xs) ≡ con (con_view x) (cons_view (drop (i + 1) xs))
at_con xs i x h is = at_drop_more cons_view xs i x h ∙ ap (λ y. con (con_view y) (cons_view (drop (i + 1) xs))) (sym is)

pub has_a_bit : (p : Part) → PartSized p → 1 ≤ part_width p
has_a_bit (fixed bits width) h = h
has_a_bit (any width) h = h
has_a_bit (inner cons) h = h.0

-- the mask of fewer than 128 bits
pub by_mask : (n w : ℕ) → w < 128 → bit_and n (1 * 2 ^ w % 2 ^ 128 - 1) ≡ n % 2 ^ w
by_mask n w h = ap (λ p. bit_and n (p - 1)) (one_shl w 128 h) ∙ and_mask n w

-- nothing is left by a shift exactly where the number is below the power
pub below_power : (n w : ℕ) → eqb (n / 2 ^ w) 0 ≡ ltb n (2 ^ w)
below_power n w =
    let split = shr_split n w in
    let low = mod_below n (2 ^ w) (pow_pos w) in
    elim (cases_lt n (2 ^ w)) [
      | inl below ↦ eq-eqb (n / 2 ^ w) 0 (div-eq_of_lt below) ∙ sym (lt-ltb n (2 ^ w) below)
      | inr above ↦ ne_eqb (n / 2 ^ w) 0 (λ e. let none : n / 2 ^ w * 2 ^ w ≡ 0 * 2 ^ w = ap (λ q. q * 2 ^ w) e in omega arith) ∙ sym (le-ltb n (2 ^ w) above)
    ]

-- what is known of a part and of those after it, where `left` bits are left
pub record PartStep (p : Part) (rest : Parts) (bits left : ℕ) : Type 0 where
  pub sized : PartSized p
  pub rest_sized : PartsSized rest
  pub width : part_width p ≤ 128
  pub bits_are : bits ≡ part_width p
  pub enough : bits ≤ left
  pub after : parts_width rest ≡ left - bits
  pub below : left - bits < 128

pub part_step : (p : Part) (rest : Parts) (bits left : ℕ) → PartSized p → PartsSized rest → part_width p + parts_width rest ≡ left → left ≤ 128
    → bits ≡ min (part_width p) 129 → PartStep p rest bits left
part_step p rest bits left sized rest_sized width few is =
    let one = has_a_bit p sized in
    record {
      sized = sized;
      rest_sized = rest_sized;
      width = omega arith;
      bits_are = omega arith;
      enough = omega arith;
      after = omega arith;
      below =
          omega arith;
    }

pub part_step_at : (xs : List LayoutPart) (i : ℕ) (x : LayoutPart) (bits left : ℕ) → i < length xs → x ≡ get_or xs i x → PartsSized (parts_view (drop i xs))
    → parts_width (parts_view (drop i xs)) ≡ left → left ≤ 128 → bits ≡ min (part_width (part_view x)) 129
    → PartStep (part_view x) (parts_view (drop (i + 1) xs)) bits left
part_step_at xs i x bits left h is sized width few bits_are =
    let e = at_part xs i x h is in
    let parts_sized : PartsSized (part (part_view x) (parts_view (drop (i + 1) xs))) = subst PartsSized e sized in
    part_step (part_view x) (parts_view (drop (i + 1) xs)) bits left parts_sized.0 parts_sized.1 (sym (ap parts_width e) ∙ width) few bits_are

-- what is known of a constructor and of those after it
pub con_step_at : (xs : List LayoutCon) (i : ℕ) (x : LayoutCon) (width : ℕ) → i < length xs → x ≡ get_or xs i x → ConsSized (cons_view (drop i xs)) width
    → (parts_width (con_view x) ≡ width) × PartsSized (con_view x) × ConsSized (cons_view (drop (i + 1) xs)) width
con_step_at xs i x width h is sized =
    let P : Cons → Type 0 = λ cs. ConsSized cs width in
    subst P (at_con xs i x h is) sized

too_wide_none : (k width : ℕ) (rest : Option ℕ) (wide : Bool) → ltb 128 width ≡ wide → (if wide then Some k else rest) ≡ None → width ≤ 128
too_wide_none k width rest true is none = absurd cc
too_wide_none k width rest false is none = ltb-false 128 width is

-- a layout of which no constructor is too wide is not
pub few_bits : (k : ℕ) (cons : Cons) → too_wide_from k cons ≡ None → cons_width cons ≤ 128
few_bits k no_cons none = omega arith
few_bits k (con ps cons) none = too_wide_none k (parts_width ps) (too_wide_from (k + 1) cons) _ refl none

-- the verdict on widths, from what is found of a layout
pub one_width_found : (cons : Cons) (width : ℕ) (other : Option ℕ) → too_wide_from 0 cons ≡ None → width ≡ min (cons_width cons) 129
    → other ≡ other_width_from width 0 cons → width_unless_other width other ≡ one_width_of cons
one_width_found cons width other none is found =
    let few = few_bits 0 cons none in
    let e : width ≡ cons_width cons = omega arith in
    ap (width_unless_other width) found
    ∙ ap (λ w. width_unless_other w (other_width_from w 0 cons)) e
    ∙ sym (ap (width_unless_too_wide cons) none)

-- a layout of no constructor, of one, and of more
pub no_con : (xs : List LayoutCon) → length xs < 1 → cons_view xs ≡ no_cons
no_con [] h = refl
no_con (c ∷ cs) h = absurd (omega arith)

pub only_con : (xs : List LayoutCon) (c : LayoutCon) → length xs ≡ 1 → c ≡ get_or xs 0 c → cons_view xs ≡ con (con_view c) no_cons
only_con [] c h is = absurd (omega arith)
only_con (x ∷ []) c h is = ap (λ y. con (con_view y) no_cons) (sym is)
only_con (x ∷ y ∷ ys) c h is = absurd (omega arith)

pub not_cut : (xs : List LayoutCon) (place : ℕ) → 2 ≤ length xs → cons_cut (cons_view xs) place ≡ false
not_cut [] place h = absurd (omega arith)
not_cut (x ∷ []) place h = absurd (omega arith)
not_cut (x ∷ y ∷ ys) place h = refl
