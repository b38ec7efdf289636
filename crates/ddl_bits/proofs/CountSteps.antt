-- One step of counting over the parts of a constructor, or over the constructors of a layout.
use Rattle.std.proofs.Common.{◌≡◌, ℕ, ◌+◌, ◌*◌, ◌%◌, ◌^◌, ◌<◌, ◌≤◌, ltb, cond, Bool, List, length, get_or, drop, ap, subst, sym, ◌∙◌, arith}
use Rattle.std.proofs.Math.Nat.{mul_assoc, mul-le-mul_left, mul-le-mul_right, le-mul_of_pos_right}
use Rattle.std.proofs.Math.Pow.{pow-lt}
use Rattle.std.proofs.lemmas.List.{drop_all}
use Rattle.std.proofs.lemmas.Nat.{pow-add, pow_pos, one_shl}
use Rattle.ddl_bits.specs.declared.layout.LayoutCon.{LayoutCon}
use Rattle.ddl_bits.specs.declared.layout.LayoutPart.{LayoutPart}
use Rattle.ddl_bits.specs.Accepted.{PartAccepted, PartsAccepted, ConsAccepted, IsAccepted}
use Rattle.ddl_bits.specs.Counts.{tally, tally_each}
use Rattle.ddl_bits.specs.Tree.{Part, fixed, any, Parts, part, Cons, no_cons, cons_fit, part_fits, part_width, parts_fit, parts_width}
use Rattle.ddl_bits.specs.View.{part_view, con_view, parts_view, cons_view}
use Rattle.ddl_bits.proofs.Counting.{tally_each_is, tally_fixed, tally_any}
use Rattle.ddl_bits.proofs.Steps.{at_part, at_con}
use Rattle.ddl_bits.proofs.Tally.{tally_le, tally_parts}

pub part_accepted_at : (xs : List LayoutPart) (i : ℕ) (x : LayoutPart) → i < length xs → x ≡ get_or xs i x → PartsAccepted (parts_view (drop i xs))
    → PartAccepted (part_view x) × PartsAccepted (parts_view (drop (i + 1) xs))
part_accepted_at xs i x h is accepted = subst PartsAccepted (at_part xs i x h is) accepted

pub con_accepted_at : (xs : List LayoutCon) (i : ℕ) (x : LayoutCon) (width : ℕ) → i < length xs → x ≡ get_or xs i x → ConsAccepted (cons_view (drop i xs)) width
    → (parts_width (con_view x) ≡ width) × PartsAccepted (con_view x) × ConsAccepted (cons_view (drop (i + 1) xs)) width
con_accepted_at xs i x width h is accepted =
    let P : Cons → Type 0 = λ cs. ConsAccepted cs width in
    subst P (at_con xs i x h is) accepted

-- the counts of each constructor stay within the numbers that there are
pub each_within : (cons : Cons) (width n : ℕ) → IsAccepted cons width → tally_each cons n ≤ n
each_within cons width n accepted = omega (arith, tally_each_is cons n accepted.1, tally_le (cons_fit cons) n)

-- what is known of a product of counts, where a part of `bits` bits is counted and `left` bits are left
pub record CountStep (p : Part) (rest : Parts) (count found whole : ℕ) : Type 0 where
  pub room : count * found * 2 ^ parts_width rest ≤ 2 ^ whole
  pub fits : count * found < 2 ^ 128
  pub same : count * found * tally (parts_fit rest) (2 ^ parts_width rest) ≡ count * tally (parts_fit (part p rest)) (2 ^ (part_width p + parts_width rest))

pub count_step : (p : Part) (rest : Parts) (count found whole : ℕ) → count * 2 ^ (part_width p + parts_width rest) ≤ 2 ^ whole → whole < 128
    → found ≡ tally (part_fits p) (2 ^ part_width p) → CountStep p rest count found whole
count_step p rest count found whole room few is =
    let few_found : found ≤ 2 ^ part_width p = omega (arith, is, tally_le (part_fits p) (2 ^ part_width p)) in
    let one = mul-le-mul_right (2 ^ parts_width rest) (mul-le-mul_left count few_found) in
    let two : count * 2 ^ part_width p * 2 ^ parts_width rest ≡ count * 2 ^ (part_width p + parts_width rest) =
    mul_assoc count (2 ^ part_width p) (2 ^ parts_width rest) ∙ ap (λ n. count * n) (sym (pow-add 2 (part_width p) (parts_width rest))) in
    let kept : count * found * 2 ^ parts_width rest ≤ 2 ^ whole = omega arith in
    let whole_fits = pow-lt {i = whole} {j = 128} few in
    record {
      room = kept;
      fits = omega (arith, le-mul_of_pos_right (count * found) (pow_pos (parts_width rest)));
      same =
          mul_assoc count found (tally (parts_fit rest) (2 ^ parts_width rest))
          ∙ ap (λ n. count * (n * tally (parts_fit rest) (2 ^ parts_width rest))) is
          ∙ ap (λ n. count * n) (sym (tally_parts p rest));
    }

pub count_step_at : (xs : List LayoutPart) (i : ℕ) (x : LayoutPart) (count found whole : ℕ) → i < length xs → x ≡ get_or xs i x
    → count * 2 ^ parts_width (parts_view (drop i xs)) ≤ 2 ^ whole → whole < 128 → found ≡ tally (part_fits (part_view x)) (2 ^ part_width (part_view x))
    → CountStep (part_view x) (parts_view (drop (i + 1) xs)) count found whole
count_step_at xs i x count found whole h is room few found_is =
    let P : Parts → Type 0 = λ ps. count * 2 ^ parts_width ps ≤ 2 ^ whole in
    count_step (part_view x) (parts_view (drop (i + 1) xs)) count found whole (subst P (at_part xs i x h is) room) few found_is

-- given bits are one number, if they are of their width
pub fixed_count : (bits width : ℕ) (b : Bool) → ltb bits (2 ^ width) ≡ b → tally (part_fits (fixed bits width)) (2 ^ width) ≡ cond b 1 0
fixed_count bits width b e = tally_fixed bits width (2 ^ width) (omega arith) ∙ ap {B = ℕ} (λ v. cond v 1 0) e

-- a part as it is seen, and its count
pub fixed_counted : (p : Part) (bits width : ℕ) (b : Bool) → p ≡ fixed bits width → b ≡ ltb bits (2 ^ width)
    → cond b 1 0 ≡ tally (part_fits p) (2 ^ part_width p)
fixed_counted p bits width b is e = sym (ap (λ q. tally (part_fits q) (2 ^ part_width q)) is ∙ fixed_count bits width b (sym e))

pub any_counted : (p : Part) (width : ℕ) → p ≡ any width → part_width p < 128 → 1 * 2 ^ width % 2 ^ 128 ≡ tally (part_fits p) (2 ^ part_width p)
any_counted p width is few =
    let same : part_width p ≡ width = ap part_width is in
    one_shl width 128 (omega arith)
    ∙ sym (ap (λ q. tally (part_fits q) (2 ^ part_width q)) is ∙ tally_any width (2 ^ width) (omega arith))

-- nothing is left behind the last constructor
pub no_more : (xs : List LayoutCon) (i : ℕ) → length xs ≤ i → cons_view (drop i xs) ≡ no_cons
no_more xs i h = ap cons_view (drop_all i xs h)
