-- One step of counting the numbers below a number that fit the parts of a constructor.
use Rattle.std.proofs.Common.{◌≡◌, ℕ, ◌+◌, ◌-◌, ◌*◌, ◌/◌, ◌%◌, ◌^◌, ◌<◌, ◌≤◌, ltb, cond, Bool, List, length, get_or, take, drop, length-drop, min, ap, subst}
use Rattle.std.proofs.Common.{sym, ◌∙◌, arith}
use Rattle.std.proofs.Math.Nat.{lt_of_mul-lt-mul_left, mul_comm}
use Rattle.std.proofs.lemmas.List.{take_all}
use Rattle.std.proofs.lemmas.Nat.{pow-add, pow_pos, shr_split, mod_below}
use Rattle.ddl_bits.specs.declared.layout.LayoutPart.{LayoutPart}
use Rattle.ddl_bits.specs.Accepted.{PartAccepted, PartsAccepted}
use Rattle.ddl_bits.specs.Counts.{tally}
use Rattle.ddl_bits.specs.Tree.{Part, fixed, any, Parts, part, part_fits, part_width, parts_fit, parts_width}
use Rattle.ddl_bits.specs.View.{part_view, parts_view}
use Rattle.ddl_bits.proofs.Counting.{tally_step, tally_fixed, tally_any}
use Rattle.ddl_bits.proofs.CountSteps.{part_accepted_at}
use Rattle.ddl_bits.proofs.Sized.{part_sized, parts_sized}
use Rattle.ddl_bits.proofs.Steps.{at_part, part_step}

-- what is known of a part and of those after it, where `left` bits are left, and `low` is in them
pub record BelowStep (p : Part) (rest : Parts) (bits left low whole : ℕ) : Type 0 where
  pub accepted : PartAccepted p
  pub rest_accepted : PartsAccepted rest
  pub width : part_width p ≤ 128
  pub after : parts_width rest ≡ left - bits
  pub shift : left - bits < 128
  pub high : low / 2 ^ (left - bits) < 2 ^ part_width p
  pub kept : low % 2 ^ (left - bits) < 2 ^ (left - bits)
  pub split : whole ≡ tally (part_fits p) (low / 2 ^ (left - bits)) * tally (parts_fit rest) (2 ^ (left - bits))
      + cond (part_fits p (low / 2 ^ (left - bits))) (tally (parts_fit rest) (low % 2 ^ (left - bits))) 0

high_below : (low left w v : ℕ) → low < 2 ^ left → w + v ≡ left → low / 2 ^ v < 2 ^ w
high_below low left w v h e =
    let split = shr_split low v in
    let power : 2 ^ left ≡ 2 ^ w * 2 ^ v = ap (λ n. 2 ^ n) (sym e) ∙ pow-add 2 w v in
    let turn : 2 ^ v * (low / 2 ^ v) < 2 ^ v * 2 ^ w = omega (arith, split, power, mul_comm (2 ^ v) (low / 2 ^ v), mul_comm (2 ^ v) (2 ^ w)) in
    lt_of_mul-lt-mul_left (2 ^ v) turn

below_step : (p : Part) (rest : Parts) (bits left low : ℕ) → PartAccepted p → PartsAccepted rest → part_width p + parts_width rest ≡ left → left ≤ 128
    → low < 2 ^ left → bits ≡ min (part_width p) 129 → BelowStep p rest bits left low (tally (parts_fit (part p rest)) low)
below_step p rest bits left low accepted rest_accepted width few within is =
    let step = part_step p rest bits left (part_sized p accepted) (parts_sized rest rest_accepted) width few is in
    record {
      accepted = accepted;
      rest_accepted = rest_accepted;
      width = step.width;
      after = step.after;
      shift = step.below;
      high = high_below low left (part_width p) (left - bits) within (omega (arith, step.bits_are, step.enough));
      kept = mod_below low (2 ^ (left - bits)) (pow_pos (left - bits));
      split = tally_step p rest low ∙ ap (λ w. tally (part_fits p) (low / 2 ^ w) * tally (parts_fit rest) (2 ^ w)
          + cond (part_fits p (low / 2 ^ w)) (tally (parts_fit rest) (low % 2 ^ w)) 0) step.after;
    }

pub below_step_at : (xs : List LayoutPart) (i : ℕ) (x : LayoutPart) (bits left low : ℕ) → i < length xs → x ≡ get_or xs i x
    → PartsAccepted (parts_view (drop i xs)) → parts_width (parts_view (drop i xs)) ≡ left → left ≤ 128 → low < 2 ^ left
    → bits ≡ min (part_width (part_view x)) 129 → BelowStep (part_view x) (parts_view (drop (i + 1) xs)) bits left low
    (tally (parts_fit (parts_view (drop i xs))) low)
below_step_at xs i x bits left low h is accepted width few within bits_are =
    let e = at_part xs i x h is in
    let both = part_accepted_at xs i x h is accepted in
    let P : ℕ → Type 0 = BelowStep (part_view x) (parts_view (drop (i + 1) xs)) bits left low in
    subst P (sym (ap (λ ps. tally (parts_fit ps) low) e)) (below_step (part_view x) (parts_view (drop (i + 1) xs)) bits left low both.0 both.1
    (sym (ap parts_width e) ∙ width) few within bits_are)

-- what is left of a slice
pub rest_seen : (xs : List LayoutPart) (i : ℕ) → take (length xs - i) (drop i xs) ≡ drop i xs
rest_seen xs i = take_all (length xs - i) (drop i xs) (omega (arith, length-drop i xs))

pub product_is : (a b c d : ℕ) → a ≡ c → b ≡ d → a * b ≡ c * d
product_is a b c d e f = ap (λ n. n * b) e ∙ ap (λ n. c * n) f

-- a part as it is seen, and how many numbers below one fit it
pub fixed_below : (p : Part) (bits width n : ℕ) (b : Bool) → p ≡ fixed bits width → n < 2 ^ part_width p → ltb bits n ≡ b → cond b 1 0 ≡ tally (part_fits p) n
fixed_below p bits width n b is within e =
    let same : 2 ^ part_width p ≡ 2 ^ width = ap (λ q. 2 ^ part_width q) is in
    sym (ap (λ q. tally (part_fits q) n) is ∙ tally_fixed bits width n (omega arith) ∙ ap {B = ℕ} (λ v. cond v 1 0) e)

pub any_below : (p : Part) (width n : ℕ) → p ≡ any width → n < 2 ^ part_width p → n ≡ tally (part_fits p) n
any_below p width n is within =
    let same : 2 ^ part_width p ≡ 2 ^ width = ap (λ q. 2 ^ part_width q) is in
    sym (ap (λ q. tally (part_fits q) n) is ∙ tally_any width n (omega arith))
