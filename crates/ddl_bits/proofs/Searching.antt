-- What counts tell of a search for a number.
use Rattle.std.proofs.Common.{◌≡◌, ◌≢◌, ℕ, zero, suc, ◌+◌, ◌-◌, ◌*◌, ◌/◌, ◌%◌, ◌^◌, ◌<◌, ◌≤◌, Bool, true, false, not, ◌&&◌, ◌||◌, eqb, ltb, cond, Option, Some}
use Rattle.std.proofs.Common.{None, refl, ◌∙◌, sym, ap, inl, inr, arith}
use Rattle.std.proofs.lemmas.Nat.{pow-add, pow_pos, shr_split, mod_below, mul-le}
use Rattle.std.proofs.lemmas.Bool.{cases_lt, ltb-true, eqb-true}
use Rattle.ddl_bits.specs.Counts.{tally}
use Rattle.ddl_bits.specs.Overlaps.{parts_both, HasNone, IsLeastBetween, IsLeastIfAny}
use Rattle.ddl_bits.specs.Tree.{Part, fixed, any, inner, Parts, no_parts, part, Cons, no_cons, con, cons_width, part_width, parts_width, PartSized, PartsSized}
use Rattle.ddl_bits.specs.Tree.{ConsSized, part_fits, parts_fit, cons_fit}
use Rattle.ddl_bits.proofs.Tally.{tally_split}

-- what a count tells
none_here : (b : Bool) → cond {A = ℕ} b 1 0 ≡ 0 → b ≡ false
none_here true h = absurd (omega (arith, h))
none_here false h = refl

-- no number below the bound passes where none is counted
pub tally_zero : (test : ℕ → Bool) (n : ℕ) → tally test n ≡ 0 → (k : ℕ) → k < n → test k ≡ false
tally_zero test zero none k h = absurd (omega arith)
tally_zero test (suc n) none k h =
    elim (cases_lt k n) [
      | inl below ↦ tally_zero test n (omega arith) k below
      | inr above ↦
          let e : k ≡ n = omega arith in
          ap test e ∙ none_here (test n) (omega arith)
    ]

some_here : (test : ℕ → Bool) (n : ℕ) (b : Bool) → test n ≡ b → (tally test n ≢ 0 → (k : ℕ) × (k < n) × (test k ≡ true)) → tally test n + cond b 1 0 ≢ 0
    → (k : ℕ) × (k < suc n) × (test k ≡ true)
some_here test n true is before h = (n, omega arith, is)
some_here test n false is before h =
    let found = before (λ e. h (omega (arith, e))) in
    (found.0, omega (arith, found.1), found.2)

-- and some number does where one is counted
pub tally_some : (test : ℕ → Bool) (n : ℕ) → tally test n ≢ 0 → (k : ℕ) × (k < n) × (test k ≡ true)
tally_some test zero h = absurd (h refl)
tally_some test (suc n) h = some_here test n (test n) refl (tally_some test n) h

-- the count up to the last number, and whether that passes, tell whether there is one
pub none_when : (test : ℕ → Bool) (from last to : ℕ) → to ≡ last + 1 → from ≤ last → tally test from ≡ tally test last → (b : Bool) → b ≡ test last
    → HasNone test from to (not b)
none_when test from last to end order same true is = (last, order, omega arith, sym is)
none_when test from last to end order same false is =
    λ n above below.
    elim (cases_lt n last) [
      | inl inside ↦
          let d = last - from in
          let e : last ≡ from + d = omega arith in
          let split : tally test last ≡ tally test from + tally (λ k. test (from + k)) d = ap (tally test) e ∙ tally_split test from d in
          let at : n ≡ from + (n - from) = omega arith in
          ap test at ∙ tally_zero (λ k. test (from + k)) d (omega (arith, split, same)) (n - from) (omega arith)
      | inr outside ↦
          let at : n ≡ last = omega arith in
          ap test at ∙ sym is
    ]

pub some_when : (test : ℕ → Bool) (from last to : ℕ) → to ≡ last + 1 → from ≤ last → tally test from ≢ tally test last → HasNone test from to false
some_when test from last to end order other =
    let d = last - from in
    let e : last ≡ from + d = omega arith in
    let split : tally test last ≡ tally test from + tally (λ k. test (from + k)) d = ap (tally test) e ∙ tally_split test from d in
    let found = tally_some (λ k. test (from + k)) d (λ z. other (omega (arith, split, z))) in
    (from + found.0, omega arith, omega (arith, found.1), found.2)

-- a power and its halves
pub pow_half : (b : ℕ) → b ≢ 0 → 2 ^ b ≡ 2 ^ (b - 1) + 2 ^ (b - 1)
pow_half b h =
    let e : b ≡ (b - 1) + 1 = omega arith in
    let split : 2 ^ ((b - 1) + 1) ≡ 2 ^ (b - 1) * 2 ^ 1 = pow-add 2 (b - 1) 1 in
    ap (λ n. 2 ^ n) e ∙ omega (arith, split)

-- the lower half of an aligned range is aligned, and so is the upper
pub lower_aligned : (from b p : ℕ) → b ≢ 0 → from ≡ p * 2 ^ b → from ≡ (2 * p) * 2 ^ (b - 1)
lower_aligned from b p h e =
    let half : p * 2 ^ b ≡ p * (2 ^ (b - 1) + 2 ^ (b - 1)) = ap (λ n. p * n) (pow_half b h) in
    omega (arith, e, half)

pub upper_aligned : (from b p step : ℕ) → b ≢ 0 → from ≡ p * 2 ^ b → step ≡ 2 ^ (b - 1) → from + step ≡ (2 * p + 1) * 2 ^ (b - 1)
upper_aligned from b p step h e is =
    let half : p * 2 ^ b ≡ p * (2 ^ (b - 1) + 2 ^ (b - 1)) = ap (λ n. p * n) (pow_half b h) in
    omega (arith, e, half, is)

-- none in the lower half, and what is found in the upper
pub upper_half : (test : ℕ → Bool) (from middle start end to : ℕ) (r : Option ℕ) → middle ≡ start → end ≡ to
    → ((n : ℕ) → from ≤ n → n < middle → test n ≡ false) → from ≤ middle → IsLeastBetween test start end r → IsLeastBetween test from to r
upper_half test from middle start end to None e f none order found =
    λ n above below.
    elim (cases_lt n middle) [
      | inl inside ↦ none n above inside
      | inr outside ↦ found n (omega arith) (omega arith)
    ]
upper_half test from middle start end to (Some m) e f none order found = (
  omega (arith, found.0),
  omega (arith, found.1),
  found.2,
  λ k above below.
      elim (cases_lt k middle) [
        | inl inside ↦ none k above inside
        | inr outside ↦ found.3 k (omega arith) below
      ],
)

pub second_true : (a b : Bool) → (a && b) ≡ true → b ≡ true
second_true true b h = h
second_true false b h = absurd cc

pub first_true : (a b : Bool) → (a && b) ≡ true → a ≡ true
first_true true b h = refl
first_true false b h = absurd cc

pub either_true : (a b : Bool) (P : Type 0) → (a ≡ true → P) → (b ≡ true → P) → (a || b) ≡ true → P
either_true true b P f g h = f refl
either_true false b P f g h = g h

joined_below : (n w v : ℕ) → n / 2 ^ v < 2 ^ w → n < 2 ^ (w + v)
joined_below n w v h =
    let split = shr_split n v in
    let low = mod_below n (2 ^ v) (pow_pos v) in
    let power = pow-add 2 w v in
    let whole : (n / 2 ^ v + 1) * 2 ^ v ≤ 2 ^ w * 2 ^ v = mul-le (n / 2 ^ v + 1) (2 ^ v) (2 ^ w) (2 ^ v) (omega arith) (omega arith) in
    let more : (n / 2 ^ v + 1) * 2 ^ v ≡ n / 2 ^ v * 2 ^ v + 2 ^ v = omega arith in
    omega (arith, split, low, power, whole, more)

-- only numbers below 2 ^ width fit
mutual
  pub part_within : (p : Part) → PartSized p → (n : ℕ) → part_fits p n ≡ true → n < 2 ^ part_width p
  part_within (fixed bits width) h n fits = ltb-true n (2 ^ width) (second_true (eqb n bits) (ltb n (2 ^ width)) fits)
  part_within (any width) h n fits = ltb-true n (2 ^ width) fits
  part_within (inner cons) h n fits = cons_within cons (cons_width cons) h.1 n fits

  pub parts_within : (ps : Parts) → PartsSized ps → (n : ℕ) → parts_fit ps n ≡ true → n < 2 ^ parts_width ps
  parts_within no_parts h n fits = omega (arith, eqb-true n 0 fits)
  parts_within (part p ps) h n fits = joined_below n (part_width p) (parts_width ps)
      (part_within p h.0 (n / 2 ^ parts_width ps) (first_true (part_fits p (n / 2 ^ parts_width ps)) (parts_fit ps (n % 2 ^ parts_width ps)) fits))

  pub cons_within : (cons : Cons) (width : ℕ) → ConsSized cons width → (n : ℕ) → cons_fit cons n ≡ true → n < 2 ^ width
  cons_within no_cons width h n fits = absurd cc
  cons_within (con ps cons) width h n fits =
      let same : 2 ^ parts_width ps ≡ 2 ^ width = ap (λ w. 2 ^ w) h.0 in
      either_true (parts_fit ps n) (cons_fit cons n) (n < 2 ^ width) (λ e. omega (arith, same, parts_within ps h.1 n e)) (cons_within cons width h.2 n) fits

pub false_unless : (b : Bool) → (b ≡ true → ⊥) → b ≡ false
false_unless true h = absurd (h refl)
false_unless false h = refl

pub first_false : (a b : Bool) → a ≡ false → (a && b) ≡ false
first_false true b h = absurd cc
first_false false b h = refl

pub second_false : (a b : Bool) → b ≡ false → (a && b) ≡ false
second_false true b h = h
second_false false b h = refl

-- a search below 2 ^ width is one among all numbers
pub whole_search : (a b : Parts) (width to : ℕ) (r : Option ℕ) → to ≡ 2 ^ width → parts_width a ≡ width → PartsSized a → IsLeastBetween (parts_both a b) 0 to r
    → IsLeastIfAny (parts_both a b) r
whole_search a b width to None e w sized found =
    let same : 2 ^ parts_width a ≡ 2 ^ width = ap (λ n. 2 ^ n) w in
    λ n.
    elim (cases_lt n to) [
      | inl inside ↦ found n (omega arith) inside
      | inr outside ↦ first_false (parts_fit a n) (parts_fit b n) (false_unless (parts_fit a n) (λ fits. omega (arith, same, parts_within a sized n fits)))
    ]
whole_search a b width to (Some m) e w sized found = record { holds = found.2; least = λ k below. found.3 k (omega arith) below }
