-- At a cut the upper bits of one number that fits and the lower bits of another make up a third.
use Rattle.std.proofs.Common.{◌≡◌, ℕ, ◌+◌, ◌-◌, ◌*◌, ◌/◌, ◌%◌, ◌^◌, ◌<◌, ◌≤◌, Bool, true, false, ◌&&◌, ◌||◌, eqb, ltb, if◌then◌else◌, refl, ◌∙◌, sym, ap, subst}
use Rattle.std.proofs.Common.{inl, inr, arith}
use Rattle.std.proofs.Math.Nat.{mod-le, div-eq_of_lt}
use Rattle.std.proofs.Math.Pow.{mod-mod-pow}
use Rattle.std.proofs.lemmas.Bool.{cases_lt, eqb-true, ltb-true, ltb-false, lt-ltb}
use Rattle.std.proofs.lemmas.Nat.{pow_pos, pow_below, shr-shr, shr_split, mod_below, mod_low, mod-pow-add, shr_high}
use Rattle.ddl_bits.specs.Cuts.{part_cut, parts_cut, cons_cut}
use Rattle.ddl_bits.specs.Overlaps.{parts_both, HasNone}
use Rattle.ddl_bits.specs.Tree.{Part, fixed, any, inner, Parts, no_parts, part, Cons, no_cons, con, parts_width, part_fits, parts_fit, cons_fit}
use Rattle.ddl_bits.proofs.Searching.{false_unless, first_true, second_true}
use Rattle.ddl_bits.proofs.Steps.{below_power}

-- k has the bits of n from this place up, and those of m below
abbrev pub IsMixed : ℕ → ℕ → ℕ → ℕ → Type 0
IsMixed place m n k = (k / 2 ^ place ≡ n / 2 ^ place) × (k % 2 ^ place ≡ m % 2 ^ place)

same_number : (w n k : ℕ) → k / 2 ^ w ≡ n / 2 ^ w → k % 2 ^ w ≡ n % 2 ^ w → k ≡ n
same_number w n k upper lower =
    sym (shr_split k w) ∙ ap (λ q. q * 2 ^ w + k % 2 ^ w) upper ∙ ap (λ r. n / 2 ^ w * 2 ^ w + r) lower ∙ shr_split n w

-- the bits between two places
between : (n j k : ℕ) → n % 2 ^ (j + k) / 2 ^ k ≡ n / 2 ^ k % 2 ^ j
between n j k = ap (λ m. m / 2 ^ k) (mod-pow-add n j k) ∙ shr_high (n / 2 ^ k % 2 ^ j) k (n % 2 ^ k) (mod_below n (2 ^ k) (pow_pos k))

-- the upper bits are the same from a higher place up
upper_same : (j w n k : ℕ) → k / 2 ^ w ≡ n / 2 ^ w → k / 2 ^ (w + j) ≡ n / 2 ^ (w + j)
upper_same j w n k same = sym (shr-shr k w j) ∙ ap (λ q. q / 2 ^ j) same ∙ shr-shr n w j

-- the lower bits are the same below a lower place
lower_same : (j w m k : ℕ) → k % 2 ^ (j + w) ≡ m % 2 ^ (j + w) → k % 2 ^ w ≡ m % 2 ^ w
lower_same j w m k same = sym (mod-mod-pow k j w) ∙ ap (λ q. q % 2 ^ w) same ∙ mod-mod-pow m j w

-- what is mixed at a place of the lower part is so there
mixed_below : (j w m n k : ℕ) → IsMixed w m n k → IsMixed w (m % 2 ^ (j + w)) (n % 2 ^ (j + w)) (k % 2 ^ (j + w))
mixed_below j w m n k mixed = (
  between k j w ∙ ap (λ q. q % 2 ^ j) mixed.0 ∙ sym (between n j w),
  mod-mod-pow k j w ∙ mixed.1 ∙ sym (mod-mod-pow m j w),
)

-- and so is what is mixed at a place of the upper part
mixed_above : (j w m n k : ℕ) → IsMixed (j + w) m n k → IsMixed j (m / 2 ^ w) (n / 2 ^ w) (k / 2 ^ w)
mixed_above j w m n k mixed =
    let e : j + w ≡ w + j = omega arith in
    let up : k / 2 ^ (w + j) ≡ n / 2 ^ (w + j) = subst (λ p. k / 2 ^ p ≡ n / 2 ^ p) e mixed.0 in (
      shr-shr k w j ∙ up ∙ sym (shr-shr n w j),
      sym (between k j w) ∙ ap (λ q. q / 2 ^ w) mixed.1 ∙ between m j w,
    )

both_true : (a b : Bool) → a ≡ true → b ≡ true → (a && b) ≡ true
both_true true b h g = g
both_true false b h g = absurd cc

fixed_mixes : (bits width place m n k : ℕ) → part_fits (fixed bits width) m ≡ true → part_fits (fixed bits width) n ≡ true → IsMixed place m n k
    → part_fits (fixed bits width) k ≡ true
fixed_mixes bits width place m n k f g mixed =
    let first : m ≡ bits = eqb-true m bits (first_true (eqb m bits) (ltb m (2 ^ width)) f) in
    let second : n ≡ bits = eqb-true n bits (first_true (eqb n bits) (ltb n (2 ^ width)) g) in
    let lower : k % 2 ^ place ≡ n % 2 ^ place = mixed.1 ∙ ap (λ q. q % 2 ^ place) (first ∙ sym second) in
    ap (part_fits (fixed bits width)) (same_number place n k mixed.0 lower) ∙ g

any_mixes : (width place m n k : ℕ) → part_fits (any width) m ≡ true → part_fits (any width) n ≡ true → IsMixed place m n k → part_fits (any width) k ≡ true
any_mixes width place m n k f g mixed =
    elim (cases_lt width place) [
      | inl over ↦
          let none : n / 2 ^ place ≡ 0 = div-eq_of_lt (omega (arith, ltb-true n (2 ^ width) g, pow_below width place over)) in
          let up : k / 2 ^ place * 2 ^ place ≡ 0 * 2 ^ place = ap (λ q. q * 2 ^ place) (mixed.0 ∙ none) in
          lt-ltb k (2 ^ width) (omega (arith, shr_split k place, up, mixed.1, mod-le m (2 ^ place), ltb-true m (2 ^ width) f))
      | inr under ↦
          let j = width - place in
          let e : place + j ≡ width = omega arith in
          let up : k / 2 ^ (place + j) ≡ n / 2 ^ (place + j) = upper_same j place n k mixed.0 in
          let there : k / 2 ^ width ≡ n / 2 ^ width = subst (λ p. k / 2 ^ p ≡ n / 2 ^ p) e up in
          sym (below_power k width) ∙ ap (λ q. eqb q 0) there ∙ below_power n width ∙ g
    ]

-- what is mixed of two numbers that pass a test passes it
abbrev pub Mixes : (ℕ → Bool) → ℕ → Type 0
Mixes test place = (m n k : ℕ) → test m ≡ true → test n ≡ true → IsMixed place m n k → test k ≡ true

join_mixes : (p : Part) (ps : Parts) (place m n k : ℕ) (lower at : Bool) → ltb place (parts_width ps) ≡ lower → eqb place (parts_width ps) ≡ at
    → (parts_cut ps place ≡ true → Mixes (parts_fit ps) place) → (part_cut p (place - parts_width ps) ≡ true → Mixes (part_fits p) (place - parts_width ps))
    → (if lower then parts_cut ps place else (if at then true else part_cut p (place - parts_width ps))) ≡ true → parts_fit (part p ps) m ≡ true
    → parts_fit (part p ps) n ≡ true → IsMixed place m n k → parts_fit (part p ps) k ≡ true
join_mixes p ps place m n k true at lower_is at_is below above cut f g mixed =
    let w = parts_width ps in
    let j = w - place in
    let e : j + place ≡ w = omega (arith, ltb-true place w lower_is) in
    let e_turned : place + j ≡ w = omega (arith, ltb-true place w lower_is) in
    let up : k / 2 ^ w ≡ n / 2 ^ w = subst (λ v. k / 2 ^ v ≡ n / 2 ^ v) e_turned (upper_same j place n k mixed.0) in
    let low : IsMixed place (m % 2 ^ w) (n % 2 ^ w) (k % 2 ^ w) =
    subst (λ v. IsMixed place (m % 2 ^ v) (n % 2 ^ v) (k % 2 ^ v)) e (mixed_below j place m n k mixed) in
    both_true (part_fits p (k / 2 ^ w)) (parts_fit ps (k % 2 ^ w))
    (ap (part_fits p) up ∙ first_true (part_fits p (n / 2 ^ w)) (parts_fit ps (n % 2 ^ w)) g)
    (below cut (m % 2 ^ w) (n % 2 ^ w) (k % 2 ^ w) (second_true (part_fits p (m / 2 ^ w)) (parts_fit ps (m % 2 ^ w)) f)
    (second_true (part_fits p (n / 2 ^ w)) (parts_fit ps (n % 2 ^ w)) g) low)
join_mixes p ps place m n k false true lower_is at_is below above cut f g mixed =
    let w = parts_width ps in
    let here : place ≡ w = eqb-true place w at_is in
    let there : IsMixed w m n k = subst (λ v. IsMixed v m n k) here mixed in
    both_true (part_fits p (k / 2 ^ w)) (parts_fit ps (k % 2 ^ w))
    (ap (part_fits p) there.0 ∙ first_true (part_fits p (n / 2 ^ w)) (parts_fit ps (n % 2 ^ w)) g)
    (ap (parts_fit ps) there.1 ∙ second_true (part_fits p (m / 2 ^ w)) (parts_fit ps (m % 2 ^ w)) f)
join_mixes p ps place m n k false false lower_is at_is below above cut f g mixed =
    let w = parts_width ps in
    let j = place - w in
    let e : place ≡ j + w = omega (arith, ltb-false place w lower_is) in
    let there : IsMixed (j + w) m n k = subst (λ v. IsMixed v m n k) e mixed in
    both_true (part_fits p (k / 2 ^ w)) (parts_fit ps (k % 2 ^ w))
    (above cut (m / 2 ^ w) (n / 2 ^ w) (k / 2 ^ w) (first_true (part_fits p (m / 2 ^ w)) (parts_fit ps (m % 2 ^ w)) f)
    (first_true (part_fits p (n / 2 ^ w)) (parts_fit ps (n % 2 ^ w)) g) (mixed_above j w m n k there))
    (ap (parts_fit ps) (lower_same j w m k there.1) ∙ second_true (part_fits p (m / 2 ^ w)) (parts_fit ps (m % 2 ^ w)) f)

none_mixes : (place m n k : ℕ) → parts_fit no_parts m ≡ true → parts_fit no_parts n ≡ true → IsMixed place m n k → parts_fit no_parts k ≡ true
none_mixes place m n k f g mixed =
    let first : m ≡ 0 = eqb-true m 0 f in
    let second : n ≡ 0 = eqb-true n 0 g in
    let lower : k % 2 ^ place ≡ n % 2 ^ place = mixed.1 ∙ ap (λ q. q % 2 ^ place) (first ∙ sym second) in
    ap (parts_fit no_parts) (same_number place n k mixed.0 lower) ∙ g

or_none : (b : Bool) → (b || false) ≡ b
or_none true = refl
or_none false = refl

mutual
  part_mixes : (p : Part) (place : ℕ) → part_cut p place ≡ true → Mixes (part_fits p) place
  part_mixes (fixed bits width) place cut = fixed_mixes bits width place
  part_mixes (any width) place cut = any_mixes width place
  part_mixes (inner cons) place cut = cons_mixes cons place cut

  pub parts_mixes : (ps : Parts) (place : ℕ) → parts_cut ps place ≡ true → Mixes (parts_fit ps) place
  parts_mixes no_parts place cut = none_mixes place
  parts_mixes (part p ps) place cut = λ m n k f g mixed. join_mixes p ps place m n k (ltb place (parts_width ps)) (eqb place (parts_width ps)) refl refl
      (parts_mixes ps place) (part_mixes p (place - parts_width ps)) cut f g mixed

  cons_mixes : (cons : Cons) (place : ℕ) → cons_cut cons place ≡ true → Mixes (cons_fit cons) place
  cons_mixes no_cons place cut = λ m n k f g mixed. absurd cc
  cons_mixes (con ps no_cons) place cut = λ m n k f g mixed. or_none (parts_fit ps k)
      ∙ parts_mixes ps place cut m n k (sym (or_none (parts_fit ps m)) ∙ f) (sym (or_none (parts_fit ps n)) ∙ g) mixed
  cons_mixes (con ps (con qs cons)) place cut = absurd cc

in_range : (p bits x : ℕ) → p * 2 ^ bits ≤ x → x < p * 2 ^ bits + 2 ^ bits → x / 2 ^ bits ≡ p
in_range p bits x above below =
    let d = x - p * 2 ^ bits in
    let e : x ≡ p * 2 ^ bits + d = omega arith in
    ap (λ z. z / 2 ^ bits) e ∙ shr_high p bits d (omega arith)

-- where both have numbers in a range that ends at a cut of both, and none in common there, they have none in common
pub none_at_all : (a b : Parts) (from bits p : ℕ) → from ≡ p * 2 ^ bits → parts_cut a bits ≡ true → parts_cut b bits ≡ true
    → HasNone (parts_fit a) from (from + 2 ^ bits) false → HasNone (parts_fit b) from (from + 2 ^ bits) false
    → ((n : ℕ) → from ≤ n → n < from + 2 ^ bits → parts_both a b n ≡ false) → (n : ℕ) → parts_both a b n ≡ false
none_at_all a b from bits p e cut_a cut_b has_a has_b none n =
    false_unless (parts_both a b n) (λ both.
    let r = n % 2 ^ bits in
    let low : r < 2 ^ bits = mod_below n (2 ^ bits) (pow_pos bits) in
    let k = from + r in
    let upper : k / 2 ^ bits ≡ p = ap (λ f. (f + r) / 2 ^ bits) e ∙ shr_high p bits r low in
    let lower : k % 2 ^ bits ≡ r = ap (λ f. (f + r) % 2 ^ bits) e ∙ mod_low p bits r low in
    let upper_a : has_a.0 / 2 ^ bits ≡ p = in_range p bits has_a.0 (omega (arith, e, has_a.1)) (omega (arith, e, has_a.2)) in
    let upper_b : has_b.0 / 2 ^ bits ≡ p = in_range p bits has_b.0 (omega (arith, e, has_b.1)) (omega (arith, e, has_b.2)) in
    let in_a = parts_mixes a bits cut_a n has_a.0 k (first_true (parts_fit a n) (parts_fit b n) both) has_a.3 (upper ∙ sym upper_a, lower) in
    let in_b = parts_mixes b bits cut_b n has_b.0 k (second_true (parts_fit a n) (parts_fit b n) both) has_b.3 (upper ∙ sym upper_b, lower) in
    let no : true ≡ false = sym (both_true (parts_fit a k) (parts_fit b k) in_a in_b) ∙ none k (omega arith) (omega (arith, low)) in
    absurd cc)
