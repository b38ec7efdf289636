-- A number that fits is read by the leaves of a constructor, and runs by it from its highest bit on.
use Rattle.std.proofs.Common.{◌≡◌, ℕ, ◌+◌, ◌-◌, ◌*◌, ◌/◌, ◌%◌, ◌^◌, ◌<◌, ◌≤◌, ◌⊎◌, Bool, true, false, eqb, ltb, if◌then◌else◌, List, get_or, take, drop, Some}
use Rattle.std.proofs.Common.{None, refl, ◌∙◌, sym, ap, inl, inr, arith}
use Rattle.std.proofs.Math.Nat.{div-div-eq-div-mul}
use Rattle.std.proofs.lemmas.Bool.{cases_lt, eqb-true, ltb-false}
use Rattle.std.proofs.lemmas.List.{get_or-take, get_or-drop, get_or_past, length-take}
use Rattle.std.proofs.lemmas.Nat.{pow_pos, shr_split, mod_below, pow-add, div-mul-add}
use Rattle.std.proofs.lemmas.Nat.Bits.{bit_at_cat_low, bit_at_cat_high}
use Rattle.ddl_bits.specs.Flows.{part_leaves, parts_leaves, ReadsPart, ReadsParts, ReadsCons, RunsPart, RunsParts, RunsCons, RunsWhole, IsIn, shared_bit}
use Rattle.ddl_bits.specs.Tree.{Part, fixed, any, inner, Parts, no_parts, part, Cons, no_cons, con, cons_width, part_width, parts_width, part_fits, parts_fit}
use Rattle.ddl_bits.specs.Tree.{cons_fit, PartSized, PartsSized, ConsSized}
use Rattle.ddl_bits.proofs.GivenBits.{part_told}
use Rattle.ddl_bits.proofs.Searching.{first_true, second_true, either_true}

bit_high : (q w r place : ℕ) → r < 2 ^ w → (q * 2 ^ w + r) / 2 ^ (w + place) % 2 ≡ q / 2 ^ place % 2
bit_high q w r place low =
    let e : (w + place) - w ≡ place = omega arith in
    bit_at_cat_high q w r (w + place) low (omega arith) ∙ ap (λ k. q / 2 ^ k % 2) e

-- a number is read by what some of its bits fit
mutual
  part_read : (p : Part) → PartSized p → (low n q : ℕ) → ((place : ℕ) → place < part_width p → n / 2 ^ (low + place) % 2 ≡ q / 2 ^ place % 2)
      → part_fits p q ≡ true → ReadsPart p low n
  part_read (fixed bits width) sized low n q same fits = record {
    possible =
        sym (ap (λ m. ltb m (2 ^ width)) (eqb-true q bits (first_true (eqb q bits) (ltb q (2 ^ width)) fits)))
        ∙ second_true (eqb q bits) (ltb q (2 ^ width)) fits;
    bits = λ place b inside given. same place inside
        ∙ part_told (fixed bits width) place q b given fits;
  }
  part_read (any width) sized low n q same fits = record {
    possible = refl;
    bits = λ place b inside given. same place inside
        ∙ part_told (any width) place q b given fits;
  }
  part_read (inner cons) sized low n q same fits = cons_read cons (cons_width cons) sized.1 low n q same fits

  parts_read : (ps : Parts) → PartsSized ps → (low n r : ℕ) → ((place : ℕ) → place < parts_width ps → n / 2 ^ (low + place) % 2 ≡ r / 2 ^ place % 2)
      → parts_fit ps r ≡ true → ReadsParts ps low n
  parts_read no_parts sized low n r same fits = tt
  parts_read (part p ps) sized low n r same fits =
      let v = parts_width ps in
      let q = r / 2 ^ v in
      let rest = r % 2 ^ v in
      let small : rest < 2 ^ v = mod_below r (2 ^ v) (pow_pos v) in (
        part_read p sized.0 (low + v) n q
            (λ place inside.
            let e : (low + v) + place ≡ low + (v + place) = omega arith in
            ap (λ k. n / 2 ^ k % 2) e
            ∙ same (v + place) (omega arith)
            ∙ ap (λ m. m / 2 ^ (v + place) % 2) (sym (shr_split r v))
            ∙ bit_high q v rest place small)
            (first_true (part_fits p q) (parts_fit ps rest) fits),
        parts_read ps sized.1 low n rest
            (λ place inside.
            same place (omega arith)
            ∙ ap (λ m. m / 2 ^ place % 2) (sym (shr_split r v))
            ∙ bit_at_cat_low q v rest place inside)
            (second_true (part_fits p q) (parts_fit ps rest) fits),
      )

  cons_read : (cons : Cons) (width : ℕ) → ConsSized cons width → (low n q : ℕ) → ((place : ℕ) → place < width → n / 2 ^ (low + place) % 2 ≡ q / 2 ^ place % 2)
      → cons_fit cons q ≡ true → ReadsCons cons low n
  cons_read no_cons width sized low n q same fits = absurd cc
  cons_read (con ps cons) width sized low n q same fits =
      either_true (parts_fit ps q) (cons_fit cons q) (ReadsParts ps low n ⊎ ReadsCons cons low n)
      (λ here. inl (parts_read ps sized.1 low n q (λ place inside. same place (omega (arith, sized.0))) here))
      (λ there. inr (cons_read cons width sized.2 low n q same there))
      fits

pub fitting_read : (ps : Parts) (n : ℕ) → PartsSized ps → parts_fit ps n ≡ true → ReadsParts ps 0 n
fitting_read ps n sized fits =
    parts_read ps sized 0 n n
    (λ place inside.
    let e : 0 + place ≡ place = omega arith in
    ap (λ k. n / 2 ^ k % 2) e)
    fits

-- what is read runs before its first bit, whatever the marks
mutual
  part_starts : (p : Part) → PartSized p → (low : ℕ) (marks : List Bool) (k n : ℕ) → low + part_width p < k → ReadsPart p low n → RunsPart p low marks k n
  part_starts (fixed bits width) sized low marks k n above reads = (reads, λ over under. absurd (omega arith))
  part_starts (any width) sized low marks k n above reads = (reads, λ over under. absurd (omega arith))
  part_starts (inner cons) sized low marks k n above reads = cons_start cons (cons_width cons) sized.1 low marks k n above reads

  pub parts_start : (ps : Parts) → PartsSized ps → (low : ℕ) (marks : List Bool) (k n : ℕ) → low + parts_width ps < k → ReadsParts ps low n
      → RunsParts ps low marks k n
  parts_start no_parts sized low marks k n above reads = tt
  parts_start (part p ps) sized low marks k n above reads = (
    part_starts p sized.0 (low + parts_width ps) (take (part_leaves p) marks) k n (omega arith) reads.0,
    parts_start ps sized.1 low (drop (part_leaves p) marks) k n (omega arith) reads.1,
  )

  cons_start : (cons : Cons) (width : ℕ) → ConsSized cons width → (low : ℕ) (marks : List Bool) (k n : ℕ) → low + width < k → ReadsCons cons low n
      → RunsCons cons low marks k n
  cons_start no_cons width sized low marks k n above reads = absurd reads
  cons_start (con ps cons) width sized low marks k n above reads =
      elim reads [
        | inl here ↦ inl (parts_start ps sized.1 low (take (parts_leaves ps) marks) k n (omega (arith, sized.0)) here)
        | inr there ↦ inr (cons_start cons width sized.2 low (drop (parts_leaves ps) marks) k n above there)
      ]

-- each mark of the one list stands in the other
abbrev pub Within : List Bool → List Bool → Type 0
Within xs ys = (i : ℕ) → get_or xs i false ≡ true → get_or ys i false ≡ true

within_take : (k : ℕ) (xs ys : List Bool) → Within xs ys → Within (take k xs) (take k ys)
within_take k xs ys h i stands =
    elim (cases_lt i k) [
      | inl inside ↦ get_or-take k ys i false inside ∙ h i (sym (get_or-take k xs i false inside) ∙ stands)
      | inr outside ↦
          let no : false ≡ true = sym (get_or_past (take k xs) i false (omega (arith, length-take k xs))) ∙ stands in
          absurd cc
    ]

within_drop : (k : ℕ) (xs ys : List Bool) → Within xs ys → Within (drop k xs) (drop k ys)
within_drop k xs ys h i stands = get_or-drop k ys i false ∙ h (k + i) (sym (get_or-drop k xs i false) ∙ stands)

-- a number runs with more marks too
mutual
  part_more : (p : Part) (low : ℕ) (xs ys : List Bool) (k n : ℕ) → Within xs ys → RunsPart p low xs k n → RunsPart p low ys k n
  part_more (fixed bits width) low xs ys k n h runs = (runs.0, λ over under. h 0 (runs.1 over under))
  part_more (any width) low xs ys k n h runs = (runs.0, λ over under. h 0 (runs.1 over under))
  part_more (inner cons) low xs ys k n h runs = cons_more cons low xs ys k n h runs

  parts_more : (ps : Parts) (low : ℕ) (xs ys : List Bool) (k n : ℕ) → Within xs ys → RunsParts ps low xs k n → RunsParts ps low ys k n
  parts_more no_parts low xs ys k n h runs = tt
  parts_more (part p ps) low xs ys k n h runs = (
    part_more p (low + parts_width ps) (take (part_leaves p) xs) (take (part_leaves p) ys) k n
        (within_take (part_leaves p) xs ys h) runs.0,
    parts_more ps low (drop (part_leaves p) xs) (drop (part_leaves p) ys) k n
        (within_drop (part_leaves p) xs ys h) runs.1,
  )

  cons_more : (cons : Cons) (low : ℕ) (xs ys : List Bool) (k n : ℕ) → Within xs ys → RunsCons cons low xs k n → RunsCons cons low ys k n
  cons_more no_cons low xs ys k n h runs = absurd runs
  cons_more (con ps cons) low xs ys k n h runs =
      elim runs [
        | inl here ↦ inl (parts_more ps low (take (parts_leaves ps) xs) (take (parts_leaves ps) ys) k n (within_take (parts_leaves ps) xs ys h) here)
        | inr there ↦ inr (cons_more cons low (drop (parts_leaves ps) xs) (drop (parts_leaves ps) ys) k n (within_drop (parts_leaves ps) xs ys h) there)
      ]

pub whole_more : (ps : Parts) (xs ys : List Bool) (k n : ℕ) → Within xs ys → RunsWhole ps xs k n → RunsWhole ps ys k n
whole_more ps xs ys k n h runs = (
  parts_more ps 0 (take (parts_leaves ps) xs) (take (parts_leaves ps) ys) k n (within_take (parts_leaves ps) xs ys h) runs.0,
  λ last. h (parts_leaves ps) (runs.1 last),
)

-- a number of an aligned range has its upper bits
pub in_range : (from bits p n : ℕ) → from ≡ p * 2 ^ bits → from ≤ n → n < from + 2 ^ bits → IsIn from bits n
in_range from bits p n is above below =
    let split : n ≡ p * 2 ^ bits + (n - from) = omega (arith, is) in
    let start : from ≡ p * 2 ^ bits + 0 = omega (arith, is) in
    ap (λ m. m / 2 ^ bits) split
    ∙ div-mul-add p (2 ^ bits) (n - from) (omega arith)
    ∙ sym (ap (λ m. m / 2 ^ bits) start ∙ div-mul-add p (2 ^ bits) 0 (pow_pos bits))

shift_more : (n bits place : ℕ) → bits ≤ place → n / 2 ^ place ≡ n / 2 ^ bits / 2 ^ (place - bits)
shift_more n bits place h =
    let e : place ≡ bits + (place - bits) = omega arith in
    ap (λ k. n / 2 ^ k) e ∙ ap (λ k. n / k) (pow-add 2 bits (place - bits)) ∙ sym (div-div-eq-div-mul n (2 ^ bits) (2 ^ (place - bits)))

shared_when : (from bits place n b : ℕ) (t : Bool) → ltb place bits ≡ t → IsIn from bits n → (if t then None else Some (from / 2 ^ place % 2)) ≡ Some b
    → n / 2 ^ place % 2 ≡ b
shared_when from bits place n b true is inside given = absurd cc
shared_when from bits place n b false is inside given =
    let h = ltb-false place bits is in
    let bit : from / 2 ^ place % 2 ≡ b = cc in
    ap (λ m. m % 2) (shift_more n bits place h ∙ ap (λ m. m / 2 ^ (place - bits)) inside ∙ sym (shift_more from bits place h)) ∙ bit

pub shared_told : (from bits place n b : ℕ) → IsIn from bits n → shared_bit from bits place ≡ Some b → n / 2 ^ place % 2 ≡ b
shared_told from bits place n b inside given = shared_when from bits place n b (ltb place bits) refl inside given
