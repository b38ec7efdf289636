-- How many numbers below a bound pass a test.
use Rattle.std.proofs.Common.{◌≡◌, ℕ, zero, suc, ◌+◌, ◌*◌, ◌/◌, ◌%◌, ◌^◌, ◌<◌, ◌≤◌, Bool, true, false, ◌&&◌, ◌||◌, cond, refl, ◌∙◌, ap, inl, inr, arith}
use Rattle.std.proofs.lemmas.Nat.{div-mul-add, mod-mul-add, pow-add, pow_pos}
use Rattle.ddl_bits.specs.Counts.{tally}
use Rattle.ddl_bits.specs.Tree.{Part, Parts, part, part_width, parts_width, part_fits, parts_fit}
use Rattle.std.proofs.lemmas.Bool.{cases_lt}

one_at_most : (b : Bool) → cond b 1 0 ≤ 1
one_at_most true = omega arith
one_at_most false = omega arith

pub tally_le : (test : ℕ → Bool) (n : ℕ) → tally test n ≤ n
tally_le test zero = omega arith
tally_le test (suc n) = omega (arith, tally_le test n, one_at_most (test n))

-- tests that agree below the bound
pub tally_same : (f g : ℕ → Bool) (n : ℕ) → ((k : ℕ) → k < n → f k ≡ g k) → tally f n ≡ tally g n
tally_same f g zero same = refl
tally_same f g (suc n) same =
    let before = tally_same f g n (λ k h. same k (omega arith)) in
    let here : cond (f n) 1 0 ≡ cond (g n) 1 0 = ap {B = ℕ} (λ b. cond b 1 0) (same n (omega arith)) in
    omega (arith, before, here)

-- the bound in two parts
pub tally_split : (test : ℕ → Bool) (a b : ℕ) → tally test (a + b) ≡ tally test a + tally (λ k. test (a + k)) b
tally_split test a zero = let e : a + 0 ≡ a = omega arith in ap (tally test) e ∙ omega arith
tally_split test a (suc b) =
    let e : a + suc b ≡ suc (a + b) = omega arith in
    ap (tally test) e ∙ omega (arith, tally_split test a b)

-- no number below the bound passes both
both : (x y : Bool) → (x && y) ≡ false → cond (x || y) 1 0 ≡ cond x 1 0 + cond y 1 0
both true true h = absurd cc
both true false h = refl
both false y h = omega arith

pub tally_or : (f g : ℕ → Bool) (n : ℕ) → ((k : ℕ) → k < n → (f k && g k) ≡ false) → tally (λ k. f k || g k) n ≡ tally f n + tally g n
tally_or f g zero apart = refl
tally_or f g (suc n) apart =
    let before = tally_or f g n (λ k h. apart k (omega arith)) in
    let here = both (f n) (g n) (apart n (omega arith)) in
    omega (arith, before, here)

one_is_true : (b : Bool) → cond {A = ℕ} b 1 0 ≡ 1 → b ≡ true
one_is_true true h = refl
one_is_true false h = absurd (omega (arith, h))

-- all numbers below the bound pass where as many pass
pub tally_all : (test : ℕ → Bool) (n : ℕ) → tally test n ≡ n → (k : ℕ) → k < n → test k ≡ true
tally_all test zero full k h = absurd (omega arith)
tally_all test (suc n) full k h =
    let before = tally_le test n in
    let here = one_at_most (test n) in
    elim (cases_lt k n) [
      | inl below ↦ tally_all test n (omega arith) k below
      | inr above ↦
          let e : k ≡ n = omega arith in
          ap test e ∙ one_is_true (test n) (omega arith)
    ]

pub one_upper : (u : Bool) (lower : ℕ → Bool) (b : ℕ) → tally (λ k. u && lower k) b ≡ cond u 1 0 * tally lower b
one_upper true lower b = omega arith
one_upper false lower zero = omega arith
one_upper false lower (suc b) = omega (arith, one_upper false lower b)

-- a test of the upper digits and one of the lower
pub tally_product : (upper lower : ℕ → Bool) (a b : ℕ) → 0 < b → tally (λ k. upper (k / b) && lower (k % b)) (a * b) ≡ tally upper a * tally lower b
tally_product upper lower zero b h =
    let e : 0 * b ≡ 0 = omega arith in
    ap (tally (λ k. upper (k / b) && lower (k % b))) e ∙ omega arith
tally_product upper lower (suc a) b h =
    let test : ℕ → Bool = λ k. upper (k / b) && lower (k % b) in
    let e : suc a * b ≡ a * b + b = omega arith in
    let last : tally (λ k. test (a * b + k)) b ≡ cond (upper a) 1 0 * tally lower b =
    tally_same (λ k. test (a * b + k)) (λ k. upper a && lower k) b
    (λ k below. ap (λ q. upper q && lower ((a * b + k) % b)) (div-mul-add a b k below) ∙ ap (λ r. upper a && lower r) (mod-mul-add a b k below))
    ∙ one_upper (upper a) lower b in
    let before = tally_product upper lower a b h in
    ap (tally test) e ∙ tally_split test (a * b) b ∙ omega (arith, before, last)

-- how many numbers fit parts: as many as fit the first, times as many as fit the others
pub tally_parts : (p : Part) (ps : Parts) → tally (parts_fit (part p ps)) (2 ^ (part_width p + parts_width ps)) ≡ tally (part_fits p) (2 ^ part_width p)
    * tally (parts_fit ps) (2 ^ parts_width ps)
tally_parts p ps =
    ap (tally (parts_fit (part p ps))) (pow-add 2 (part_width p) (parts_width ps))
    ∙ tally_product (part_fits p) (parts_fit ps) (2 ^ part_width p) (2 ^ parts_width ps) (pow_pos (parts_width ps))
