-- How many numbers below a bound fit a part, parts in a row, and a layout.
use Rattle.std.proofs.Common.{◌≡◌, ℕ, zero, suc, ◌+◌, ◌*◌, ◌/◌, ◌%◌, ◌^◌, ◌<◌, ◌≤◌, Bool, true, false, ◌&&◌, ◌||◌, eqb, ltb, cond, if◌then◌else◌, refl, ◌∙◌}
use Rattle.std.proofs.Common.{sym, ap, inl, inr, arith}
use Rattle.std.proofs.lemmas.Nat.{div-mul-add, mod-mul-add, pow_pos, shr_split, mod_below}
use Rattle.std.proofs.lemmas.Bool.{cases_lt, lt-ltb, le-ltb, eq-eqb, ne_eqb}
use Rattle.ddl_bits.specs.Counts.{tally, tally_each}
use Rattle.ddl_bits.specs.Tree.{Part, fixed, any, Parts, part, Cons, no_cons, con, parts_width, part_fits, parts_fit, cons_fit, fit_count, IsUnambiguous}
use Rattle.ddl_bits.proofs.Tally.{tally_same, tally_split, tally_or, tally_product, one_upper}

pub tally_none : (test : ℕ → Bool) (n : ℕ) → ((k : ℕ) → k < n → test k ≡ false) → tally test n ≡ 0
tally_none test zero none = refl
tally_none test (suc n) none =
    let before = tally_none test n (λ k h. none k (omega arith)) in
    let here : cond {A = ℕ} (test n) 1 0 ≡ 0 = ap {B = ℕ} (λ b. cond b 1 0) (none n (omega arith)) in
    omega (arith, before, here)

pub tally_every : (test : ℕ → Bool) (n : ℕ) → ((k : ℕ) → k < n → test k ≡ true) → tally test n ≡ n
tally_every test zero each = refl
tally_every test (suc n) each =
    let before = tally_every test n (λ k h. each k (omega arith)) in
    let here : cond {A = ℕ} (test n) 1 0 ≡ 1 = ap {B = ℕ} (λ b. cond b 1 0) (each n (omega arith)) in
    omega (arith, before, here)

-- one number passes the test of being it
tally_one : (m n : ℕ) → tally (λ k. eqb k m) n ≡ cond (ltb m n) 1 0
tally_one m zero = sym (ap {B = ℕ} (λ b. cond b 1 0) (le-ltb m 0 (omega arith)))
tally_one m (suc n) =
    elim (cases_lt m n) [
      | inl below ↦
          let before : tally (λ k. eqb k m) n ≡ 1 = tally_one m n ∙ ap {B = ℕ} (λ b. cond b 1 0) (lt-ltb m n below) in
          let here : cond {A = ℕ} (eqb n m) 1 0 ≡ 0 = ap {B = ℕ} (λ b. cond b 1 0) (ne_eqb n m (λ e. omega arith)) in
          let after : cond {A = ℕ} (ltb m (suc n)) 1 0 ≡ 1 = ap {B = ℕ} (λ b. cond b 1 0) (lt-ltb m (suc n) (omega arith)) in
          omega (arith, before, here, after)
      | inr above ↦
          let before : tally (λ k. eqb k m) n ≡ 0 = tally_one m n ∙ ap {B = ℕ} (λ b. cond b 1 0) (le-ltb m n above) in
          elim (cases_lt n m) [
            | inl over ↦
                let here : cond {A = ℕ} (eqb n m) 1 0 ≡ 0 = ap {B = ℕ} (λ b. cond b 1 0) (ne_eqb n m (λ e. omega arith)) in
                let after : cond {A = ℕ} (ltb m (suc n)) 1 0 ≡ 0 = ap {B = ℕ} (λ b. cond b 1 0) (le-ltb m (suc n) (omega arith)) in
                omega (arith, before, here, after)
            | inr under ↦
                let here : cond {A = ℕ} (eqb n m) 1 0 ≡ 1 = ap {B = ℕ} (λ b. cond b 1 0) (eq-eqb n m (omega arith)) in
                let after : cond {A = ℕ} (ltb m (suc n)) 1 0 ≡ 1 = ap {B = ℕ} (λ b. cond b 1 0) (lt-ltb m (suc n) (omega arith)) in
                omega (arith, before, here, after)
          ]
    ]

and_true : (a b : Bool) → b ≡ true → (a && b) ≡ a
and_true true b h = h
and_true false b h = refl

pub tally_fixed : (bits width n : ℕ) → n ≤ 2 ^ width → tally (part_fits (fixed bits width)) n ≡ cond (ltb bits n) 1 0
tally_fixed bits width n within =
    tally_same (part_fits (fixed bits width)) (λ k. eqb k bits) n (λ k h. and_true (eqb k bits) (ltb k (2 ^ width)) (lt-ltb k (2 ^ width) (omega arith)))
    ∙ tally_one bits n

pub tally_any : (width n : ℕ) → n ≤ 2 ^ width → tally (part_fits (any width)) n ≡ n
tally_any width n within = tally_every (part_fits (any width)) n (λ k h. lt-ltb k (2 ^ width) (omega arith))

-- one constructor at most has the number
count_here : (b : Bool) (rest : ℕ) → (if b then 1 else 0) + rest ≤ 1 → rest ≤ 1
count_here true rest h = omega arith
count_here false rest h = omega arith

pub rest_unambiguous : (ps : Parts) (cons : Cons) → IsUnambiguous (con ps cons) → IsUnambiguous cons
rest_unambiguous ps cons h n = count_here (parts_fit ps n) (fit_count cons n) (h n)

counted_or : (x y : Bool) (rest : ℕ) → (y ≡ true → 1 ≤ rest) → (x || y) ≡ true → 1 ≤ (if x then 1 else 0) + rest
counted_or true y rest h e = omega arith
counted_or false y rest h e = omega (arith, h e)

pub counted : (cons : Cons) (n : ℕ) → cons_fit cons n ≡ true → 1 ≤ fit_count cons n
counted no_cons n h = absurd cc
counted (con ps cons) n h = counted_or (parts_fit ps n) (cons_fit cons n) (fit_count cons n) (counted cons n) h

apart_by_count : (x y : Bool) (rest : ℕ) → (y ≡ true → 1 ≤ rest) → (if x then 1 else 0) + rest ≤ 1 → (x && y) ≡ false
apart_by_count true true rest h few = absurd (omega (arith, h refl))
apart_by_count true false rest h few = refl
apart_by_count false y rest h few = refl

pub apart : (ps : Parts) (cons : Cons) → IsUnambiguous (con ps cons) → (n : ℕ) → (parts_fit ps n && cons_fit cons n) ≡ false
apart ps cons h n = apart_by_count (parts_fit ps n) (cons_fit cons n) (fit_count cons n) (counted cons n) (h n)

-- where no number fits two constructors, those of each make up those of all
pub tally_each_is : (cons : Cons) (n : ℕ) → IsUnambiguous cons → tally_each cons n ≡ tally (cons_fit cons) n
tally_each_is no_cons n h = sym (tally_none (cons_fit no_cons) n (λ k below. refl))
tally_each_is (con ps cons) n h =
    ap (λ t. tally (parts_fit ps) n + t) (tally_each_is cons n (rest_unambiguous ps cons h))
    ∙ sym (tally_or (parts_fit ps) (cons_fit cons) n (λ k below. apart ps cons h k))

upper_once : (u : Bool) (t : ℕ) → cond u 1 0 * t ≡ cond u t 0
upper_once true t = omega arith
upper_once false t = omega arith

-- how many numbers below n fit parts: those whose upper bits are below n's, and those whose upper bits are n's
pub tally_step : (p : Part) (ps : Parts) (n : ℕ) → tally (parts_fit (part p ps)) n ≡ tally (part_fits p) (n / 2 ^ parts_width ps)
    * tally (parts_fit ps) (2 ^ parts_width ps) + cond (part_fits p (n / 2 ^ parts_width ps)) (tally (parts_fit ps) (n % 2 ^ parts_width ps)) 0
tally_step p ps n =
    let b = 2 ^ parts_width ps in
    let q = n / b in
    let r = n % b in
    let test : ℕ → Bool = parts_fit (part p ps) in
    let low : r < b = mod_below n b (pow_pos (parts_width ps)) in
    let e : n ≡ q * b + r = sym (shr_split n (parts_width ps)) in
    let first : tally test (q * b) ≡ tally (part_fits p) q * tally (parts_fit ps) b = tally_product (part_fits p) (parts_fit ps) q b (pow_pos (parts_width ps))
    in
    let last : tally (λ k. test (q * b + k)) r ≡ cond (part_fits p q) (tally (parts_fit ps) r) 0 =
    tally_same (λ k. test (q * b + k)) (λ k. part_fits p q && parts_fit ps k) r
    (λ k below. let small : k < b = omega arith in ap (λ u. part_fits p u && parts_fit ps ((q * b + k) % b)) (div-mul-add q b k small)
    ∙ ap (λ u. part_fits p q && parts_fit ps u) (mod-mul-add q b k small))
    ∙ one_upper (part_fits p q) (parts_fit ps) r
    ∙ upper_once (part_fits p q) (tally (parts_fit ps) r) in
    ap (tally test) e ∙ tally_split test (q * b) r ∙ omega (arith, first, last)
