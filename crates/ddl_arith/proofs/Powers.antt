-- Powers of two up to 2 ^ 128, and a number's lowest bits.
use Rattle.std.proofs.Common.{◌≡◌, ℕ, zero, suc, ◌+◌, ◌-◌, ◌*◌, ◌/◌, ◌%◌, ◌^◌, ◌<◌, ◌≤◌, bit_and, sym, ◌∙◌, ap, arith}
use Rattle.std.proofs.Math.Nat.{pow-le-pow_right, two-pow-succ}
use Rattle.std.proofs.Math.Pow.{mod-mod-pow}
use Rattle.std.proofs.lemmas.Nat.{pow_pos, pow-add, one_shl, and_mask, shr_split, mod_below, mod_low}

-- the largest power is each other one times a third
pub pow_times : (w : ℕ) → w ≤ 128 → 2 ^ (128 - w) * 2 ^ w ≡ 2 ^ 128
pow_times w h =
    let e : (128 - w) + w ≡ 128 = omega arith in
    sym (pow-add 2 (128 - w) w) ∙ ap (λ k. 2 ^ k) e

pub pow_le : (i j : ℕ) → i ≤ j → 2 ^ i ≤ 2 ^ j
pow_le i j h = pow-le-pow_right (omega arith) h

-- the power of a width is twice that of one bit less
pub pow_half : (w : ℕ) → 1 ≤ w → 2 ^ w ≡ 2 * 2 ^ (w - 1)
pow_half zero h = absurd (omega arith)
pow_half (suc w) h = let e : suc w - 1 ≡ w = omega arith in rw (e, two-pow-succ) (omega arith)

-- the mask of fewer than 128 bits
pub by_mask : (n w : ℕ) → w < 128 → bit_and n (1 * 2 ^ w % 2 ^ 128 - 1) ≡ n % 2 ^ w
by_mask n w h = ap (λ p. bit_and n (p - 1)) (one_shl w 128 h) ∙ and_mask n w

-- the lowest bits of the lowest 128 bits
pub mod_twice : (n w : ℕ) → w ≤ 128 → n % 2 ^ 128 % 2 ^ w ≡ n % 2 ^ w
mod_twice n w h =
    let e : 128 ≡ (128 - w) + w = omega arith in
    ap (λ k. n % 2 ^ k % 2 ^ w) e ∙ mod-mod-pow n (128 - w) w

-- what a shift to the right leaves
pub below_from_shr : (n h : ℕ) → n / 2 ^ h ≡ 0 → n < 2 ^ h
below_from_shr n h e =
    let split = shr_split n h in
    let low = mod_below n (2 ^ h) (pow_pos h) in
    let none : n / 2 ^ h * 2 ^ h ≡ 0 * 2 ^ h = ap (λ q. q * 2 ^ h) e in
    omega arith

pub above_from_shr : (n h : ℕ) → (n / 2 ^ h ≡ 0 → ⊥) → 2 ^ h ≤ n
above_from_shr n h e = grind (arith, shr_split n h)

one_less : (a b : ℕ) → 0 < a → 0 < b → a * b ≡ (a - 1) * b + (b - 1) + 1
one_less zero b p q = absurd (omega arith)
one_less (suc a) b p q = let e : suc a - 1 ≡ a = omega arith in rw e (omega arith)

-- the lowest bits of the number whose 128 bits are all set
pub mod_of_ones : (w : ℕ) → w ≤ 128 → (2 ^ 128 - 1) % 2 ^ w ≡ 2 ^ w - 1
mod_of_ones w h =
    let positive = pow_pos w in
    let whole = sym (pow_times w h) ∙ one_less (2 ^ (128 - w)) (2 ^ w) (pow_pos (128 - w)) positive in
    let parts : 2 ^ 128 - 1 ≡ (2 ^ (128 - w) - 1) * 2 ^ w + (2 ^ w - 1) = omega (arith, whole) in
    let below : 2 ^ w - 1 < 2 ^ w = omega (arith, positive) in
    ap (λ n. n % 2 ^ w) parts ∙ mod_low (2 ^ (128 - w) - 1) w (2 ^ w - 1) below
