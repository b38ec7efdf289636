-- Numbers below powers of two.
use Rattle.std.proofs.Common.{◌≡◌, ℕ, ◌^◌, ◌/◌, ◌<◌, ◌≤◌, nat_lt, nat_eq, true, sym, arith, lt-ltb}
use Rattle.std.proofs.lemmas.Bool.Decides.{nat_tests}
use Rattle.std.proofs.lemmas.Nat.{pow_pos}
use Rattle.std.proofs.Math.Pow.{pow_mono}
use Rattle.std.proofs.Math.Nat.{div-eq_of_lt, lt-div-mul-add}

-- a number of 128 bits is below each power from there on
pub below_large : (n e : ℕ) → n < 2 ^ 128 → 128 ≤ e → true ≡ nat_lt n (2 ^ e)
below_large n e h k = let m : 2 ^ 128 ≤ 2 ^ e = pow_mono k in sym (lt-ltb n (2 ^ e) (omega arith))

-- the quotient by a power tells whether a number is below it
pub below_quotient : (n e : ℕ) → nat_eq (n / 2 ^ e) 0 ≡ nat_lt n (2 ^ e)
below_quotient n e = by_power (2 ^ e) (pow_pos e)
  where
    by_power : (m : ℕ) → 0 < m → nat_eq (n / m) 0 ≡ nat_lt n m
    by_power m p = grind (arith, nat_tests, div-eq_of_lt {n = n} {m = m}, lt-div-mul-add {a = n} {b = m} p)
