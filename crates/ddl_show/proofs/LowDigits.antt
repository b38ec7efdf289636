-- Digits of a value, one more.
use Rattle.std.proofs.Common.{◌≡◌, ℕ, zero, suc, ◌-◌, ◌/◌, ◌%◌, ◌<◌, ◌∷◌, ap, arith}
use Rattle.ddl_show.specs.Numerals.{digit, low_digits}

pub low_more : (radix n value : ℕ) → 0 < n → low_digits radix n value ≡ digit (value % radix) ∷ low_digits radix (n - 1) (value / radix)
low_more radix zero value h = absurd (omega arith)
low_more radix (suc n) value h = let e : n ≡ suc n - 1 = omega arith in ap (λ z. digit (value % radix) ∷ low_digits radix z (value / radix)) e
