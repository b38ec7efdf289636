-- How a number is written in a base, with a given number of digits.
use Rattle.std.specs.Prelude.{ℕ, zero, suc, ◌+◌, ◌/◌, ◌%◌, nat_lt, if◌then◌else◌, List, [], ◌∷◌, reverse}

-- the sign of a digit, small from ten on
abbrev pub digit : ℕ → ℕ
digit d = if nat_lt d 10 then 48 + d else 87 + d

-- so many digits of a value, the lowest first
abbrev pub low_digits : ℕ → ℕ → ℕ → List ℕ
low_digits radix zero value = []
low_digits radix (suc n) value = digit (value % radix) ∷ low_digits radix n (value / radix)

-- so many digits of a value, the highest first
abbrev pub digits : ℕ → ℕ → ℕ → List ℕ
digits radix n value = reverse (low_digits radix n value)
