-- The bytes of which tokens are made.
use Rattle.std.specs.Prelude.{ℕ, suc, ◌-◌, Bool, false, not, ◌&&◌, ◌||◌, ◌==◌, nat_le, nat_lt, if◌then◌else◌, List, [], ◌∷◌}

-- a byte from a to b
abbrev pub between : ℕ → ℕ → ℕ → Bool
between a b n = nat_le a n && nat_le n b

-- a capital letter
abbrev pub is_capital : ℕ → Bool
is_capital b = between 65 90 b

-- a small letter
abbrev pub is_small : ℕ → Bool
is_small b = between 97 122 b

-- a decimal digit
abbrev pub is_decimal : ℕ → Bool
is_decimal b = between 48 57 b

-- a hexadecimal digit, of either size
abbrev pub is_hexadecimal : ℕ → Bool
is_hexadecimal b = is_decimal b || between 65 70 b || between 97 102 b

-- what a digit counts
abbrev pub digit_value : ℕ → ℕ
digit_value b = if nat_lt b 65 then b - 48 else (if nat_lt b 97 then b - 55 else b - 87)

-- what a name goes on with: a letter, a digit or `_`
abbrev pub is_name : ℕ → Bool
is_name b = is_capital b || is_small b || is_decimal b || b == 95

-- space, tab, newline, return
abbrev pub is_white : ℕ → Bool
is_white b = b == 32 || b == 9 || b == 10 || b == 13

-- a byte below the space, or 0x7F: it stands in no literal
abbrev pub is_control : ℕ → Bool
is_control b = nat_le b 31 || b == 127

-- all but the newline
abbrev pub in_line : ℕ → Bool
in_line b = not (b == 10)

-- a literal or a number begins with the byte, whether it can be read or not
abbrev pub begins_token : ℕ → Bool
begins_token b = b == 34 || b == 39 || is_decimal b

-- two bytes with which a text begins
abbrev pub begins_with : ℕ → ℕ → List ℕ → Bool
begins_with a b (c ∷ d ∷ _) = c == a && d == b
begins_with a b _ = false

-- how many bytes at the front pass the test, one after the other
abbrev pub run : (ℕ → Bool) → List ℕ → ℕ
run p [] = 0
run p (b ∷ bs) = if p b then suc (run p bs) else 0
