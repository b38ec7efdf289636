-- Numbers in their three bases.
use Rattle.std.specs.Prelude.{ℕ, ◌+◌, ◌*◌, ◌^◌, Bool, ◌&&◌, ◌==◌, nat_lt, if◌then◌else◌, List, [], ◌∷◌, take, drop, Option, Some, Result, Ok, Err}
use Rattle.ddl_token.specs.declared.token.Tok.{Tok}
use Rattle.ddl_token.specs.declared.token.Tok.TheVariants.{Number}
use Rattle.ddl_token.specs.declared.token.Base.{Base}
use Rattle.ddl_token.specs.declared.token.Base.TheVariants.{Decimal, Hexadecimal, Binary}
use Rattle.ddl_lex.specs.declared.error.LexError.{LexError}
use Rattle.ddl_lex.specs.declared.error.LexError.TheVariants.{NumberTooWide}
use Rattle.ddl_lex.specs.Letters.{is_decimal, is_hexadecimal, digit_value, between, run}

-- how much a digit counts more than the digit behind it
abbrev pub radix : Base → ℕ
radix Decimal = 10
radix Hexadecimal = 16
radix Binary = 2

-- how many bytes tell the base: `0x`, `0b`, or none
abbrev pub base_mark : Base → ℕ
base_mark Decimal = 0
base_mark Hexadecimal = 2
base_mark Binary = 2

-- the digits of a base
abbrev pub is_digit_of : Base → ℕ → Bool
is_digit_of Decimal b = is_decimal b
is_digit_of Hexadecimal b = is_hexadecimal b
is_digit_of Binary b = between 48 49 b

-- `0x` and `0b` tell the base where a digit of it follows
abbrev pub base_of : List ℕ → Base
base_of (a ∷ b ∷ d ∷ _) =
    if a == 48 && b == 120 && is_hexadecimal d then Hexadecimal
    else (if a == 48 && b == 98 && between 48 49 d then Binary
    else Decimal)
base_of _ = Decimal

-- the number of these digits behind digits of a value, the first counting most
abbrev pub value_behind : ℕ → ℕ → List ℕ → ℕ
value_behind radix v [] = v
value_behind radix v (d ∷ ds) = value_behind radix (v * radix + digit_value d) ds

-- the number of n digits of a base behind its mark: below 2^128, or an error at its place
abbrev pub number_of : ℕ → Base → ℕ → List ℕ → Result (Option Tok × ℕ) LexError
number_of at base n digits =
    let value = value_behind (radix base) 0 digits in
    if nat_lt value (2 ^ 128) then Ok (Some (Number value base n), base_mark base + n) else Err (NumberTooWide at)

-- the number at the front of a text that begins with a digit: all digits of its base that follow
abbrev pub number : ℕ → List ℕ → Result (Option Tok × ℕ) LexError
number at text =
    let base = base_of text in
    let digits = drop (base_mark base) text in
    let n = run (is_digit_of base) digits in
    number_of at base n (take n digits)
