-- How bytes are written between quotes.
use Rattle.std.specs.Prelude.{ℕ, ◌/◌, ◌%◌, ◌||◌, ◌==◌, if◌then◌else◌, List, [], ◌∷◌, ◌++◌}
use Rattle.ddl_lex.specs.Letters.{between}
use Rattle.ddl_show.specs.Numerals.{digit}

-- a byte: behind a backslash where it is the quote or a backslash, by two digits where it is no visible sign
abbrev pub written : ℕ → ℕ → List ℕ
written quote b =
    if b == quote || b == 92 then 92 ∷ b ∷ []
    else (if between 32 126 b then b ∷ []
    else 92 ∷ 120 ∷ digit (b / 16) ∷ digit (b % 16) ∷ [])

-- each byte, one after another
abbrev pub all_written : ℕ → List ℕ → List ℕ
all_written quote [] = []
all_written quote (b ∷ bs) = written quote b ++ all_written quote bs

-- the bytes between two quotes
abbrev pub quoted : ℕ → List ℕ → List ℕ
quoted quote bytes = quote ∷ all_written quote bytes ++ quote ∷ []
