-- The forms of tokens, white space and comments, apart from how they are found.
use Rattle.std.specs.Prelude.{◌≡◌, ◌≢◌, ◌⊎◌, ◌<◌, ◌≤◌, ◌^◌, ℕ, Bool, true, List, [], ◌∷◌, ◌++◌, length, take, Option, Some, None}
use Rattle.ddl_token.specs.declared.word.Word.{Word}
use Rattle.ddl_token.specs.declared.token.Tok.{Tok}
use Rattle.ddl_token.specs.declared.token.Tok.TheVariants as t
use Rattle.ddl_token.specs.declared.token.Base.{Base}
use Rattle.ddl_token.specs.declared.token.Base.TheVariants.{Decimal, Hexadecimal, Binary}
use Rattle.ddl_token.specs.Spelling.{word_spelling, mark_spelling}
use Rattle.ddl_lex.specs.Letters.{is_capital, is_small, is_name, is_white, in_line}
use Rattle.ddl_lex.specs.Nesting.{IsComment}
use Rattle.ddl_lex.specs.Elements.{IsLiteral}
use Rattle.ddl_lex.specs.Numbers.{is_digit_of, radix, value_behind}

-- each byte passes the test
abbrev pub AllPass : (ℕ → Bool) → List ℕ → Type 0
AllPass p [] = Unit {0}
AllPass p (b ∷ bs) = (p b ≡ true) × AllPass p bs

-- one byte of the first kind, then bytes of names
abbrev pub IsName : (ℕ → Bool) → List ℕ → Type 0
IsName first [] = ⊥
IsName first (b ∷ bs) = (first b ≡ true) × AllPass is_name bs

-- `_` and at least one byte of names
abbrev pub IsHidden : List ℕ → Type 0
IsHidden (a ∷ b ∷ bs) = (a ≡ 95) × (is_name b ≡ true) × AllPass is_name bs
IsHidden _ = ⊥

-- `$` and a name that begins with a small letter
abbrev pub IsClass : List ℕ → Type 0
IsClass [] = ⊥
IsClass (b ∷ bs) = (b ≡ 36) × IsName is_small bs

-- one white byte
abbrev pub IsWhite : List ℕ → Type 0
IsWhite (b ∷ []) = is_white b ≡ true
IsWhite _ = ⊥

-- `--` and bytes of its line
abbrev pub IsLineComment : List ℕ → Type 0
IsLineComment (a ∷ b ∷ bs) = (a ≡ 45) × (b ≡ 45) × AllPass in_line bs
IsLineComment _ = ⊥

-- no word is spelled so
abbrev pub IsNoWord : List ℕ → Type 0
IsNoWord bytes = (w : Word) → word_spelling w ≢ bytes

-- the mark of a base
abbrev pub base_spelling : Base → List ℕ
base_spelling Decimal = []
base_spelling Hexadecimal = 48 ∷ 120 ∷ []
base_spelling Binary = 48 ∷ 98 ∷ []

-- the mark of its base, and so many digits, one at least, that make the value
abbrev pub IsNumber : ℕ → Base → ℕ → List ℕ → Type 0
IsNumber value base count bytes = (digits : List ℕ) × (bytes ≡ base_spelling base ++ digits) × AllPass (is_digit_of base) digits
    × (count ≡ length digits) × (0 < count) × (value ≡ value_behind (radix base) 0 digits)

-- the bytes are white space, a comment or this token
abbrev pub IsForm : Option Tok → List ℕ → Type 0
IsForm None bytes = IsWhite bytes ⊎ (IsLineComment bytes ⊎ IsComment bytes)
IsForm (Some (t.Word w)) bytes = bytes ≡ word_spelling w
IsForm (Some (t.Mark m)) bytes = bytes ≡ mark_spelling m
IsForm (Some (t.Upper name)) bytes = (name ≡ bytes) × IsName is_capital bytes × IsNoWord bytes
IsForm (Some (t.Lower name)) bytes = (name ≡ bytes) × (IsName is_small bytes ⊎ IsHidden bytes) × IsNoWord bytes
IsForm (Some (t.Class name)) bytes = (name ≡ bytes) × IsClass bytes
IsForm (Some (t.Number value base count)) bytes = IsNumber value base count bytes
IsForm (Some (t.Char b)) bytes = IsLiteral 39 (b ∷ []) bytes
IsForm (Some (t.Text means)) bytes = IsLiteral 34 means bytes

-- no form that begins the text has more bytes
abbrev pub NoLonger : ℕ → List ℕ → Type 0
NoLonger n text = (other : Option Tok) (k : ℕ) → k ≤ length text → IsForm other (take k text) → k ≤ n

-- the first n bytes of the text are of the form, and no form that begins there has more
abbrev pub IsLongest : Option Tok → ℕ → List ℕ → Type 0
IsLongest found n text = (n ≤ length text) × (0 < n) × IsForm found (take n text) × NoLonger n text

-- the value of a number is below 2^128
abbrev pub Fits : Option Tok → Type 0
Fits (Some (t.Number value base count)) = value < 2 ^ 128
Fits _ = Unit {0}
