-- The inside of texts and characters.
use Rattle.std.specs.Prelude.{ℕ, zero, suc, ◌+◌, ◌-◌, ◌*◌, ◌&&◌, ◌||◌, ◌==◌, if◌then◌else◌, List, [], ◌∷◌, length, ◌<◌, ◌≤◌, slice_index, Option, Some, Result}
use Rattle.std.specs.Prelude.{Ok, Err}
use Rattle.ddl_token.specs.declared.token.Tok.{Tok}
use Rattle.ddl_token.specs.declared.token.Tok.TheVariants.{Char}
use Rattle.ddl_lex.specs.declared.error.LexError.{LexError}
use Rattle.ddl_lex.specs.declared.error.LexError.TheVariants.{BadByte, OpenText, BadEscape}
use Rattle.ddl_lex.specs.declared.literal.Element.{Element}
use Rattle.ddl_lex.specs.declared.literal.Element.TheVariants.{Means, Closes, Ends, Control, NoEscape}
use Rattle.ddl_lex.specs.Letters.{is_control, is_hexadecimal, digit_value}

-- `\x` and two hexadecimal digits: the byte of that number
abbrev pub hexadecimal_escape : List ℕ → Element
hexadecimal_escape (h ∷ l ∷ _) = if is_hexadecimal h && is_hexadecimal l then Means (16 * digit_value h + digit_value l) 4 else NoEscape
hexadecimal_escape _ = NoEscape

-- what follows a backslash: `n t r \ " '` or `x` and two digits
abbrev pub escape : List ℕ → Element
escape [] = NoEscape
escape (b ∷ bs) =
    if b == 110 then Means 10 2
    else (if b == 116 then Means 9 2
    else (if b == 114 then Means 13 2
    else (if b == 92 || b == 34 || b == 39 then Means b 2
    else (if b == 120 then hexadecimal_escape bs
    else NoEscape))))

-- what stands next inside a literal with this quote: its end, the end of the line, an escape, or a byte for itself
abbrev pub element : ℕ → List ℕ → Element
element quote [] = Ends
element quote (b ∷ bs) =
    if b == quote then Closes
    else (if b == 10 then Ends
    else (if b == 92 then escape bs
    else (if is_control b then Control
    else Means b 1)))

-- an element takes a byte at least, and no more than there are
abbrev pub Takes : Element → List ℕ → Type 0
Takes (Means v n) inside = (0 < n) × (n ≤ length inside)
Takes _ inside = Unit {0}

-- one byte more of the text
abbrev pub later : Result (List ℕ × ℕ) LexError → Result (List ℕ × ℕ) LexError
later (Err e) = Err e
later (Ok r) = Ok (r.0, suc r.1)

-- one byte more of the text, which begins the element that means b
abbrev pub meaning : ℕ → Result (List ℕ × ℕ) LexError → Result (List ℕ × ℕ) LexError
meaning b (Err e) = Err e
meaning b (Ok r) = Ok (b ∷ r.0, suc r.1)

-- how many bytes an element takes behind its first
abbrev pub bytes_behind : Element → ℕ
bytes_behind (Means v n) = n - 1
bytes_behind _ = 0

-- what an element at a place makes of what is read behind it
abbrev pub read : ℕ → ℕ → Element → Result (List ℕ × ℕ) LexError → Result (List ℕ × ℕ) LexError
read start at (Means v n) behind = meaning v behind
read start at Closes behind = Ok ([], 1)
read start at Ends behind = Err (OpenText start)
read start at Control behind = Err (BadByte at)
read start at NoEscape behind = Err (BadEscape at)

-- Behind the opening quote at `start`, with `at` the place reached and `skip` bytes of an element left:
-- the bytes that the literal means and how many bytes there are to its end, or the first error.
abbrev pub literal : ℕ → ℕ → ℕ → ℕ → List ℕ → Result (List ℕ × ℕ) LexError
literal quote start at skip [] = Err (OpenText start)
literal quote start at (suc skip) (b ∷ bs) = later (literal quote start (at + 1) skip bs)
literal quote start at zero (b ∷ bs) =
    let e = element quote (b ∷ bs) in
    read start at e (literal quote start (at + 1) (bytes_behind e) bs)

-- a character of which this element is the first
abbrev pub character_of : ℕ → List ℕ → Element → Result (Option Tok × ℕ) LexError
character_of start inside (Means v n) = if slice_index inside n == 39 then Ok (Some (Char v), n + 2) else Err (OpenText start)
character_of start inside Closes = Err (OpenText start)
character_of start inside Ends = Err (OpenText start)
character_of start inside Control = Err (BadByte (start + 1))
character_of start inside NoEscape = Err (BadEscape (start + 1))

-- the character whose quote stands at `start`: exactly one element, and the closing quote
abbrev pub character : ℕ → List ℕ → Result (Option Tok × ℕ) LexError
character start inside = character_of start inside (element 39 inside)
