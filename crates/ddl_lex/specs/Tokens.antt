-- The tokens of a text.
use Rattle.std.specs.Prelude.{◌≡◌, ◌⊎◌, ◌<◌, ℕ, ◌+◌, ◌^◌, true, false, List, [], ◌∷◌, ◌++◌, length, drop, slice_index, Option, Some, None}
use Rattle.ddl_token.specs.declared.token.Tok.{Tok}
use Rattle.ddl_token.specs.declared.token.Token.{Token}
use Rattle.ddl_lex.specs.declared.error.LexError.{LexError}
use Rattle.ddl_lex.specs.declared.error.LexError.TheVariants.{NoMemory, TooManyTokens}
use Rattle.ddl_lex.specs.declared.place.Place.{Place}
use Rattle.ddl_lex.specs.Letters.{begins_with, begins_token}
use Rattle.ddl_lex.specs.Forms.{IsLongest, Fits}
use Rattle.ddl_lex.specs.Wrong.{IsWrong}
use Rattle.ddl_lex.specs.Places.{line_at, column_at}

-- where a place is in bytes, and by line and column
abbrev pub place_at : List ℕ → ℕ → Place
place_at text at = record { at = at; line = line_at at text; column = column_at at text }

-- the tokens, and the one that was found behind them, if it is one, from a place up to another
abbrev pub with_token : List Token → Place → ℕ → Option Tok → List Token
with_token tokens place to None = tokens
with_token tokens place to (Some tok) = tokens ++ record { kind = tok; line = place.line; col = place.column; «from» = place.at; to = to } ∷ []

-- a token stands only where there are fewer than 2^20 before it
abbrev pub HasRoom : List Token → Option Tok → Type 0
HasRoom tokens None = Unit {0}
HasRoom tokens (Some tok) = length tokens < 2 ^ 20

-- What stands at a place behind these tokens: the longest form that begins there. Where `{-` opens a
-- comment it is no token; a number's value fits; and there is room for a token.
abbrev pub IsPiece : List ℕ → List Token → ℕ → Option Tok → ℕ → Type 0
IsPiece text tokens at found n = IsLongest found n (drop at text) × (begins_with 123 45 (drop at text) ≡ true → found ≡ None) × Fits found
    × HasRoom tokens found

-- The text up to a place is cut, front to back, into white bytes, comments and these tokens.
pub data Cut : List ℕ → List Token → ℕ → Type 0 where
  begin : {text : List ℕ} → Cut text [] 0
  more : {text : List ℕ} {tokens : List Token} {at : ℕ} (found : Option Tok) (n : ℕ) → Cut text tokens at → at < length text →
      IsPiece text tokens at found n → Cut text (with_token tokens (place_at text at) (at + n) found) (at + n)

-- a token begins the text: a literal or a number, whether it can be read or not, or another one that is the longest form
abbrev pub BeginsToken : List ℕ → Type 0
BeginsToken text = (begins_token (slice_index text 0) ≡ true)
    ⊎ ((tok : Tok) × (n : ℕ) × IsLongest (Some tok) n text × (begins_with 123 45 text ≡ false))

-- What is wrong behind these tokens: that there are 2^20 and one more begins, ahead of what is wrong with it;
-- or what is wrong with what begins there.
pub data IsError (tokens : List Token) (at : ℕ) (text : List ℕ) : LexError → Type 0 where
  too_many : length tokens ≡ 2 ^ 20 → BeginsToken text → IsError tokens at text (TooManyTokens at)
  is_wrong : {e : LexError} → (length tokens ≡ 2 ^ 20 → begins_token (slice_index text 0) ≡ false) → IsWrong at text e → IsError tokens at text e

-- the text has an error, behind all that is cut before it
abbrev pub HasError : List ℕ → LexError → Type 0
HasError text NoMemory = Unit {0}
HasError text e = (tokens : List Token) × (at : ℕ) × Cut text tokens at × (at < length text) × IsError tokens at (drop at text) e
