-- What is wrong at a place of a text, on bytes.
use Rattle.std.specs.Prelude.{◌≡◌, ◌≢◌, ◌<◌, ◌≤◌, ◌^◌, ℕ, ◌+◌, true, List, [], ◌∷◌, ◌++◌, length, take, slice_index, Option, Some}
use Rattle.ddl_token.specs.declared.token.Tok.{Tok}
use Rattle.ddl_token.specs.declared.token.Tok.TheVariants as t
use Rattle.ddl_token.specs.declared.token.Base.{Base}
use Rattle.ddl_lex.specs.declared.error.LexError.{LexError}
use Rattle.ddl_lex.specs.declared.error.LexError.TheVariants.{BadByte, OpenText, BadEscape, NumberTooWide}
use Rattle.ddl_lex.specs.Letters.{is_control, begins_with}
use Rattle.ddl_lex.specs.Nesting.{IsComment}
use Rattle.ddl_lex.specs.Elements.{IsEscape, IsElement, AreElements}
use Rattle.ddl_lex.specs.Forms.{IsForm, IsLongest}

-- the line ends here, or the text
abbrev pub LineEnds : List ℕ → Type 0
LineEnds [] = Unit {0}
LineEnds (b ∷ _) = b ≡ 10

-- a control byte stands here that ends no line
abbrev pub AtControl : List ℕ → Type 0
AtControl [] = ⊥
AtControl (b ∷ _) = (is_control b ≡ true) × (b ≢ 10)

-- a backslash stands here that begins no escape
abbrev pub AtNoEscape : List ℕ → Type 0
AtNoEscape [] = ⊥
AtNoEscape (b ∷ bs) = (b ≡ 92) × ((value n : ℕ) → IsEscape value (take n (b ∷ bs)) → ⊥)

-- what is wrong at a place inside a literal that begins at `start`
pub data IsBroken (start at : ℕ) (behind : List ℕ) : LexError → Type 0 where
  line_ends : LineEnds behind → IsBroken start at behind (OpenText start)
  at_control : AtControl behind → IsBroken start at behind (BadByte at)
  at_no_escape : AtNoEscape behind → IsBroken start at behind (BadEscape at)

-- the quote of a character does not stand here
abbrev pub NoQuote : List ℕ → Type 0
NoQuote [] = Unit {0}
NoQuote (b ∷ _) = b ≢ 39

-- no bytes at the front are of any form
abbrev pub NoForm : List ℕ → Type 0
NoForm text = (found : Option Tok) (n : ℕ) → 0 < n → n ≤ length text → IsForm found (take n text) → ⊥

-- What is wrong with what begins at a place:
-- a comment that does not end; what is behind some elements of a text, or at the front of a character;
-- a character of no byte, or with more behind its one byte; a number that is too wide; a byte with which no form begins.
pub data IsWrong (at : ℕ) (text : List ℕ) : LexError → Type 0 where
  open_comment : begins_with 123 45 text ≡ true → ((n : ℕ) → IsComment (take n text) → ⊥) → IsWrong at text (OpenText at)
  broken_text : {e : LexError} (means inside behind : List ℕ) → text ≡ 34 ∷ inside ++ behind → AreElements 34 means inside →
      IsBroken at (at + 1 + length inside) behind e → IsWrong at text e
  broken_character : {e : LexError} (behind : List ℕ) → text ≡ 39 ∷ behind → IsBroken at (at + 1) behind e → IsWrong at text e
  no_byte : (behind : List ℕ) → text ≡ 39 ∷ 39 ∷ behind → IsWrong at text (OpenText at)
  open_character : (value : ℕ) (inside behind : List ℕ) → text ≡ 39 ∷ inside ++ behind → IsElement 39 value inside → NoQuote behind
      → IsWrong at text (OpenText at)
  wide_number : (value : ℕ) (base : Base) (digits n : ℕ) → IsLongest (Some (t.Number value base digits)) n text → 2 ^ 128 ≤ value
      → IsWrong at text (NumberTooWide at)
  no_form : slice_index text 0 ≢ 34 → slice_index text 0 ≢ 39 → NoForm text → IsWrong at text (BadByte at)
