-- A token more at the end of a text.
use Rattle.std.proofs.Common.{◌≡◌, ℕ, List, ◌∷◌, ◌++◌, ap, sym, ◌∙◌, append_assoc}
use Rattle.ddl_token.specs.declared.token.Tok.{Tok}
use Rattle.ddl_token.specs.declared.token.Tok.TheVariants as k
use Rattle.ddl_token.specs.declared.token.Base.{Base}
use Rattle.ddl_token.specs.declared.word.Word.{Word}
use Rattle.ddl_token.specs.Spelling.{word_spelling}
use Rattle.ddl_lex.specs.Forms.{base_spelling}
use Rattle.ddl_lex.specs.Numbers.{radix}
use Rattle.ddl_show.specs.Numerals.{digits}
use Rattle.ddl_show.specs.Show.{spelled, spaced}
use Rattle.ddl_show.specs.Writes.{closed, with_line}

-- a space and a token's spelling are a token more
pub closed_more : (before after : List ℕ) (t : Tok) (rest : List Tok) → after ≡ before ++ 32 ∷ spelled t → closed before (t ∷ rest) ≡ closed after rest
unfolding closed spaced
closed_more before after t rest e = sym (append_assoc before (32 ∷ spelled t) (spaced rest)) ∙ ap (λ z. z ++ spaced rest) (sym e)

-- the same of a number
pub closed_number : (before after : List ℕ) (value : ℕ) (base : Base) (n : ℕ) (rest : List Tok)
    → after ≡ before ++ (32 ∷ base_spelling base ++ digits (radix base) n value) →
    closed before (k.Number value base n ∷ rest) ≡ closed after rest
unfolding spelled
closed_number before after value base n rest e = closed_more before after (k.Number value base n) rest e

-- a word's spelling begins a line
pub line_begun : (before after : List ℕ) (w : Word) (rest : List Tok) → after ≡ before ++ word_spelling w
    → with_line before (k.Word w ∷ rest) ≡ closed after rest
unfolding with_line closed spelled
line_begun before after w rest e = sym (append_assoc before (word_spelling w) (spaced rest)) ∙ ap (λ z. z ++ spaced rest) (sym e)
