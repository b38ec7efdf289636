-- What it is to write a form's tokens at the end of a text.
use Rattle.std.specs.Prelude.{◌≡◌, ℕ, List, ◌++◌}
use Rattle.ddl_token.specs.declared.token.Tok.{Tok}
use Rattle.ddl_show.specs.Show.{spaced, line}

-- a text, and then tokens to the end of its last line
unfoldable pub closed : List ℕ → List Tok → List ℕ
closed text tokens = text ++ spaced tokens

-- The second text is the first one with all that is printed before any tokens that may follow.
abbrev pub Writes : List ℕ → (List Tok → List Tok) → List ℕ → Type 0
Writes before printed after = (rest : List Tok) → closed before (printed rest) ≡ closed after rest

-- a text, and then a line of tokens
unfoldable pub with_line : List ℕ → List Tok → List ℕ
with_line text tokens = text ++ line tokens

-- The second text is the first one with a line that begins with all that is printed before any tokens that may follow.
abbrev pub Begins : List ℕ → (List Tok → List Tok) → List ℕ → Type 0
Begins before printed after = (rest : List Tok) → with_line before (printed rest) ≡ closed after rest
