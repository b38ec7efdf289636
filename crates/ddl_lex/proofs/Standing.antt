-- What the lexer finds behind some tokens.
use Rattle.std.specs.Prelude.{ℕ, ◌==◌, ◌^◌, Bool, List, length, drop, slice_index, Option, Result}
use Rattle.ddl_token.specs.declared.token.Tok.{Tok}
use Rattle.ddl_token.specs.declared.token.Token.{Token}
use Rattle.ddl_lex.specs.declared.error.LexError.{LexError}
use Rattle.ddl_lex.specs.Pieces.{next_piece}

-- there are as many tokens as there may be
abbrev pub is_full : List Token → Bool
is_full tokens = length tokens == 2 ^ 20

-- what stands at a place behind these tokens
abbrev pub stands : List ℕ → List Token → ℕ → Result (Option Tok × ℕ) LexError
stands text tokens at = next_piece (is_full tokens) at (slice_index text at) (drop at text)
