-- A text has one list of tokens, or one first error.
use Rattle.std.specs.Prelude.{◌≡◌, ◌≢◌, ◌⊎◌, ℕ, List, length}
use Rattle.ddl_token.specs.declared.token.Token.{Token}
use Rattle.ddl_lex.specs.declared.error.LexError.{LexError}
use Rattle.ddl_lex.specs.declared.error.LexError.TheVariants.{NoMemory}
use Rattle.ddl_lex.specs.Tokens.{Cut, HasError}

-- a text that is cut whole into two lists of tokens is cut into one
abbrev pub OneList : Type 0
OneList = (text : List ℕ) (tokens others : List Token) → Cut text tokens (length text) → Cut text others (length text) → tokens ≡ others

-- a text that has an error, other than want of memory, is not cut whole into tokens
abbrev pub NoTokensWithError : Type 0
NoTokensWithError = (text : List ℕ) (e : LexError) (tokens : List Token) → e ≢ NoMemory → HasError text e → Cut text tokens (length text) → ⊥

-- two errors that a text has, other than want of memory, are one
abbrev pub OneError : Type 0
OneError = (text : List ℕ) (e f : LexError) → e ≢ NoMemory → f ≢ NoMemory → HasError text e → HasError text f → e ≡ f

-- a text is cut whole into tokens, or has an error other than want of memory
abbrev pub TokensOrError : Type 0
TokensOrError = (text : List ℕ) → ((tokens : List Token) × Cut text tokens (length text)) ⊎ ((e : LexError) × (e ≢ NoMemory) × HasError text e)
