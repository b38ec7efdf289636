-- A result is what a definition says, unless memory ran out.
use Rattle.std.specs.Prelude.{◌≡◌, Result, Ok, Err}
use Rattle.ddl_lex.specs.declared.error.LexError.{LexError}
use Rattle.ddl_lex.specs.declared.error.LexError.TheVariants.{NoMemory, BadByte, OpenText, BadEscape, NumberTooWide, TooManyTokens}

-- the result is r, unless memory ran out
abbrev pub Gives : {A : Type 0} → Result A LexError → Result A LexError → Type 0
Gives r (Ok x) = r ≡ Ok x
Gives r (Err NoMemory) = Unit {0}
Gives r (Err (BadByte at)) = r ≡ Err (BadByte at)
Gives r (Err (OpenText at)) = r ≡ Err (OpenText at)
Gives r (Err (BadEscape at)) = r ≡ Err (BadEscape at)
Gives r (Err (NumberTooWide at)) = r ≡ Err (NumberTooWide at)
Gives r (Err (TooManyTokens at)) = r ≡ Err (TooManyTokens at)
