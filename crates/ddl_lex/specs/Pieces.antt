-- What stands at a place of a text.
use Rattle.std.specs.Prelude.{ℕ, suc, ◌+◌, Bool, ◌&&◌, ◌==◌, if◌then◌else◌, List, length, drop, Option, Some, None, Result, Ok, Err}
use Rattle.ddl_token.specs.declared.mark.Mark.{Mark}
use Rattle.ddl_token.specs.declared.token.Tok.{Tok}
use Rattle.ddl_token.specs.declared.token.Tok.TheVariants as t
use Rattle.ddl_token.specs.Spelling.{mark_spelling}
use Rattle.ddl_lex.specs.declared.error.LexError.{LexError}
use Rattle.ddl_lex.specs.declared.error.LexError.TheVariants.{BadByte, OpenText, TooManyTokens}
use Rattle.ddl_lex.specs.Letters.{is_white, in_line, is_decimal, is_name, begins_with, begins_token, run}
use Rattle.ddl_lex.specs.Comments.{comment}
use Rattle.ddl_lex.specs.Literals.{literal, character}
use Rattle.ddl_lex.specs.Names.{begins_name, begins_class, named, class}
use Rattle.ddl_lex.specs.Numbers.{number}
use Rattle.ddl_lex.specs.Marks.{mark_of}

-- a comment that was opened: `{-` and the bytes to its end
abbrev pub opened : ℕ → Option ℕ → Result (Option Tok × ℕ) LexError
opened at None = Err (OpenText at)
opened at (Some n) = Ok (None, n + 2)

-- a text literal: its quote and the bytes to its end
abbrev pub text_token : Result (List ℕ × ℕ) LexError → Result (Option Tok × ℕ) LexError
text_token (Err e) = Err e
text_token (Ok r) = Ok (Some (t.Text r.0), suc r.1)

-- a mark, or no form
abbrev pub marked : ℕ → Option Mark → Result (Option Tok × ℕ) LexError
marked at None = Err (BadByte at)
marked at (Some m) = Ok (Some (t.Mark m), length (mark_spelling m))

-- What stands at `at`, where the rest of the text begins with b: a token, or white space or a comment,
-- with how many bytes it has, or the error.
unfoldable pub piece : ℕ → ℕ → List ℕ → Result (Option Tok × ℕ) LexError
piece at b text =
    if is_white b then Ok (None, 1)
    else (if begins_with 45 45 text then Ok (None, run in_line text)
    else (if begins_with 123 45 text then opened at (comment 0 0 (drop 2 text))
    else (if b == 34 then text_token (literal 34 at (at + 1) 0 (drop 1 text))
    else (if b == 39 then character at (drop 1 text)
    else (if begins_name text then Ok (named (run is_name text) text)
    else (if begins_class text then Ok (class (suc (run is_name (drop 1 text))) text)
    else (if is_decimal b then number at text
    else marked at (mark_of text))))))))

-- no token more where there are as many as there may be
abbrev pub one_more_token : Bool → ℕ → Result (Option Tok × ℕ) LexError → Result (Option Tok × ℕ) LexError
one_more_token full at (Err e) = Err e
one_more_token full at (Ok (None, n)) = Ok (None, n)
one_more_token full at (Ok (Some tok, n)) = if full then Err (TooManyTokens at) else Ok (Some tok, n)

-- what stands at `at`, where no further token may begin if the list is full
unfoldable pub next_piece : Bool → ℕ → ℕ → List ℕ → Result (Option Tok × ℕ) LexError
next_piece full at b text = if full && begins_token b then Err (TooManyTokens at) else one_more_token full at (piece at b text)
