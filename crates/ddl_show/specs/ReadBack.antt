-- The text of a module is read back as its tokens.
use Rattle.std.specs.Prelude.{◌≡◌, ◌⊎◌, ◌<◌, ◌^◌, ℕ, List, [], ◌∷◌, length, map, None}
use Rattle.ddl_token.specs.declared.token.Tok.{Tok}
use Rattle.ddl_token.specs.declared.token.Tok.TheVariants as t
use Rattle.ddl_token.specs.declared.token.Token.{Token}
use Rattle.ddl_tree.specs.ModuleTree as mo
use Rattle.ddl_tree.specs.PrintModule.{print_module}
use Rattle.ddl_lex.specs.Letters.{is_capital, is_small}
use Rattle.ddl_lex.specs.Numbers.{radix}
use Rattle.ddl_lex.specs.Forms.{IsName, IsHidden, IsClass, IsNoWord}
use Rattle.ddl_lex.specs.Tokens.{Cut}
use Rattle.ddl_lex.specs.Layout.{lay}
use Rattle.ddl_show.specs.Show.{show_text}

abbrev pub AreBytes : List ℕ → Type 0
AreBytes [] = Unit {0}
AreBytes (b ∷ bs) = (b < 256) × AreBytes bs

-- Some text is this token: a name is written as names of its kind are, and is no word; a number is below 2^128
-- and has as many digits as it says, one at least; a literal means bytes.
abbrev pub IsTokenForm : Tok → Type 0
IsTokenForm (t.Word w) = Unit {0}
IsTokenForm (t.Mark m) = Unit {0}
IsTokenForm (t.Upper x) = IsName is_capital x × IsNoWord x
IsTokenForm (t.Lower x) = (IsName is_small x ⊎ IsHidden x) × IsNoWord x
IsTokenForm (t.Class x) = IsClass x
IsTokenForm (t.Number value base n) = (0 < n) × (value < radix base ^ n) × (value < 2 ^ 128)
IsTokenForm (t.Char b) = b < 256
IsTokenForm (t.Text bs) = AreBytes bs

abbrev pub AreTokenForms : List Tok → Type 0
AreTokenForms [] = Unit {0}
AreTokenForms (x ∷ xs) = IsTokenForm x × AreTokenForms xs

-- what tokens are, apart from where they stand
abbrev pub kinds : List Token → List Tok
kinds tokens = map (λ token. token.kind) tokens

-- the text of the module is cut whole into tokens, and these, laid out, are the tokens that are printed
abbrev pub ReadsBack : mo.Module → Type 0
ReadsBack x = (tokens : List Token) × Cut (show_text x) tokens (length (show_text x)) × (kinds (lay None [] tokens) ≡ print_module x)
