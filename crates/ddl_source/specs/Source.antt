-- The tree of a module's text, or what is wrong with the text.
use Rattle.std.specs.Prelude.{ℕ, ◌≡◌, ◌≢◌, ◌≤◌, ◌<◌, List, [], ◌∷◌, take, drop, length, None, Result, Ok, Err}
use Rattle.ddl_token.specs.declared.token.Tok.{Tok}
use Rattle.ddl_token.specs.declared.token.Token.{Token}
use Rattle.ddl_tree.specs.Depth.{module_depth}
use Rattle.ddl_tree.specs.GrammarModule.{IsModule}
use Rattle.ddl_tree.specs.ModuleTree.{Module}
use Rattle.ddl_tree.specs.PrintModule.{print_module}
use Rattle.ddl_tree.specs.SpansModule.{StandsAt}
use Rattle.ddl_tree.specs.declared.module.Module as code_module
use Rattle.ddl_tree.specs.ViewModule.{module_view}
use Rattle.ddl_lex.specs.Tokens.{Cut, HasError}
use Rattle.ddl_lex.specs.Layout.{lay}
use Rattle.ddl_lex.specs.declared.error.LexError as lex_error
use Rattle.ddl_lex.specs.declared.error.LexError.TheVariants as le
use Rattle.ddl_reader.specs.Answers.{BeginsWithin, Unexpected}
use Rattle.ddl_syntax.specs.Answer.{NextTooNested, kinds_of, places_of}
use Rattle.ddl_source.specs.declared.error.SourceError.{SourceError}
use Rattle.ddl_source.specs.declared.error.SourceError.TheVariants as e

-- the tokens that a text is cut into, with the marks that its layout stands for
abbrev pub HasTokens : List ℕ → List Token → Type 0
HasTokens text ts = (cut : List Token) × Cut text cut (length text) × (ts ≡ lay None [] cut)

-- these are the tokens of a module of the grammar, which nests at most 200 forms, each part at the place of its tokens
abbrev pub HasModule : ℕ → List Token → Module → Type 0
HasModule m ts a = IsModule a × (print_module a ≡ kinds_of ts) × StandsAt a (places_of m ts) × (module_depth a ≤ 200)

-- the first k tokens begin a module that nests at most 200 forms, and no module goes on with the next; where there is none,
-- they are no module
abbrev pub IsUnexpected : List Token → ℕ → Type 0
IsUnexpected ts k = (k ≤ length ts) × BeginsWithin 200 (take k (kinds_of ts)) × Unexpected (take k (kinds_of ts)) (drop k (kinds_of ts))

-- the first k tokens begin a module that nests at most 200 forms; with the next they begin a module, and none so shallow
abbrev pub IsTooNested : List Token → ℕ → Type 0
IsTooNested ts k = (k < length ts) × NextTooNested 200 (take k (kinds_of ts)) (drop k (kinds_of ts))

-- a text has this tree, as that of the module of this number
abbrev pub HasTree : ℕ → List ℕ → Module → Type 0
HasTree m text a = (ts : List Token) × HasTokens text ts × HasModule m ts a

-- where the first of these tokens stands; where there is none, at the end of a text of this length
abbrev pub first_place : ℕ → List Token → ℕ × ℕ
first_place n [] = (n, n)
first_place n (t ∷ ts) = (t.«from», t.to)

-- the text has this error, which is not want of memory
abbrev pub HasLexError : List ℕ → lex_error.LexError → Type 0
HasLexError text error = (error ≢ le.NoMemory) × HasError text error

-- token k of the text, which stands from here to there, is one that no module goes on with
abbrev pub HasUnexpected : List ℕ → ℕ → ℕ → ℕ → Type 0
HasUnexpected text k from' to = (ts : List Token) × HasTokens text ts × IsUnexpected ts k × (first_place (length text) (drop k ts) ≡ (from', to))

-- token k of the text, which stands from here to there, is one with which each module is too deep
abbrev pub HasTooNested : List ℕ → ℕ → ℕ → ℕ → Type 0
HasTooNested text k from' to = (ts : List Token) × HasTokens text ts × IsTooNested ts k × (first_place (length text) (drop k ts) ≡ (from', to))

-- what is wrong with a text; of want of memory nothing is said
abbrev pub IsWrong : List ℕ → SourceError → Type 0
IsWrong text (e.Lex error) = HasLexError text error
IsWrong text (e.Unexpected k from' to) = HasUnexpected text k from' to
IsWrong text (e.TooNested k from' to) = HasTooNested text k from' to
IsWrong text e.NoMemory = Unit {0}

-- what is answered of a text
abbrev pub IsSource : ℕ → List ℕ → Result code_module.Module SourceError → Type 0
IsSource m text (Ok a) = HasTree m text (module_view a)
IsSource m text (Err error) = IsWrong text error
