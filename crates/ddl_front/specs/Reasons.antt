-- Why a specification is refused, as a line tells it.
use Rattle.std.specs.Prelude.{◌≡◌, ℕ, List, [], ◌∷◌, slice_index_or, decimal}
use Rattle.ddl_base.specs.declared.span.Span.{Span}
use Rattle.ddl_base.specs.declared.stage.Stage.{Stage}
use Rattle.ddl_base.specs.declared.stage.Stage.TheVariants as stage_is
use Rattle.ddl_base.specs.declared.told.Told.{Told}
use Rattle.ddl_lex.specs.declared.error.LexError.{LexError}
use Rattle.ddl_lex.specs.declared.error.LexError.TheVariants as lex_is
use Rattle.ddl_modules.specs.Cycles.{unit_name}
use Rattle.ddl_modules.specs.declared.error.LoadError.{LoadError}
use Rattle.ddl_modules.specs.declared.error.LoadError.TheVariants as load_is
use Rattle.ddl_kinds.specs.declared.error.NameError.{NameError}
use Rattle.ddl_kinds.specs.declared.error.NameError.TheVariants as name_is
use Rattle.ddl_source.specs.declared.error.SourceError.{SourceError}
use Rattle.ddl_source.specs.declared.error.SourceError.TheVariants as wrong
use Rattle.ddl_tree.specs.declared.module.SourceUnit.{SourceUnit}

-- the cause, as the number that it has in its stage; where it stands, in the module of a name; and what else is told
pub record Reason : Type 0 where
  pub stage : Stage
  pub number : ℕ
  pub name : List ℕ
  pub start : ℕ
  pub end : ℕ
  pub more : List (List ℕ)

abbrev pub reason : Stage → ℕ → List ℕ → ℕ → ℕ → List (List ℕ) → Reason
reason stage number name start end more = record { stage = stage; number = number; name = name; start = start; end = end; more = more }

-- the reason that a value of the program tells
abbrev pub reason_view : Told → Reason
reason_view told = reason told.stage told.number told.«module» told.«from» told.to told.more.items

-- ---- a text

-- a module that is longer than it may be, with its length
abbrev pub long_reason : List ℕ → ℕ → Reason
long_reason name n = reason stage_is.Load 3 name 0 0 (decimal n ∷ [])

-- the number of an error of tokens among them, and its place
abbrev pub lex_number : LexError → ℕ
lex_number (lex_is.BadByte at) = 1
lex_number (lex_is.OpenText at) = 2
lex_number (lex_is.BadEscape at) = 3
lex_number (lex_is.NumberTooWide at) = 4
lex_number (lex_is.TooManyTokens at) = 5
lex_number lex_is.NoMemory = 0

abbrev pub lex_place : LexError → ℕ
lex_place (lex_is.BadByte at) = at
lex_place (lex_is.OpenText at) = at
lex_place (lex_is.BadEscape at) = at
lex_place (lex_is.NumberTooWide at) = at
lex_place (lex_is.TooManyTokens at) = at
lex_place lex_is.NoMemory = 0

-- this is the reason why the text of the module of this name is wrong
abbrev pub IsSourceReason : List ℕ → SourceError → Reason → Type 0
IsSourceReason name (wrong.Lex error) r = r ≡ reason stage_is.Lex (lex_number error) name (lex_place error) (lex_place error) []
IsSourceReason name (wrong.Unexpected k start end) r = r ≡ reason stage_is.Syntax 1 name start end (decimal k ∷ [])
IsSourceReason name (wrong.TooNested k start end) r = r ≡ reason stage_is.Syntax 2 name start end (decimal k ∷ [])
IsSourceReason name wrong.NoMemory r = ⊥

-- ---- loading

-- a place in the module of this name
abbrev pub load_reason : ℕ → List ℕ → Span → List (List ℕ) → Reason
load_reason number name span more = reason stage_is.Load number name span.«from» span.to more

-- the first of some names
abbrev pub first_name : List (List ℕ) → List ℕ
first_name names = slice_index_or names 0 []

-- this is the reason why modules are not loaded; a file that is missing or cannot be read is none
abbrev pub IsLoadReason : LoadError → Reason → Type 0
IsLoadReason (load_is.TooLarge name n) r = r ≡ long_reason name n
IsLoadReason (load_is.TooMany importer span) r = r ≡ load_reason 4 importer span []
IsLoadReason (load_is.Cycle span names) r = r ≡ load_reason 5 (first_name names.items) span names.items
IsLoadReason (load_is.Source name error) r = IsSourceReason name error r
IsLoadReason e r = ⊥

-- ---- names

-- a place in one of these modules
abbrev pub name_reason : List SourceUnit → ℕ → Span → List (List ℕ) → Reason
name_reason us number span more = reason stage_is.Names number (unit_name us span.«module») span.«from» span.to more

-- this is the reason why the names of these modules are not bound
abbrev pub IsNameReason : List SourceUnit → NameError → Reason → Type 0
IsNameReason us (name_is.Unknown span) r = r ≡ name_reason us 1 span []
IsNameReason us (name_is.Twice later first) r = r ≡ name_reason us 2 later (decimal first.«from» ∷ decimal first.to ∷ [])
IsNameReason us (name_is.TwoImports span a b) r = r ≡ name_reason us 3 span (unit_name us a ∷ unit_name us b ∷ [])
IsNameReason us (name_is.WrongKind span) r = r ≡ name_reason us 4 span []
IsNameReason us (name_is.WrongCount span given wanted) r = r ≡ name_reason us 5 span (decimal given ∷ decimal wanted ∷ [])
IsNameReason us (name_is.TooManyDecls span) r = r ≡ name_reason us 6 span []
IsNameReason us name_is.NoMemory r = ⊥
