-- What a text has is one thing.
use Rattle.std.specs.Prelude.{ℕ, ◌≡◌, ◌≢◌, List, Result, Ok, Err}
use Rattle.ddl_tree.specs.ModuleTree.{Module}
use Rattle.ddl_source.specs.Source.{HasTree, IsWrong}
use Rattle.ddl_source.specs.declared.error.SourceError.{SourceError}
use Rattle.ddl_source.specs.declared.error.SourceError.TheVariants as e

-- the text of the module of this number has this tree, or this is wrong with it: its first error of tokens, the token that no
-- module goes on with, or the one with which each module is too deep
abbrev pub HasSource : ℕ → List ℕ → Result Module SourceError → Type 0
HasSource m text (Ok a) = HasTree m text a
HasSource m text (Err error) = (error ≢ e.NoMemory) × IsWrong text error

-- two things that a text has are one
abbrev pub OneSource : Type 0
OneSource = (m : ℕ) (text : List ℕ) (x y : Result Module SourceError) → HasSource m text x → HasSource m text y → x ≡ y

-- a text has one of them
abbrev pub SomeSource : Type 0
SomeSource = (m : ℕ) (text : List ℕ) → (x : Result Module SourceError) × HasSource m text x
