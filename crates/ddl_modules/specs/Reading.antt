-- The reading of modules in the order of their queue.
use Rattle.std.specs.Prelude.{◌≡◌, ◌≢◌, ◌⊎◌, ℕ, ◌+◌, ◌^◌, ◌<◌, ◌≤◌, List, [], ◌∷◌, ◌++◌, length, Option, Some, None, false, codes}
use Rattle.std.specs.Str.{bytes_eq}
use Rattle.ddl_base.specs.declared.span.Span.{Span}
use Rattle.ddl_outside.specs.Files.{FilesState, IsFile, IsAbsent, IsFailed}
use Rattle.ddl_source.specs.Source.{HasTree, IsWrong}
use Rattle.ddl_source.specs.declared.error.SourceError.{SourceError}
use Rattle.ddl_source.specs.declared.error.SourceError.TheVariants as wrong
use Rattle.ddl_tree.specs.declared.module.Module.{Module}
use Rattle.ddl_tree.specs.declared.module.SourceUnit.{SourceUnit}
use Rattle.ddl_tree.specs.ViewModule.{module_view}
use Rattle.ddl_modules.specs.Files.{module_file}
use Rattle.ddl_modules.specs.Queue.{prelude_name, places, imported, beyond, queue, IsNext}
use Rattle.ddl_modules.specs.declared.error.LoadError.{LoadError}
use Rattle.ddl_modules.specs.declared.error.LoadError.TheVariants as refused

-- the text of the prelude
abbrev pub prelude_text : List ℕ
prelude_text = codes ""

-- the imports of a unit have the places that their names get in turn behind these names, and there is room for them
abbrev pub HasImports : List (List ℕ) → SourceUnit → Type 0
HasImports names u =
    (u.imports.items ≡ places names (imported u.tree.imports.items)) × (beyond names u.tree.imports.items ≡ None)

-- the prelude, read
abbrev pub IsPrelude : List ℕ → SourceUnit → Type 0
IsPrelude root u = (u.name ≡ prelude_name) × HasTree 0 prelude_text (module_view u.tree) × HasImports (queue root []) u

-- a text of so many bytes is within the limits, behind texts of so many: 2^22 bytes, and 2^24 in all
abbrev pub IsWithin : ℕ → ℕ → Type 0
IsWithin before n = (n ≤ 2 ^ 22) × (before + n ≤ 2 ^ 24)

abbrev pub IsTooLarge : ℕ → ℕ → Type 0
IsTooLarge before n = (2 ^ 22 < n) ⊎ (2 ^ 24 < before + n)

-- the file of the module that has this number has this tree
abbrev pub HasTreeIn : FilesState → List ℕ → ℕ → ℕ → ℕ → Module → Type 0
HasTreeIn files file number before n tree =
    (text : List ℕ) × IsFile files file text × (length text ≡ n) × IsWithin before n × HasTree number text (module_view tree)

-- behind these units, whose texts have so many bytes, the turn was at this one, whose text has n bytes
pub record IsTurn (files : FilesState) (root : List ℕ) (us : List SourceUnit) (before : ℕ) (u : SourceUnit) (n : ℕ) : Type 0 where
  pub next : IsNext root us u.name
  pub tree : HasTreeIn files (module_file root u.name) (length us) before n u.tree
  pub imports : HasImports (queue root us) u

-- These units were read in the order of the queue of a root, within the limits, from these files, and their texts have so
-- many bytes, those of the prelude not counted.
pub data Read (files : FilesState) (root : List ℕ) : List SourceUnit → List (List ℕ) → ℕ → Type 0 where
  prelude : {u : SourceUnit} → IsPrelude root u → Read files root (u ∷ []) [] 0
  more : {us : List SourceUnit} {names : List (List ℕ)} {before : ℕ} (u : SourceUnit) (n : ℕ) → Read files root us names before
      → IsTurn files root us before u n
      → Read files root (us ++ u ∷ []) (names ++ module_file root u.name ∷ []) (before + n)

-- none of these names is this one
abbrev pub AreOthers : List (List ℕ) → List ℕ → Type 0
AreOthers [] other = Unit {0}
AreOthers (name ∷ names) other = (bytes_eq name other ≡ false) × AreOthers names other

-- of every file but these, what was told and asked stays
abbrev pub TouchesOnlyThese : List (List ℕ) → FilesState → FilesState → Type 0
TouchesOnlyThese names old new =
    (other : List ℕ) → AreOthers names other → (new.told other ≡ old.told other) × (new.reach other ≡ old.reach other)

-- all modules that a root reaches were read, and no file was touched but theirs
abbrev pub AreRead : FilesState → FilesState → List ℕ → List SourceUnit → Type 0
AreRead old new root us =
    (names : List (List ℕ)) × (n : ℕ) × Read new root us names n × (length us ≡ length (queue root us)) × TouchesOnlyThese names old new

-- what is wrong with the text of a module
abbrev pub IsWrongText : List ℕ → SourceError → Type 0
IsWrongText text error = (error ≢ wrong.NoMemory) × IsWrong text error

-- why a text that was read gives no tree, behind texts of so many bytes, or memory ran out
abbrev pub IsNoText : List ℕ → List ℕ → ℕ → LoadError → Type 0
IsNoText name text before (refused.TooLarge large n) = (large ≡ name) × (n ≡ length text) × IsTooLarge before n
IsNoText name text before (refused.Source wrong_one error) = (wrong_one ≡ name) × IsWithin before (length text) × IsWrongText text error
IsNoText name text before refused.NoMemory = Unit {0}
IsNoText name text before _ = ⊥

-- why the file of a module gives no tree, behind texts of so many bytes, or memory ran out
abbrev pub IsNoTree : FilesState → FilesState → List ℕ → List ℕ → ℕ → LoadError → Type 0
IsNoTree old new file name before (refused.Missing missing) = (missing ≡ file) × IsAbsent old new file
IsNoTree old new file name before refused.ReadFault = IsFailed old new
IsNoTree old new file name before (refused.TooLarge large n) = (large ≡ name) × (new.told file ≡ Some n) × IsTooLarge before n
IsNoTree old new file name before (refused.Source wrong_one error) =
    (wrong_one ≡ name) × (text : List ℕ) × IsFile new file text × IsWithin before (length text) × IsWrongText text error
IsNoTree old new file name before refused.NoMemory = Unit {0}
IsNoTree old new file name before _ = ⊥

-- where the queue has no room for a name that a module imports, or memory ran out
abbrev pub IsFull : List ℕ → Option Span → LoadError → Type 0
IsFull name found (refused.TooMany importer span) = (importer ≡ name) × (found ≡ Some span)
IsFull name found refused.NoMemory = Unit {0}
IsFull name found _ = ⊥

-- the module of this file has a tree, and the queue has no room for a name that it imports
abbrev pub IsTooMany : FilesState → List ℕ → ℕ → List (List ℕ) → List ℕ → ℕ → LoadError → Type 0
IsTooMany new file number names name before e =
    (n : ℕ) × (tree : Module) × HasTreeIn new file number before n tree × IsFull name (beyond names tree.imports.items) e

-- why the turn at the module of this name, behind these units, was the last
abbrev pub IsLastTurn : FilesState → FilesState → List ℕ → List SourceUnit → List ℕ → ℕ → LoadError → Type 0
IsLastTurn old new root us name before e =
    IsNoTree old new (module_file root name) name before e ⊎ IsTooMany new (module_file root name) (length us) (queue root us) name before e

-- why the prelude was not read
abbrev pub IsNoPrelude : List ℕ → LoadError → Type 0
IsNoPrelude root e = IsNoText prelude_name prelude_text 0 e
    ⊎ ((tree : Module) × HasTree 0 prelude_text (module_view tree) × IsFull prelude_name (beyond (queue root []) tree.imports.items) e)

-- why the modules that a root reaches were not all read, and which files were touched until then
abbrev pub AreNotRead : FilesState → FilesState → List ℕ → LoadError → Type 0
AreNotRead old new root e = ((new ≡ old) × IsNoPrelude root e)
    ⊎ ((us : List SourceUnit) × (names : List (List ℕ)) × (n : ℕ) × (name : List ℕ) × Read new root us names n × IsNext root us name
    × TouchesOnlyThese (names ++ module_file root name ∷ []) old new × IsLastTurn old new root us name n e)
