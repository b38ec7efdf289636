-- What the file of a module that is shown holds: a tree, or what it is refused for.
use Rattle.std.specs.Prelude.{◌≡◌, ◌⊎◌, ℕ, ◌^◌, ◌<◌, ◌≤◌, List, length, Some}
use Rattle.ddl_front.specs.Reasons.{IsSourceReason, Reason, long_reason}
use Rattle.ddl_outside.specs.Files.{FilesState, IsFile}
use Rattle.ddl_source.specs.Source.{HasTree, IsWrong}
use Rattle.ddl_source.specs.declared.error.SourceError.{SourceError}
use Rattle.ddl_tree.specs.ModuleTree.{Module}

-- this file has at most 2^22 bytes, and this is the tree of its text
abbrev pub HasShownTree : FilesState → List ℕ → Module → Type 0
HasShownTree files file tree = (bytes : List ℕ) × IsFile files file bytes × (length bytes ≤ 2 ^ 22) × HasTree 0 bytes tree

-- the file has more than 2^22 bytes, of which none was read
abbrev pub IsLong : FilesState → FilesState → List ℕ → List ℕ → Reason → Type 0
IsLong old new file name r = (n : ℕ) × (new.told file ≡ Some n) × (2 ^ 22 < n) × (new.reach ≡ old.reach) × (r ≡ long_reason name n)

-- its text is wrong
abbrev pub HasWrongText : FilesState → List ℕ → List ℕ → Reason → Type 0
HasWrongText files file name r = (bytes : List ℕ) × (error : SourceError) × IsFile files file bytes × (length bytes ≤ 2 ^ 22) × IsWrong bytes error
    × IsSourceReason name error r

-- why the module of this name and file is not shown
abbrev pub IsUnshown : FilesState → FilesState → List ℕ → List ℕ → Reason → Type 0
IsUnshown old new file name r = IsLong old new file name r ⊎ HasWrongText new file name r
