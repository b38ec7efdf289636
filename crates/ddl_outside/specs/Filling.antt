-- What the filling of a buffer from a file answers.
use Rattle.std.specs.Prelude.{ℕ, List, ◌≤◌, max}
use Rattle.ddl_outside.specs.Files.{FilesState, HasAt, IsAbsent, IsFailed}
use Rattle.ddl_outside.specs.declared.filling.Filled.{Filled}
use Rattle.ddl_outside.specs.declared.filling.Filled.TheVariants as filled_of

-- what `fill` answers for a name and an offset, having filled a buffer
abbrev pub IsFill : FilesState → FilesState → List ℕ → ℕ → List ℕ → Filled → Type 0
IsFill old new name at into filled_of.Whole = HasAt new.held name at into
IsFill old new name at into filled_of.Absent = IsAbsent old new name
IsFill old new name at into filled_of.Failed = IsFailed old new

-- of this file no byte at or past an end was asked for
abbrev pub ReadsBelow : List ℕ → ℕ → FilesState → FilesState → Type 0
ReadsBelow name end old new = new.reach name ≤ max (old.reach name) end
