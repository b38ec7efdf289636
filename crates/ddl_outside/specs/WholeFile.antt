-- What the reading of a whole file answers.
use Rattle.std.specs.Prelude.{◌≡◌, ℕ, ◌<◌, ◌≤◌, List, length, Some}
use Rattle.ddl_outside.specs.Files.{FilesState, HasAt, IsFile, IsAbsent, IsFailed}
use Rattle.ddl_outside.specs.declared.whole_file.Whole.{Whole}
use Rattle.ddl_outside.specs.declared.whole_file.Whole.TheVariants as whole_of

-- the file has these bytes, or more than so many, of which none was read, or it could not be read
abbrev pub IsWhole : FilesState → FilesState → List ℕ → ℕ → Whole → Type 0
IsWhole old new name most (whole_of.Bytes bytes) = IsFile new name bytes.items × (length bytes.items ≤ most)
IsWhole old new name most (whole_of.Longer n) = (new.told name ≡ Some n) × (most < n) × (new.reach ≡ old.reach)
IsWhole old new name most whole_of.Absent = IsAbsent old new name
IsWhole old new name most whole_of.Failed = IsFailed old new

-- the bytes of a file from its front on, as many as its length, which was told
abbrev pub HasAll : FilesState → FilesState → List ℕ → ℕ → Whole → Type 0
HasAll old new name n (whole_of.Bytes bytes) = (length bytes.items ≡ n) × HasAt new.held name 0 bytes.items
HasAll old new name n (whole_of.Longer m) = ⊥
HasAll old new name n whole_of.Absent = IsAbsent old new name
HasAll old new name n whole_of.Failed = IsFailed old new
