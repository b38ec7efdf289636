-- What contracts see of a source of files, and what its calls do.
use Rattle.std.specs.Prelude.{◌≡◌, ℕ, ◌+◌, ◌≤◌, List, [], length, take, drop, min, max, IfSome, IsSome, Some, None, Option, option_map, unwrap_or, Bool, true}
use Rattle.std.specs.Prelude.{false}
use Rattle.std.specs.Str.{bytes_eq}
use Rattle.ddl_outside.specs.Counts.{Rose}
use Rattle.ddl_outside.specs.declared.files.Length.{Length}
use Rattle.ddl_outside.specs.declared.files.Length.TheVariants as length_of
use Rattle.ddl_outside.specs.declared.files.Piece.{Piece}
use Rattle.ddl_outside.specs.declared.files.Piece.TheVariants as piece_of

-- the bytes under each name
abbrev pub Contents : Type 0
Contents = List ℕ → Option (List ℕ)

pub record FilesState : Type 0 where
  -- the files that are there, where that is told
  pub held : Option Contents
  -- the length that was first answered for each name
  pub told : List ℕ → Option ℕ
  -- how many bytes from the front of each file reads have asked for
  pub reach : List ℕ → ℕ
  -- a call may fail
  pub may_fail : Bool
  -- how often a call failed
  pub faults : ℕ
  -- how often a file was not there
  pub misses : ℕ

-- a length was answered for this name
abbrev pub IsTold : FilesState → List ℕ → Type 0
IsTold files name = IsSome (files.told name)

-- that length
abbrev pub told_length : FilesState → List ℕ → ℕ
told_length files name = unwrap_or (files.told name) 0

-- where content is told, this file is there with these bytes
abbrev pub Holds : Option Contents → List ℕ → List ℕ → Type 0
Holds held name bytes = IfSome held (λ files. files name ≡ Some bytes)

-- where content is told, this file is not there
abbrev pub Lacks : Option Contents → List ℕ → Type 0
Lacks held name = IfSome held (λ files. files name ≡ None)

-- where content is told, this file is there with this length
abbrev pub HasLength : Option Contents → List ℕ → ℕ → Type 0
HasLength held name n = IfSome held (λ files. option_map length (files name) ≡ Some n)

-- where content is told, these bytes stand in this file at this offset
abbrev pub HasAt : Option Contents → List ℕ → ℕ → List ℕ → Type 0
HasAt held name at bytes = IfSome held (λ files. bytes ≡ take (length bytes) (drop at (unwrap_or (files name) [])))

-- the length of this file was told, and where content is told it has these bytes
abbrev pub IsFile : FilesState → List ℕ → List ℕ → Type 0
IsFile files name bytes = (files.told name ≡ Some (length bytes)) × Holds files.held name bytes

-- each length that was told is that of the file which is held, where content is told
abbrev pub IsToldAsHeld : FilesState → Type 0
IsToldAsHeld files = (name : List ℕ) (n : ℕ) → files.told name ≡ Some n → HasLength files.held name n

-- Time went on: what is held stays, a length that was told stays, and no count falls. Where no call may fail none did.
pub record Later (old new : FilesState) : Type 0 where
  pub held : new.held ≡ old.held
  pub told : (name : List ℕ) (n : ℕ) → old.told name ≡ Some n → new.told name ≡ Some n
  pub reach : (name : List ℕ) → old.reach name ≤ new.reach name
  pub may_fail : new.may_fail ≡ old.may_fail
  pub calm : old.may_fail ≡ false → new.faults ≡ old.faults
  pub faults : old.faults ≤ new.faults
  pub misses : old.misses ≤ new.misses

-- what was told and asked of every other file stays
pub record TouchesOnly (name : List ℕ) (old new : FilesState) : Type 0 where
  pub told : (other : List ℕ) → bytes_eq name other ≡ false → new.told other ≡ old.told other
  pub reach : (other : List ℕ) → bytes_eq name other ≡ false → new.reach other ≡ old.reach other

-- how far reads have asked once so many bytes are asked for at an offset, of which those past the told length do not count
abbrev pub reach_after : FilesState → List ℕ → ℕ → ℕ → ℕ
reach_after files name at count = max (files.reach name) (min (at + count) (told_length files name))

-- a file was not there: the misses rose, and where content is told the file is not held
abbrev pub IsAbsent : FilesState → FilesState → List ℕ → Type 0
IsAbsent old new name = Rose old.misses new.misses × Lacks new.held name

-- a call failed: the faults rose, which comes only where a call may fail
abbrev pub IsFailed : FilesState → FilesState → Type 0
IsFailed old new = Rose old.faults new.faults × (old.may_fail ≡ true)

-- what `length` answers for a name
abbrev pub IsLength : FilesState → FilesState → List ℕ → Length → Type 0
IsLength old new name (length_of.Bytes n) = (new.told name ≡ Some n) × HasLength new.held name n
IsLength old new name length_of.Absent = IsAbsent old new name
IsLength old new name length_of.Failed = IsFailed old new
IsLength old new name length_of.NoMemory = new ≡ old

-- what `read` answers for a name and an offset, having filled a buffer
abbrev pub IsPiece : FilesState → FilesState → List ℕ → ℕ → List ℕ → Piece → Type 0
IsPiece old new name at into (piece_of.Got n) =
    (1 ≤ n) × (n ≤ length into) × (at + n ≤ told_length new name) × HasAt new.held name at (take n into)
IsPiece old new name at into piece_of.End = told_length new name ≤ at
IsPiece old new name at into piece_of.Absent = IsAbsent old new name
IsPiece old new name at into piece_of.Failed = IsFailed old new
