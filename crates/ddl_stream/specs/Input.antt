-- The input file: what is kept of it, and when files agree with it.
use Rattle.std.specs.Prelude.{◌≡◌, ℕ, ◌^◌, ◌<◌, ◌≤◌, List, length, Option, Some, IfSome, slice_get, Result, Ok, Err}
use Rattle.ddl_outside.specs.Files.{FilesState, Contents, IsFile, IsAbsent, IsFailed}
use Rattle.ddl_stream.specs.declared.input.OpenError.{OpenError}
use Rattle.ddl_stream.specs.declared.input.OpenError.TheVariants as error
use Rattle.ddl_stream.specs.declared.input.GotByte.{GotByte}
use Rattle.ddl_stream.specs.declared.input.GotByte.TheVariants as got

-- an input: the name of its file, and its bytes
pub record Kept : Type 0 where
  pub name : List ℕ
  pub bytes : List ℕ

-- no input is longer
abbrev pub most : ℕ
most = 2 ^ 30

-- files agree with an input: the length that was told is the input's, and where content is told its bytes are the file's
abbrev pub Agrees : FilesState → Kept → Type 0
Agrees files input = IsFile files input.name input.bytes

-- what `open` answers for a name
abbrev pub IsOpened : FilesState → FilesState → List ℕ → Result Kept OpenError → Type 0
IsOpened old new name (Ok input) = (input.name ≡ name) × Agrees new input × (length input.bytes ≤ most)
IsOpened old new name (Err error.Missing) = IsAbsent old new name
IsOpened old new name (Err error.ReadFault) = IsFailed old new
IsOpened old new name (Err error.TooLarge) = (n : ℕ) × (new.told name ≡ Some n) × (most < n)
IsOpened old new name (Err error.NoMemory) = Unit {0}

-- where content is told, the file has this byte at this place
abbrev pub HasByte : Option Contents → List ℕ → ℕ → ℕ → Type 0
HasByte held name at b = IfSome held (λ files. IfSome (files name) (λ bs. slice_get bs at ≡ Some b))

-- what `byte` answers for a place; all bytes are held, so memory is never wanting
abbrev pub IsGot : FilesState → FilesState → Kept → ℕ → GotByte → Type 0
IsGot old new input at (got.Byte b) = (slice_get input.bytes at ≡ Some b) × HasByte new.held input.name at b
IsGot old new input at got.Missing = IsAbsent old new input.name
IsGot old new input at got.ReadFault = IsFailed old new
IsGot old new input at got.NoMemory = ⊥
