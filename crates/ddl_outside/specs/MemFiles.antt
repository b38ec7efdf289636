-- What contracts see of the files in memory.
use Rattle.std.specs.Prelude.{ℕ, ◌+◌, List, [], ◌∷◌, length, Option, Some, None, option_map, option_and_then, Bool, true, false, if◌then◌else◌, min, max}
use Rattle.std.specs.Prelude.{◌≡◌, replicate, ◌==◌}
use Rattle.std.specs.List.{list_any}
use Rattle.ddl_outside.specs.Counts.{one_more}
use Rattle.ddl_outside.specs.Files.{FilesState, Contents}
use Rattle.ddl_outside.specs.Named.{at_name, name_of}
use Rattle.ddl_outside.specs.declared.files.Length.{Length}
use Rattle.ddl_outside.specs.declared.files.Length.TheVariants as length_of
use Rattle.ddl_outside.specs.declared.files.Piece.{Piece}
use Rattle.ddl_outside.specs.declared.files.Piece.TheVariants as piece_of
use Rattle.ddl_outside.specs.declared.named.Named.{Named}
use Rattle.ddl_outside.specs.declared.mem_files.Content.{Content}
use Rattle.ddl_outside.specs.declared.mem_files.Content.TheVariants.{Stored, Zeros}
use Rattle.ddl_outside.specs.declared.mem_files.MemFile.{MemFile}

-- a file: its bytes, whether its length was told, and how many bytes from its front reads have asked for
pub record Entry : Type 0 where
  pub bytes : List ℕ
  pub told : Bool
  pub reach : ℕ

-- the files, of which the first under a name counts; the numbers of the calls that fail; and how many calls there were
pub record MemState : Type 0 where
  pub files : List (List ℕ × Entry)
  pub failing : List ℕ
  pub calls : ℕ
  pub faults : ℕ
  pub misses : ℕ

abbrev pub no_files : MemState
no_files = record { files = []; failing = []; calls = 0; faults = 0; misses = 0 }

-- a file of which nothing was asked
abbrev pub fresh : List ℕ → Entry
fresh bytes = record { bytes = bytes; told = false; reach = 0 }

-- one file more, before which the others of its name do not count
abbrev pub added : List ℕ → List ℕ → MemState → MemState
added name bytes m = record m { files = (name, fresh bytes) ∷ m.files }

abbrev pub bytes_of : Content → List ℕ
bytes_of (Stored bytes) = bytes.items
bytes_of (Zeros n) = replicate n 0

abbrev pub entry_of : MemFile → Entry
entry_of file = record { bytes = bytes_of file.content; told = file.told; reach = file.reach }

abbrev pub named_entry : Named MemFile → List ℕ × Entry
named_entry file = (name_of file, entry_of file.thing)

-- the length of a file, if it was told
abbrev pub length_told : Entry → Option ℕ
length_told file = if file.told then Some (length file.bytes) else None

abbrev pub reach_of : Option Entry → ℕ
reach_of None = 0
reach_of (Some file) = file.reach

abbrev pub held_in : List (List ℕ × Entry) → Contents
held_in files name = option_map (λ f. f.bytes) (at_name files name)

abbrev pub told_in : List (List ℕ × Entry) → List ℕ → Option ℕ
told_in files name = option_and_then length_told (at_name files name)

abbrev pub reach_in : List (List ℕ × Entry) → List ℕ → ℕ
reach_in files name = reach_of (at_name files name)

-- some call is to fail
abbrev pub some_failing : List ℕ → Bool
some_failing [] = false
some_failing (call ∷ calls) = true

abbrev pub files_state : MemState → FilesState
files_state m =
    record {
      held = Some (held_in m.files);
      told = told_in m.files;
      reach = reach_in m.files;
      may_fail = some_failing m.failing;
      faults = m.faults;
      misses =
          m.misses;
    }

-- the call fails, by its number
abbrev pub fails : MemState → Bool
fails m = list_any (λ call. call == m.calls) m.failing

-- one call more
abbrev pub counted : MemState → MemState
counted m = record m { calls = one_more m.calls }

-- the length of this file was told
abbrev pub told_entry : Entry → Entry
told_entry file = record file { told = true }

-- so many bytes of this file were asked for at an offset
abbrev pub asked_entry : ℕ → ℕ → Entry → Entry
asked_entry at count file = record file { reach = max file.reach (min (at + count) (length file.bytes)) }

-- `length` fails exactly where the call is one that is to fail, and memory is never wanting
abbrev pub LengthAsNamed : Bool → Length → Type 0
LengthAsNamed to_fail length_of.Failed = to_fail ≡ true
LengthAsNamed to_fail length_of.NoMemory = ⊥
LengthAsNamed to_fail _ = to_fail ≡ false

-- `read` fails exactly where the call is one that is to fail, and a file whose length was told is there
abbrev pub PieceAsNamed : Bool → Piece → Type 0
PieceAsNamed to_fail piece_of.Failed = to_fail ≡ true
PieceAsNamed to_fail piece_of.Absent = ⊥
PieceAsNamed to_fail _ = to_fail ≡ false

-- a call was counted, and the same calls are to fail
abbrev pub IsCounted : MemState → MemState → Type 0
IsCounted old new = (new.calls ≡ one_more old.calls) × (new.failing ≡ old.failing)
