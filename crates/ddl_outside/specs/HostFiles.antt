-- What contracts see of the files of the real file system.
use Rattle.std.specs.Prelude.{ℕ, ◌+◌, List, [], Option, Some, None, option_map, min, max, true}
use Rattle.ddl_outside.specs.Files.{FilesState}
use Rattle.ddl_outside.specs.Named.{at_name, name_of}
use Rattle.ddl_outside.specs.declared.named.Named.{Named}
use Rattle.ddl_outside.specs.declared.host_files.Seen.{Seen}

pub record HostState : Type 0 where
  -- the files whose length was told
  pub seen : List (List ℕ × Seen)
  pub faults : ℕ
  pub misses : ℕ

abbrev pub nothing_seen : HostState
nothing_seen = record { seen = []; faults = 0; misses = 0 }

abbrev pub named_seen : Named Seen → List ℕ × Seen
named_seen file = (name_of file, file.thing)

abbrev pub seen_reach : Option Seen → ℕ
seen_reach None = 0
seen_reach (Some file) = file.reach

abbrev pub lengths_of : List (List ℕ × Seen) → List ℕ → Option ℕ
lengths_of seen name = option_map (λ f. f.length) (at_name seen name)

abbrev pub reaches_of : List (List ℕ × Seen) → List ℕ → ℕ
reaches_of seen name = seen_reach (at_name seen name)

abbrev pub host_files_state : HostState → FilesState
host_files_state h =
    record { held = None; told = lengths_of h.seen; reach = reaches_of h.seen; may_fail = true; faults = h.faults; misses = h.misses }

-- so many bytes of this file were asked for at an offset
abbrev pub asked_seen : ℕ → ℕ → Seen → Seen
asked_seen at count file = record file { reach = max file.reach (min (at + count) file.length) }
