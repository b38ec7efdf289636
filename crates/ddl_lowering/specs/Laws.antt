-- What lowering keeps.
use Rattle.ddl_types.specs.Value.{Stream}
use Rattle.ddl_types.specs.Keeping.{Keeps}
use Rattle.ddl_typed.specs.Meaning as typed
use Rattle.ddl_mono.specs.Copies.{Mono, spec_of}
use Rattle.ddl_mono.specs.IsMono.{IsMono}
use Rattle.ddl_core.specs.Meaning as core
use Rattle.ddl_lowering.specs.Program.{core_of}

-- the core of a specialised specification keeps the meaning of what is run, with at most eight ticks for one
abbrev pub LoweringKeeps : Type 0
LoweringKeeps = (m : Mono) → IsMono m → (s : Stream)
    → Keeps 8 (λ n. typed.Run n (spec_of m) m.entry s) (λ n. core.Run n (core_of m) s)
