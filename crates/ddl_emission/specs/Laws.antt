-- What the code of a program keeps.
use Rattle.ddl_types.specs.Value.{Stream}
use Rattle.ddl_types.specs.Keeping.{Keeps}
use Rattle.ddl_core.specs.Core.{Core}
use Rattle.ddl_core.specs.Meaning as core
use Rattle.ddl_blocks.specs.Run as blocks
use Rattle.ddl_emission.specs.Scope.{IsWellScoped}
use Rattle.ddl_emission.specs.Program.{Beside, code_of}

-- the plain reading of the code keeps the meaning of the program, with at most eight counted steps for a tick
abbrev pub CodeKeeps : Type 0
CodeKeeps = (b : Beside) (program : Core) → IsWellScoped program → (s : Stream)
    → Keeps 8 (λ n. core.Run n program s) (λ m. blocks.Run m (code_of b program) s)
