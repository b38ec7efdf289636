use Rattle.std.proofs.Common.{ℕ, ◌<◌, List}
use Rattle.ddl_modules.specs.Cycles.{IsCycle}
use Rattle.ddl_modules.specs.Levels.{lists_of}
use Rattle.ddl_modules.proofs.cycles.first_cycle.Given as goal

abbrev pub invariant-loop-unit : goal.invariant-loop-unit
invariant-loop-unit l = (b : ℕ) → b < l.unit → (rest : List ℕ) → ¬ IsCycle (lists_of l.rows.items) b rest
