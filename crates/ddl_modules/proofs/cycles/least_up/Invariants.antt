use Rattle.std.proofs.Common.{◌≡◌, ℕ, ◌<◌, true}
use Rattle.ddl_modules.specs.Levels.{flag, has}
use Rattle.ddl_modules.proofs.cycles.least_up.Given as goal

abbrev pub invariant-loop-unit : goal.invariant-loop-unit
invariant-loop-unit l = (b : ℕ) → b < l.unit → has l.units b ≡ true → flag l.flags b ≡ true → ⊥
