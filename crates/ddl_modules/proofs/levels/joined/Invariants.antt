use Rattle.std.proofs.Common.{◌≡◌, ◌++◌, drop}
use Rattle.ddl_modules.specs.Levels.{joined}
use Rattle.ddl_modules.proofs.levels.joined.Given as goal

abbrev pub invariant-loop-unit : goal.invariant-loop-unit
invariant-loop-unit l = joined l.flags l.others ≡ l.both.items ++ joined (drop l.unit l.flags) (drop l.unit l.others)
