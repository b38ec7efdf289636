use Rattle.std.proofs.Common.{◌≡◌, drop}
use Rattle.ddl_modules.specs.Levels.{any_up}
use Rattle.ddl_modules.proofs.levels.any_up.Given as goal

abbrev pub invariant-loop-unit : goal.invariant-loop-unit
invariant-loop-unit l = any_up l.flags l.units ≡ any_up l.flags (drop l.unit-index l.units)
