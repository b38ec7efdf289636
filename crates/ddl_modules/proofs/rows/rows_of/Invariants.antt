use Rattle.std.proofs.Common.{take}
use Rattle.ddl_modules.specs.Levels.{AreRows}
use Rattle.ddl_modules.proofs.rows.rows_of.Given as goal

abbrev pub invariant-loop-unit : goal.invariant-loop-unit
invariant-loop-unit l = AreRows (take l.unit-index l.units) l.rows.items
