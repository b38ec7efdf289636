use Rattle.std.proofs.Common.{◌≡◌, drop}
use Rattle.ddl_modules.specs.Levels.{has}
use Rattle.ddl_modules.proofs.rows.has.Given as goal

abbrev pub invariant-loop-other : goal.invariant-loop-other
invariant-loop-other l = has l.numbers l.number ≡ has (drop l.other-index l.numbers) l.number
