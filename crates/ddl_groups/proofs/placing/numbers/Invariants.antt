use Rattle.ddl_groups.specs.Placing.{AreNumbers}
use Rattle.ddl_groups.proofs.placing.numbers.Given as goal

abbrev pub invariant-loop-number : goal.invariant-loop-number
invariant-loop-number l = AreNumbers l.number l.all.items
