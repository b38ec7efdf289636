use Rattle.ddl_groups.specs.Placing.{IsWaiting, lists_of}
use Rattle.ddl_groups.proofs.settling.settle.Given as goal

abbrev pub invariant-loop-group : goal.invariant-loop-group
invariant-loop-group l = IsWaiting (lists_of l.needs) l.firsts l.labels l.placed l.left.items l.ready.keys l.hand l.group-index
