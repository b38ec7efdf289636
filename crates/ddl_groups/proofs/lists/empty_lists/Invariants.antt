use Rattle.ddl_groups.specs.Numbered.{AreEmpty}
use Rattle.ddl_groups.specs.Placing.{lists_of}
use Rattle.ddl_groups.proofs.lists.empty_lists.Given as goal

abbrev pub invariant-loop-made : goal.invariant-loop-made
invariant-loop-made l = AreEmpty l._made (lists_of l.lists.items)
