use Rattle.ddl_typed.specs.Simple.{AreSimple}
use Rattle.ddl_typed.specs.View.{items_view}
use Rattle.ddl_tests_types.proofs.typed.bytes.Given as goal

abbrev pub invariant-loop-at : goal.invariant-loop-at
invariant-loop-at l = AreSimple (items_view l.items.items) 0
