use Rattle.std.proofs.Common.{subst, sym}
use Rattle.ddl_typed.specs.Simple.{AreSimple}
use Rattle.ddl_typed.specs.View.{items_view, view}
use Rattle.ddl_typed.proofs.Pushing.{plain_pushed}
use Rattle.ddl_tests_types.proofs.typed.bytes.Goals as goal

pub loop-at-preserved : goal.loop-at-preserved
loop-at-preserved c =
    subst (λ is. AreSimple (items_view is) 0) (sym c.in_ok-push.ensures.items)
    (plain_pushed c.loop-at.items.items c.plain.result (view c.byte.result) 0 c.plain.ensures c.byte.ensures c.loop-at.invariant)
