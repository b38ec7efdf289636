use Rattle.std.proofs.Common.{refl}
use Rattle.ddl_groups.proofs.Stepped.{steps_more}
use Rattle.ddl_groups.proofs.steps.add_steps.Goals as goal

pub loop-declaration-preserved : goal.loop-declaration-preserved
loop-declaration-preserved c =
    rw c.in_ok-push.ensures.items (steps_more c.args.pending.now.items c.args.from c.args.used.now c.loop-declaration.pending.items
    c.loop-declaration.declaration-index
    c.loop-declaration-test.true c.loop-declaration.invariant _ refl refl)
