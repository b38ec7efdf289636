use Rattle.std.proofs.Common.{sym}
use Rattle.ddl_groups.proofs.Needing.{needs_more}
use Rattle.ddl_groups.proofs.needs.needs_in.Goals as goal

pub loop-used-preserved : goal.loop-used-preserved
loop-used-preserved c =
    rw (c.in_ok-add_need.ensures, c.loop-used.invariant) (sym (needs_more c.args.count c.args.uses.now c.loop-used.used-index _ c.loop-used-test.true))
