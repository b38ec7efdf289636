use Rattle.ddl_unify.specs.State.{solution}
use Rattle.ddl_schemes.proofs.Stacks.{read_more}
use Rattle.ddl_schemes.proofs.reading.read_all.Goals as goal

pub loop-t-preserved : goal.loop-t-preserved
loop-t-preserved c =
    read_more c.args.types.now c.loop-t.t-index c.t-item.result c.in_ok-read.field-0 (solution c.args.solver.now) c.loop-t.read.items c.push.new.self.items
    c.loop-t-test.true c.t-item.is c.in_ok-push.ensures.items c.in_ok-read.ensures.type_read c.loop-t.invariant
