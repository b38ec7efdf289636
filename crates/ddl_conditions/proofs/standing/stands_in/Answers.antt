use Rattle.ddl_unify.specs.State.{solution}
use Rattle.ddl_conditions.proofs.FirstFound.{read_found, read_next}
use Rattle.ddl_conditions.proofs.standing.stands_in.Goals as goal

pub returns-then-branch : goal.returns-then-branch
returns-then-branch c =
    read_found c.args.types.now c.loop-t.t-index c.t-item.result (solution c.args.solver.now) c.args.variable c.in_ok-stands_at.field-0 _ _ _ _
    c.loop-t-test.true c.t-item.is c.if-branch.true c.in_ok-stands_at.ensures

pub loop-t-preserved : goal.loop-t-preserved
loop-t-preserved c =
    read_next c.args.types.now c.loop-t.t-index c.t-item.result (solution c.args.solver.now) c.args.variable c.in_ok-stands_at.field-0 c.args.seen.now
    c.loop-t.seen c.stands_at.new.seen c.args.pending.now.items c.loop-t.pending.items c.stands_at.new.pending.items c.loop-t-test.true c.t-item.is
    c.loop-t.invariant c.if-branch.false c.in_ok-stands_at.ensures
