use Rattle.ddl_types.specs.TyView.{ty_view}
use Rattle.ddl_unify.specs.Occurs.{has}
use Rattle.ddl_unify.specs.State.{solution}
use Rattle.ddl_conditions.specs.GroupView.{group_view}
use Rattle.ddl_conditions.specs.Keeping.{AllStand}
use Rattle.ddl_conditions.proofs.Kept.{says_false, says_true, stand_next, stand_not_in}
use Rattle.ddl_conditions.proofs.keeping.+each_stands.Goals as goal

pub each_stands_in-returns-then-not-branch : goal.each_stands_in-returns-then-not-branch
each_stands_in-returns-then-not-branch t c =
    stand_not_in (group_view c.args.group.now) (solution c.args.solver.now) c.args.ts.now c.loop-t.t-index c.t-item.result c.loop-t-test.true c.t-item.is
    (says_false c.in_ok-each_stands.field-0 (AllStand (group_view c.args.group.now) (solution c.args.solver.now) (has (ty_view c.t-item.result)))
    c.if-not-branch.true c.in_ok-each_stands.ensures)

pub each_stands_in-loop-t-preserved : goal.each_stands_in-loop-t-preserved
each_stands_in-loop-t-preserved t c =
    stand_next (group_view c.args.group.now) (solution c.args.solver.now) c.args.ts.now c.loop-t.t-index c.t-item.result c.loop-t-test.true c.t-item.is
    c.loop-t.invariant
    (says_true c.in_ok-each_stands.field-0 (AllStand (group_view c.args.group.now) (solution c.args.solver.now) (has (ty_view c.t-item.result)))
    c.if-not-branch.false c.in_ok-each_stands.ensures)
