use Rattle.ddl_unify.specs.State.{accepted, variables}
use Rattle.ddl_growing.specs.SolverView.{solved}
use Rattle.ddl_conditions.specs.GroupView.{group_view}
use Rattle.ddl_conditions.proofs.Gave.{grown_given}
use Rattle.ddl_conditions.proofs.settling.settle.Goals as goal

pub returns-clause-given : goal.returns-clause-given
returns-clause-given c =
    let old = c.args.solver.now in
    let grown = c.in_ok-grow.ensures.grown in
    grown_given (group_view c.args.group.now) (accepted old) (variables old) (solved c.grow.new.solver) grown c.grow.ensures.most
