use Rattle.ddl_types.specs.TyView.{ty_view}
use Rattle.ddl_unify.proofs.Equating.{pushed}
use Rattle.ddl_unify.proofs.solver.push_copy.Goals as goal

pub returns-clause-done : goal.returns-clause-done
returns-clause-done c =
    pushed c.args.accepted.now.items c.push.new.self.items c.in_ok-pair.pair (ty_view c.args.left.now) (ty_view c.args.right.now) c.in_ok-push.ensures.items
    c.in_ok-pair.ensures
