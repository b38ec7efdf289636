use Rattle.ddl_types.specs.TyView.{ty_view}
use Rattle.ddl_unify.specs.State.{solution}
use Rattle.std.proofs.Common.{refl}
use Rattle.ddl_growing.specs.SolverView.{solved}
use Rattle.ddl_growing.proofs.Joined.{apart}
use Rattle.ddl_growing.proofs.Knowing.{waits_first}
use Rattle.ddl_growing.proofs.joining.take_join.Goals as goal

pub returns-in-Unknown-clause-taken : goal.returns-in-Unknown-clause-taken
returns-in-Unknown-clause-taken c ss = (
  waits_first (ty_view c.args.left.now) (ty_view c.args.right.now) (solution c.args.solver.now) c.in-Unknown.ensures.head,
  refl,
)

pub returns-in-Uint-clause-taken : goal.returns-in-Uint-clause-taken
returns-in-Uint-clause-taken c ss = c.take_join_to.ensures.taken ss (ty_view c.args.left.now) c.in-Uint.ensures.head

pub returns-in_default-clause-taken : goal.returns-in_default-clause-taken
returns-in_default-clause-taken c ss =
    apart ss (ty_view c.args.left.now) (ty_view c.args.right.now) (ty_view c.args.whole.now) c.args.span (solved c.args.solver.now) c.known_head.result
    c.wait_for.result c.known_head.ensures.head c.in_default.not-Unknown c.in_default.not-Uint c.wait_for.ensures.heard
