use Rattle.ddl_types.specs.TyView.{ty_view}
use Rattle.ddl_unify.specs.Measures.{weighed, cost}
use Rattle.ddl_unify.specs.Solving.{Followed}
use Rattle.ddl_unify.specs.Trails.{bindings}
use Rattle.ddl_unify.proofs.reading.followed.Given as goal

abbrev pub invariant-loop-at : goal.invariant-loop-at
invariant-loop-at l = Followed l.trail (ty_view l.t) (ty_view l.at)

abbrev pub decreases-loop-at : goal.decreases-loop-at
decreases-loop-at l = weighed (ty_view l.at) (cost (bindings l.trail))
