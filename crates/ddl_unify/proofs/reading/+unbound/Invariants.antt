use Rattle.ddl_types.specs.TyView.{ty_view}
use Rattle.ddl_unify.specs.Measures.{weighed, cost}
use Rattle.ddl_unify.specs.Trails.{bindings}
use Rattle.ddl_unify.proofs.reading.+unbound.Given as goal

abbrev pub decreases-unbound : goal.decreases-unbound
decreases-unbound l = weighed (ty_view l.t.now) (cost (bindings l.trail.now))
