use Rattle.std.proofs.Common.{◌+◌, ◌*◌}
use Rattle.ddl_types.specs.TyView.{ty_view}
use Rattle.ddl_unify.specs.Measures.{weighed, cost}
use Rattle.ddl_unify.specs.Trails.{bindings}
use Rattle.ddl_unify.proofs.solving.+opened.Given as goal

abbrev pub decreases-opened_at : goal.decreases-opened_at
decreases-opened_at l = 2 * cost (bindings l.trail.now) l.v

abbrev pub decreases-opened_in : goal.decreases-opened_in
decreases-opened_in l = 2 * weighed (ty_view l.t.now) (cost (bindings l.trail.now)) + 1
