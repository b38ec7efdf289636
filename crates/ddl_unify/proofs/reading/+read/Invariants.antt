use Rattle.std.proofs.Common.{◌≡◌, ◌+◌, ◌*◌, map, take}
use Rattle.ddl_types.specs.Types.{on, tys_of}
use Rattle.ddl_types.specs.TyView.{ty_view}
use Rattle.ddl_unify.specs.Measures.{weighed, weighed_all, cost}
use Rattle.ddl_unify.specs.Trails.{bindings, solution}
use Rattle.ddl_unify.proofs.reading.+read.Given as goal

abbrev pub invariant-read_all-loop-t : goal.invariant-read_all-loop-t
invariant-read_all-loop-t l = map ty_view l.made.items ≡ map (λ t. on t (solution l.trail)) (map ty_view (take l.t-index l.ts))

abbrev pub decreases-read : goal.decreases-read
decreases-read l = 3 * weighed (ty_view l.t.now) (cost (bindings l.trail.now)) + 1

abbrev pub decreases-read_box : goal.decreases-read_box
decreases-read_box l = 3 * weighed (ty_view l.t.now) (cost (bindings l.trail.now)) + 2

abbrev pub decreases-read_map : goal.decreases-read_map
decreases-read_map l = 3 * (weighed (ty_view l.key.now) (cost (bindings l.trail.now)) + weighed (ty_view l.value.now) (cost (bindings l.trail.now))) + 3

abbrev pub decreases-read_variable : goal.decreases-read_variable
decreases-read_variable l = 3 * cost (bindings l.trail.now) l.v

abbrev pub decreases-read_all : goal.decreases-read_all
decreases-read_all l = 3 * weighed_all (tys_of (map ty_view l.ts.now)) (cost (bindings l.trail.now)) + 2
