use Rattle.std.proofs.Common.{◌≡◌, ◌+◌, ◌*◌, map, take, false, nat_eq}
use Rattle.std.specs.HashSet.{contains}
use Rattle.ddl_types.specs.Types.{tys_of}
use Rattle.ddl_types.specs.TyView.{ty_view}
use Rattle.ddl_unify.specs.Measures.{weighed, weighed_all, cost}
use Rattle.ddl_unify.specs.Trails.{bindings, solution}
use Rattle.ddl_unify.specs.Solving.{Marks, list_has}
use Rattle.ddl_unify.proofs.occurs.+stands.Given as goal

abbrev pub invariant-stands_in-loop-t : goal.invariant-stands_in-loop-t
invariant-stands_in-loop-t l = record {
  marks : Marks (contains nat_eq l.seen) l.trail l.v;
  before : list_has l.v (solution l.trail) (map ty_view (take l.t-index l.ts)) ≡ false;
}

abbrev pub decreases-stands : goal.decreases-stands
decreases-stands l = 3 * weighed (ty_view l.t.now) (cost (bindings l.trail.now)) + 2

abbrev pub decreases-stands_in : goal.decreases-stands_in
decreases-stands_in l = 3 * weighed_all (tys_of (map ty_view l.ts.now)) (cost (bindings l.trail.now)) + 3

abbrev pub decreases-stands_in_map : goal.decreases-stands_in_map
decreases-stands_in_map l = 3 * (weighed (ty_view l.key.now) (cost (bindings l.trail.now)) + weighed (ty_view l.value.now) (cost (bindings l.trail.now))) + 3

abbrev pub decreases-stands_at : goal.decreases-stands_at
decreases-stands_at l = 3 * cost (bindings l.trail.now) l.n + 1

abbrev pub decreases-stands_behind : goal.decreases-stands_behind
decreases-stands_behind l = 3 * cost (bindings l.trail.now) l.n
