use Rattle.ddl_unify.specs.View.{equations}
use Rattle.ddl_unify.specs.Measures.{weight, steps}
use Rattle.ddl_unify.specs.Trails.{bindings, free}
use Rattle.ddl_unify.specs.Solving.{Going}
use Rattle.ddl_unify.specs.Comparing.{Remembers}
use Rattle.ddl_unify.proofs.solving.solve.Given as goal

abbrev pub invariant-loop-pair : goal.invariant-loop-pair
invariant-loop-pair l = record {
  going : Going l.fn.trail (equations l.fn.stack.items) l.trail (equations l.stack.items);
  remembers : Remembers l.compared l.trail.0 (equations l.stack.items);
}

abbrev pub decreases-loop-pair : goal.decreases-loop-pair
decreases-loop-pair l = steps (free l.trail) (weight (bindings l.trail) (equations l.stack.items))
