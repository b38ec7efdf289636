use Rattle.std.specs.Prelude.{◌≡◌, ◌-◌, ◌≤◌, [], length, map}
use Rattle.ddl_types.specs.TyView.{ty_view}
use Rattle.ddl_unify.specs.Equations.{MostGeneral}
use Rattle.ddl_unify.specs.State.{accepted, solution, variables}
use Rattle.ddl_growing.specs.Carrying.{listed}
use Rattle.ddl_growing.specs.SolverView.{solved}
use Rattle.ddl_growing.specs.Turns.{HasAdded}
use Rattle.ddl_growing.proofs.adding.fresh_variables.Given as goal

abbrev pub invariant-loop-solver : goal.invariant-loop-solver
invariant-loop-solver l = record {
  most : MostGeneral (accepted l.solver) (solution l.solver);
  types : map ty_view l.made.items ≡ listed (length l.made.items) (variables l.fn.solver);
  within : length l.made.items ≤ l.count;
  added : HasAdded [] (length l.made.items) (solved l.fn.solver) (solved l.solver);
}

abbrev pub decreases-loop-solver : goal.decreases-loop-solver
decreases-loop-solver l = l.count - length l.made.items
