use Rattle.std.proofs.Common.{◌≡◌, map, take}
use Rattle.ddl_unify.specs.Equations.{MostGeneral}
use Rattle.ddl_unify.specs.State.{accepted, solution}
use Rattle.ddl_growing.specs.SolverView.{solved}
use Rattle.ddl_judging.specs.Views.{asked_view}
use Rattle.ddl_conditions.specs.Walking.{Wait}
use Rattle.ddl_conditions.proofs.walk.first_turn.Given as goal

abbrev pub invariant-loop-i : goal.invariant-loop-i
invariant-loop-i l = record {
  most : MostGeneral (accepted l.solver) (solution l.solver);
  same : solved l.solver ≡ solved l.fn.solver;
  wait : Wait (solution l.fn.solver) (map (λ a. asked_view a.now) (take l.i l.behind));
}
