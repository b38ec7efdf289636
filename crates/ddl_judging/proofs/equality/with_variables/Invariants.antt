use Rattle.std.proofs.Common.{◌≡◌, []}
use Rattle.ddl_unify.specs.State.{accepted, variables}
use Rattle.ddl_judging.proofs.equality.with_variables.Given as goal

abbrev pub invariant-loop-made : goal.invariant-loop-made
invariant-loop-made l = record {
  accepted : accepted l.solver ≡ [];
  variables : variables l.solver ≡ l.made;
}
