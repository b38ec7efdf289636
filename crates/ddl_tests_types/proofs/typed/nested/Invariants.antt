use Rattle.ddl_typed.specs.Simple.{IsSimple}
use Rattle.ddl_typed.specs.View.{view}
use Rattle.ddl_tests_types.proofs.typed.nested.Given as goal

abbrev pub invariant-loop-step : goal.invariant-loop-step
invariant-loop-step l = IsSimple (view l.inner) 0
