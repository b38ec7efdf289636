use Rattle.std.proofs.Common.{◌≡◌, drop}
use Rattle.std.specs.Prelude.{find}
use Rattle.ddl_rules.specs.Asks.{same_span}
use Rattle.ddl_rules.proofs.scope.found.Given as goal

abbrev pub invariant-loop-local : goal.invariant-loop-local
invariant-loop-local l = find (λ m. same_span m.at l.at) (drop l.local-index l.locals) ≡ find (λ m. same_span m.at l.at) l.locals
