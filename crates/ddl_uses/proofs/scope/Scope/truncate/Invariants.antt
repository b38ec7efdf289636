use Rattle.std.proofs.Common.{◌≡◌, length}
use Rattle.ddl_uses.specs.Held.{IsScope, scope_view}
use Rattle.ddl_uses.specs.Scope.{outermost}
use Rattle.ddl_uses.proofs.scope.Scope.truncate.Given as goal

abbrev pub invariant-loop-self : goal.invariant-loop-self
invariant-loop-self l = (outermost l.len (scope_view l.self) ≡ outermost l.len (scope_view l.initial.self)) × IsScope l.self

abbrev pub decreases-loop-self : goal.decreases-loop-self
decreases-loop-self l = length (scope_view l.self)
