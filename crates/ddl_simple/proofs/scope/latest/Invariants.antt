use Rattle.std.proofs.Common.{◌≡◌, ◌≤◌, length, take}
use Rattle.ddl_simple.specs.Scope.{meaning}
use Rattle.ddl_simple.specs.Views.{names}
use Rattle.ddl_simple.proofs.scope.latest.Given as goal

abbrev pub invariant-loop-number : goal.invariant-loop-number
invariant-loop-number l = (l.number ≤ length l.bindings) × (meaning (names l.bindings) l.name ≡ meaning (names (take l.number l.bindings)) l.name)

abbrev pub decreases-loop-number : goal.decreases-loop-number
decreases-loop-number l = l.number
