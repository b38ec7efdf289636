use Rattle.std.proofs.Common.{◌≤◌, ◌+◌, List, length}
use Rattle.ddl_unify.specs.declared.store.Bound.{Bound}
use Rattle.ddl_unify.specs.Equations.{Equation}
use Rattle.ddl_unify.specs.Comparing.{Remembers}
use Rattle.ddl_unify.proofs.compared.Compared.settle.Given as goal

abbrev pub invariant-loop-last : goal.invariant-loop-last
invariant-loop-last l = (xs : List Bound) (es : List Equation) → length es ≤ l.n + 1 → Remembers l.fn.self xs es → Remembers l.self xs es

abbrev pub decreases-loop-last : goal.decreases-loop-last
decreases-loop-last l = length l.self.pending.items
