use Rattle.std.proofs.Common.{List, ℕ, subst}
use Rattle.ddl_unify.specs.declared.store.Pair.{Pair}
use Rattle.ddl_unify.specs.declared.store.Bound.{Bound}
use Rattle.ddl_unify.specs.Equations.{MostGeneral}
use Rattle.ddl_unify.specs.State.{accepted, solution}
use Rattle.ddl_unify.specs.View.{equations}
use Rattle.ddl_unify.proofs.Equating.{holding_most}
use Rattle.ddl_unify.proofs.solver.Solver.head.Goals as goal

pub returns-clause-most : goal.returns-clause-most
returns-clause-most c =
    let P : (List Pair × List Bound × ℕ) → Type 0 = λ s. MostGeneral (accepted s) (solution s) in
    subst P c.self.view_is (holding_most (equations c.self.inside.accepted.items) c.self.inside.trail c.self.invariant)
