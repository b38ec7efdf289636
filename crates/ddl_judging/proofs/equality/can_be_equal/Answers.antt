use Rattle.std.proofs.Common.{List, ℕ, arith, subst}
use Rattle.ddl_types.specs.TyView.{ty_view}
use Rattle.ddl_unify.specs.declared.store.Bound.{Bound}
use Rattle.ddl_unify.specs.declared.store.Pair.{Pair}
use Rattle.ddl_unify.specs.Equations.{Equation, MostGeneral}
use Rattle.ddl_unify.specs.Refused.{Refused}
use Rattle.ddl_unify.specs.State.{accepted, solution, variables}
use Rattle.ddl_unify.proofs.Equating.{below_more}
use Rattle.ddl_judging.proofs.Meeting.{refuted_meets}
use Rattle.ddl_judging.proofs.equality.can_be_equal.Goals as goal

pub equate-requires-clause-left_below : goal.equate-requires-clause-left_below
equate-requires-clause-left_below c =
    below_more (ty_view c.args.left.now) c.above.result (variables c.in_ok-solver.solver)
    (omega (arith, c.above-count.ensures.least, c.in_ok-solver.ensures.variables)) c.above.ensures.below

pub returns : goal.returns
returns c =
    let l = ty_view c.args.left.now in
    let r = ty_view c.args.right.now in
    let f = solution c.in_ok-solver.solver in
    let P : (List Pair × List Bound × ℕ) → Type 0 = λ z. MostGeneral (accepted z) (solution z) in
    let Q : List Equation → Type 0 = λ es. MostGeneral es f in
    let R : List Equation → Type 0 = λ es. Refused c.in-Err.error es f l r in
    refuted_meets c.refuted.result c.in-Err.error f l r c.refuted.ensures
    (subst Q c.in_ok-solver.ensures.accepted (subst P c.in-Err.ensures.unchanged c.equate.ensures.most))
    (subst R c.in_ok-solver.ensures.accepted c.in-Err.ensures.refused)
