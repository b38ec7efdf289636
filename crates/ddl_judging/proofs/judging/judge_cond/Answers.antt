use Rattle.std.proofs.Common.{◌≡◌, ℕ, List, IfOk, Result, sym, subst}
use Rattle.ddl_types.specs.CondView.{cond_view}
use Rattle.ddl_types.specs.TyView.{ty_view}
use Rattle.ddl_types.specs.Types.{Sub, on}
use Rattle.ddl_types.specs.declared.cond.Cond.{Cond}
use Rattle.ddl_unify.specs.State.{solution}
use Rattle.ddl_judging.specs.declared.judging.Verdict.{Verdict}
use Rattle.ddl_judging.specs.Demands.{condition, on_demand}
use Rattle.ddl_judging.specs.Judging.{Judged, has_field, has_tag}
use Rattle.ddl_judging.specs.Shapes.{Shapes}
use Rattle.ddl_judging.specs.VerdictView.{verdict_view}
use Rattle.ddl_judging.specs.Views.{shapes_view}
use Rattle.ddl_judging.proofs.judging.judge_cond.Goals as goal

-- what is answered on a condition
abbrev IsAnswer : {E : Type 0} → Result Verdict E → Shapes → Sub → Cond → Type 0
IsAnswer o ss f d = IfOk o (λ v. Judged ss (on_demand f (condition (cond_view d))) (verdict_view v))

answer : {E : Type 0} (o : Result Verdict E) (ss : Shapes) (f : Sub) (d d2 : Cond) → d ≡ d2 → IsAnswer o ss f d2 → IsAnswer o ss f d
answer o ss f d d2 e h = let P : Cond → Type 0 = λ z. IsAnswer o ss f z in subst P (sym e) h

pub returns-in-Lit : goal.returns-in-Lit
returns-in-Lit c = answer c.literal.result (shapes_view c.args.shapes.now) (solution c.args.solver.now) c.args.cond.now _ c.in-Lit.is c.literal.ensures

pub returns-in-Key : goal.returns-in-Key
returns-in-Key c = answer c.comparable.result (shapes_view c.args.shapes.now) (solution c.args.solver.now) c.args.cond.now _ c.in-Key.is c.comparable.ensures

pub returns-in-Lossless : goal.returns-in-Lossless
returns-in-Lossless c = answer c.lossless.result (shapes_view c.args.shapes.now) (solution c.args.solver.now) c.args.cond.now _ c.in-Lossless.is
    c.lossless.ensures

pub returns-in-Cut : goal.returns-in-Cut
returns-in-Cut c = answer c.cutting.result (shapes_view c.args.shapes.now) (solution c.args.solver.now) c.args.cond.now _ c.in-Cut.is c.cutting.ensures

pub returns-in-Fit : goal.returns-in-Fit
returns-in-Fit c = answer c.fitting.result (shapes_view c.args.shapes.now) (solution c.args.solver.now) c.args.cond.now _ c.in-Fit.is c.fitting.ensures

pub returns-in-Cat : goal.returns-in-Cat
returns-in-Cat c = answer c.joined.result (shapes_view c.args.shapes.now) (solution c.args.solver.now) c.args.cond.now _ c.in-Cat.is c.joined.ensures

pub returns-in-Field : goal.returns-in-Field
returns-in-Field c =
    let P : List ℕ → Type 0 = λ x. IfOk c.has_field.result (λ v.
    verdict_view v ≡ has_field (shapes_view c.args.shapes.now) x (on (ty_view c.in-Field.of) (solution c.args.solver.now))) in
    answer c.has_field.result (shapes_view c.args.shapes.now) (solution c.args.solver.now) c.args.cond.now _ c.in-Field.is
    (subst P c.get.ensures c.has_field.ensures)

pub returns-in-Tag : goal.returns-in-Tag
returns-in-Tag c =
    let P : List ℕ → Type 0 = λ x. IfOk c.has_tag.result (λ v.
    verdict_view v ≡ has_tag (shapes_view c.args.shapes.now) x (on (ty_view c.in-Tag.of) (solution c.args.solver.now))) in
    answer c.has_tag.result (shapes_view c.args.shapes.now) (solution c.args.solver.now) c.args.cond.now _ c.in-Tag.is
    (subst P c.get-in-Tag.ensures c.has_tag.ensures)
