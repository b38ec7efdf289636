use Rattle.std.proofs.Common.{◌≤◌, ℕ, List, [], length, sym, subst, Option, None, rules, arith}
use Rattle.ddl_base.specs.declared.span.Span.{Span}
use Rattle.ddl_types.specs.Types.{Sub}
use Rattle.ddl_unify.specs.State.{solution}
use Rattle.ddl_judging.specs.Demands as d
use Rattle.ddl_conditions.specs.Fates.{IsClosing}
use Rattle.ddl_conditions.specs.Growing.{Group}
use Rattle.ddl_conditions.specs.GroupView.{group_view}
use Rattle.ddl_conditions.proofs.Closings.{closing_start, closing_unresolved, take_all}
use Rattle.ddl_conditions.proofs.closing.close.Goals as goal

pub loop-place-init : goal.loop-place-init
loop-place-init c =
    let g : Group = group_view c.args.group.now in
    let f : Sub = solution c.args.solver.now in
    let Q : List ℕ → Type 0 = λ ks. IsClosing g f [] ks None in
    subst Q (sym c.new-kept.ensures.items) (closing_start g f)

pub returns-in-Some : goal.returns-in-Some
returns-in-Some c =
    let g : Group = group_view c.args.group.now in
    let f : Sub = solution c.args.solver.now in
    let h : length c.args.group.now.asked.now ≤ c.loop-place.place = grind (arith, rules) in
    let P : List d.Asked → Type 0 = λ xs. IsClosing g f xs c.loop-place.kept.items c.loop-place.left in
    let Q : Option Span → Type 0 = λ l. IsClosing g f g.asked c.loop-place.kept.items l in
    closing_unresolved g f c.loop-place.kept.items c.in-Some.span
    (subst Q c.in-Some.is (subst P (take_all c.args.group.now.asked.now c.loop-place.place h) c.loop-place.invariant))
