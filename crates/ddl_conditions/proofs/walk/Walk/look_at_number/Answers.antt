use Rattle.std.proofs.Common.{◌≡◌, ap, sym, ◌∙◌, map, subst, ◌++◌, ◌∷◌, [], Some}
use Rattle.ddl_types.specs.TyView.{ty_view}
use Rattle.ddl_types.specs.Types as types
use Rattle.ddl_types.specs.Types.{Ty.con, Tys.none, Head.int}
use Rattle.ddl_unify.specs.Equations.{equal}
use Rattle.ddl_unify.specs.State.{accepted}
use Rattle.ddl_conditions.specs.GroupView.{group_view}
use Rattle.ddl_conditions.specs.Growing.{IsFree}
use Rattle.ddl_growing.specs.SolverView.{solved}
use Rattle.ddl_growing.specs.Turns.{IsRefusal, Solved}
use Rattle.ddl_judging.specs.Views.{asked_view}
use Rattle.ddl_conditions.specs.Walking.{IsFreeAt, Place}
use Rattle.ddl_conditions.specs.WalkView.{place}
use Rattle.ddl_conditions.proofs.Becoming.{int_below, int_view, number_cut, number_int, number_passed, numbered_below}
use Rattle.ddl_conditions.proofs.Onwards.{first_below}
use Rattle.ddl_conditions.proofs.walk.Walk.look_at_number.Goals as goal
use Rattle.ddl_conditions.proofs.walk.Walk.look_at_number.Goals.{In-Some}

pub returns-in_default-clause-step : goal.returns-in_default-clause-step
returns-in_default-clause-step c =
    let w : Place = place c.args.solver.now c.args.self.now in
    let told : IsFree (group_view c.args.group.now) w.solver.solution (asked_view c.args.asked.now) → ⊥ = rw c.in_default.is at c.in_ok-of.ensures in
    number_passed (group_view c.args.group.now) w.solver w.behind w.ahead w.numbers w.checked (asked_view c.args.asked.now) (map asked_view c.args.others.now)
    (ap (map asked_view) c.requires.numbers) told

free : (c : In-Some) → IsFreeAt (group_view c.args.group.now) (place c.args.solver.now c.args.self.now).solver.solution (asked_view c.args.asked.now)
    (ty_view c.in-Some.of.now)
free c = rw c.in-Some.is at c.in_ok-of.ensures

pub equate-requires-clause-left_below : goal.equate-requires-clause-left_below
equate-requires-clause-left_below c = int_below _

pub equate-requires-clause-right_below : goal.equate-requires-clause-right_below
equate-requires-clause-right_below c =
    let w : Place = place c.args.solver.now c.args.self.now in
    numbered_below (asked_view c.args.asked.now).what (ty_view c.in-Some.of.now) w.solver.variables
    (free (goal.at.equate-requires-clause-right_below c).In-Some).number
    (first_below w.solver.variables w.numbers (asked_view c.args.asked.now) (map asked_view c.args.others.now) (ap (map asked_view) c.requires.numbers)
    c.requires.fits.numbers)

pub returns-in-Ok-clause-step : goal.returns-in-Ok-clause-step
returns-in-Ok-clause-step c =
    let w : Place = place c.args.solver.now c.args.self.now in
    let P : types.Ty → Type 0 = λ t. (solved c.equate.new.self).accepted ≡ w.solver.accepted ++ equal t (ty_view c.in-Some.of.now) ∷ [] in
    number_int (group_view c.args.group.now) w.solver (solved c.equate.new.self) w.behind w.ahead w.numbers w.checked (asked_view c.args.asked.now)
    (map asked_view c.args.others.now) (ty_view c.in-Some.of.now) c.requires.checked (ap (map asked_view) c.requires.ahead)
    (ap (map asked_view) c.requires.numbers)
    (free (goal.at.returns-in-Ok-clause-step c).In-Some) (subst P int_view c.in-Ok.ensures.accepted) c.in-Ok.ensures.variables c.in-Ok.ensures.most

pub returns-in-Err-clause-step : goal.returns-in-Err-clause-step
returns-in-Err-clause-step c =
    let w : Place = place c.args.solver.now c.args.self.now in
    let P : types.Ty → Type 0 = λ t. IsRefusal c.refused.result (asked_view c.args.asked.now).span w.solver (equal t (ty_view c.in-Some.of.now)) in
    number_cut (group_view c.args.group.now) w.solver (solved c.equate.new.self) w.behind w.ahead w.numbers w.checked (asked_view c.args.asked.now)
    (map asked_view c.args.others.now) (ty_view c.in-Some.of.now) c.refused.result c.requires.checked (ap (map asked_view) c.requires.ahead)
    (ap (map asked_view) c.requires.numbers)
    (free (goal.at.returns-in-Err-clause-step c).In-Some) (ap solved c.in-Err.ensures.unchanged)
    (subst P int_view (c.refused.ensures w.solver (ty_view _) (ty_view c.in-Some.of.now) c.in-Err.ensures.refused))
