use Rattle.std.proofs.Common.{◌≡◌, ap, map, subst, Bool, false}
use Rattle.std.proofs.lemmas.Result.{err_from_is_err_and}
use Rattle.ddl_unify.specs.State.{accepted, variables}
use Rattle.ddl_conditions.specs.GroupView.{group_view}
use Rattle.ddl_growing.specs.SolverView.{solved}
use Rattle.ddl_judging.specs.Views.{asked_view}
use Rattle.ddl_conditions.specs.Walking.{IsStep, Place}
use Rattle.ddl_conditions.specs.WalkView.{place}
use Rattle.ddl_conditions.proofs.Becoming.{asked_below, going_start, grown_over}
use Rattle.ddl_conditions.proofs.settling.grow.Goals as goal

pub loop-walk-init : goal.loop-walk-init
loop-walk-init c =
    let w : Place = place c.args.solver.now c.over-walk.result in
    going_start (group_view c.args.group.now) w.solver w.behind w.ahead w.numbers w.checked (ap (map (λ a. asked_view a.now)) c.over-walk.ensures.behind)
    (ap (map asked_view) c.over-walk.ensures.ahead) c.over-walk.ensures.checked (ap (map asked_view) c.over-walk.ensures.numbers) c.requires.most
    c.requires.below c.requires.shapes

pub returns-in_err-going-clause-grown : goal.returns-in_err-going-clause-grown
returns-in_err-going-clause-grown c =
    let p = err_from_is_err_and c.from_residual.result c.from_residual.ensures.1 in
    rw (p.1, p.2) (c.in_err-going.ensures.step (accepted c.args.solver.now) (variables c.args.solver.now) c.loop-walk.invariant)

pub returns-then-not-going-clause-grown : goal.returns-then-not-going-clause-grown
returns-then-not-going-clause-grown c =
    let P : Bool → Type 0 = λ b. IsStep b (group_view c.args.group.now) (place c.loop-walk.solver c.loop-walk.walk) (place c.step.new.solver c.step.new.self) in
    grown_over (group_view c.args.group.now) (accepted c.args.solver.now) (variables c.args.solver.now) (place c.loop-walk.solver c.loop-walk.walk)
    (place c.step.new.solver c.step.new.self) c.loop-walk.invariant (subst P c.if-not-going.true c.in_ok-going.ensures.step)

pub returns-then-not-going-clause-below : goal.returns-then-not-going-clause-below
returns-then-not-going-clause-below c =
    let P : Bool → Type 0 = λ b. IsStep b (group_view c.args.group.now) (place c.loop-walk.solver c.loop-walk.walk) (place c.step.new.solver c.step.new.self) in
    asked_below (group_view c.args.group.now) (accepted c.args.solver.now) (variables c.args.solver.now) (place c.loop-walk.solver c.loop-walk.walk)
    (place c.step.new.solver c.step.new.self) c.loop-walk.invariant (subst P c.if-not-going.true c.in_ok-going.ensures.step)
