use Rattle.std.proofs.Common.{◌≡◌, ap, sym, ◌∙◌, map, true, false, subst}
use Rattle.std.proofs.lemmas.Result.{err_from_is_err_and}
use Rattle.ddl_growing.specs.declared.turn.Turn.{Turn}
use Rattle.ddl_conditions.specs.GroupView.{group_view}
use Rattle.ddl_growing.specs.SolverView.{solved}
use Rattle.ddl_growing.specs.Turns.{IsTurn}
use Rattle.ddl_judging.specs.Views.{asked_view}
use Rattle.ddl_conditions.specs.Walking.{Place}
use Rattle.ddl_conditions.specs.WalkView.{place}
use Rattle.ddl_conditions.proofs.Onwards.{ahead_adds, ahead_cut, ahead_passed, ahead_silent, ahead_waits, first_below}
use Rattle.ddl_conditions.proofs.walk.Walk.look_ahead.Goals as goal

pub returns-then-not-may_add-clause-step : goal.returns-then-not-may_add-clause-step
returns-then-not-may_add-clause-step c =
    let p : Place = place c.args.solver.now c.args.self.now in
    ahead_passed (group_view c.args.group.now) p.solver p.behind p.ahead p.numbers p.checked (asked_view c.args.asked.now) (map asked_view c.args.others.now)
    (ap (map asked_view) c.requires.ahead) (sym c.may_add.ensures ∙ c.if-not-may_add.true)

pub take_turn-requires-clause-below : goal.take_turn-requires-clause-below
take_turn-requires-clause-below c =
    let p : Place = place c.args.solver.now c.args.self.now in
    first_below p.solver.variables p.ahead (asked_view c.args.asked.now) (map asked_view c.args.others.now) (ap (map asked_view) c.requires.ahead)
    c.requires.fits.ahead

pub returns-in_err-take_turn-clause-step : goal.returns-in_err-take_turn-clause-step
returns-in_err-take_turn-clause-step c =
    let w : Place = place c.args.solver.now c.args.self.now in
    let p = err_from_is_err_and c.from_residual.result c.from_residual.ensures.1 in
    rw (p.1, p.2) (ahead_cut (group_view c.args.group.now) w.solver (solved c.take_turn.new.solver) w.behind w.ahead w.numbers w.checked
    (asked_view c.args.asked.now) (map asked_view c.args.others.now) c.in_err-take_turn.field-0.0 c.requires.checked (ap (map asked_view) c.requires.ahead)
    (sym c.may_add.ensures ∙ c.if-not-may_add.false) c.in_err-take_turn.ensures.turn)

pub returns-in_ok-wait-in-Waits-clause-step : goal.returns-in_ok-wait-in-Waits-clause-step
returns-in_ok-wait-in-Waits-clause-step c =
    let w : Place = place c.args.solver.now c.args.self.now in
    let P : Turn → Type 0 = λ t. IsTurn (group_view c.args.group.now).shapes (asked_view c.args.asked.now) (solved c.args.solver.now)
    (solved c.take_turn.new.solver) t in
    let h = subst P c.in-Waits.is c.in_ok-take_turn.ensures.turn in
    rw (c.in_ok-wait-in-Waits.ensures.ahead, c.in_ok-wait-in-Waits.ensures.checked, c.in_ok-wait-in-Waits.ensures.numbers)
    (ahead_waits (group_view c.args.group.now) w.solver (solved c.take_turn.new.solver) w.behind (map (λ a. asked_view a.now) c.wait.new.self.behind.items)
    w.ahead w.numbers w.checked (asked_view c.args.asked.now) (map asked_view c.args.others.now) c.requires.checked (ap (map asked_view) c.requires.ahead)
    (sym c.may_add.ensures ∙ c.if-not-may_add.false) c.in_ok-wait-in-Waits.ensures.behind h.0 h.1)

pub returns-in-Silent-clause-step : goal.returns-in-Silent-clause-step
returns-in-Silent-clause-step c =
    let w : Place = place c.args.solver.now c.args.self.now in
    let P : Turn → Type 0 = λ t. IsTurn (group_view c.args.group.now).shapes (asked_view c.args.asked.now) (solved c.args.solver.now)
    (solved c.take_turn.new.solver) t in
    let h = subst P c.in-Silent.is c.in_ok-take_turn.ensures.turn in
    ahead_silent (group_view c.args.group.now) w.solver (solved c.take_turn.new.solver) w.behind w.ahead w.numbers w.checked (asked_view c.args.asked.now)
    (map asked_view c.args.others.now) c.requires.checked c.requires.fits (ap (map asked_view) c.requires.ahead) (sym c.may_add.ensures
    ∙ c.if-not-may_add.false) h.0 h.1

pub returns-in-Adds-clause-step : goal.returns-in-Adds-clause-step
returns-in-Adds-clause-step c =
    let w : Place = place c.args.solver.now c.args.self.now in
    let P : Turn → Type 0 = λ t. IsTurn (group_view c.args.group.now).shapes (asked_view c.args.asked.now) (solved c.args.solver.now)
    (solved c.take_turn.new.solver) t in
    ahead_adds (group_view c.args.group.now) w.solver (solved c.take_turn.new.solver) w.behind w.ahead w.numbers w.checked (asked_view c.args.asked.now)
    (map asked_view c.args.others.now) c.requires.checked c.requires.fits (ap (map asked_view) c.requires.ahead) (sym c.may_add.ensures
    ∙ c.if-not-may_add.false) (subst P c.in-Adds.is c.in_ok-take_turn.ensures.turn) c.in_ok-take_turn.ensures.most
