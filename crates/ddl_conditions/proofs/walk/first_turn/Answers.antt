use Rattle.std.proofs.Common.{◌≡◌, ap, sym, ◌∙◌, map, subst, ◌≤◌, length, arith, Bor, refl}
use Rattle.std.proofs.lemmas.Result.{err_from_is_err_and}
use Rattle.std.proofs.lemmas.List.Elements.{All-nil}
use Rattle.ddl_unify.specs.State.{accepted, solution, variables}
use Rattle.ddl_judging.specs.declared.demand.Asked.{Asked}
use Rattle.ddl_growing.specs.declared.turn.Turn.{Turn}
use Rattle.ddl_conditions.specs.Growing.{IsReady}
use Rattle.ddl_conditions.specs.GroupView.{group_view}
use Rattle.ddl_growing.specs.SolverView.{solved}
use Rattle.ddl_growing.specs.Turns.{AreShapes, IsTurn, Solved}
use Rattle.ddl_judging.specs.Views.{asked_view}
use Rattle.ddl_conditions.proofs.Onwards.{silent_adds}
use Rattle.ddl_conditions.proofs.Turning.{below_at, turn_found, turn_refused, wait_all, wait_more}
use Rattle.ddl_conditions.proofs.walk.first_turn.Goals as goal

pub loop-i-init : goal.loop-i-init
loop-i-init c = record { most = c.requires.most; same = refl; wait = All-nil (λ y. IsReady (solution c.args.solver.now) y → ⊥) }

pub take_turn-requires-clause-below : goal.take_turn-requires-clause-below
take_turn-requires-clause-below c =
    below_at (λ (a : Bor Asked). asked_view a.now) c.args.behind.now c.loop-i.i c.index-behind-i.result (solved c.args.solver.now) (solved c.loop-i.solver)
    c.loop-i-test.true c.index-behind-i.is c.loop-i.invariant.same c.requires.below

pub take_turn-requires-clause-shapes : goal.take_turn-requires-clause-shapes
take_turn-requires-clause-shapes c =
    let P : Solved → Type 0 = λ y. AreShapes y.variables (group_view c.args.group.now).shapes in
    subst P (sym c.loop-i.invariant.same) c.requires.shapes

pub loop-i-preserved : goal.loop-i-preserved
loop-i-preserved c =
    let P : Turn → Type 0 = λ t. IsTurn (group_view c.args.group.now).shapes (asked_view c.index-behind-i.result.now) (solved c.loop-i.solver)
    (solved c.take_turn.new.solver) t in
    let h = subst P c.in-Waits.is c.in_ok-take_turn.ensures.turn in
    record {
      most = c.in_ok-take_turn.ensures.most;
      same = h.1 ∙ c.loop-i.invariant.same;
      wait = wait_more (λ (a : Bor Asked). asked_view a.now) c.args.behind.now c.loop-i.i c.index-behind-i.result (solved c.args.solver.now)
          (solved c.loop-i.solver) c.loop-i-test.true c.index-behind-i.is c.loop-i.invariant.same c.loop-i.invariant.wait h.0;
    }

pub returns-in_err-take_turn-clause-turn : goal.returns-in_err-take_turn-clause-turn
returns-in_err-take_turn-clause-turn c =
    let p = err_from_is_err_and c.from_residual.result c.from_residual.ensures.1 in
    rw (p.1, p.2) (turn_refused (group_view c.args.group.now) (λ (a : Bor Asked). asked_view a.now) c.args.behind.now c.loop-i.i c.index-behind-i.result
    (solved c.args.solver.now) (solved c.loop-i.solver) (solved c.take_turn.new.solver) c.in_err-take_turn.field-0.0 c.loop-i-test.true c.index-behind-i.is
    c.loop-i.invariant.same c.loop-i.invariant.wait c.in_err-take_turn.ensures.turn)

pub returns-in-Silent-clause-turn : goal.returns-in-Silent-clause-turn
returns-in-Silent-clause-turn c =
    let P : Turn → Type 0 = λ t. IsTurn (group_view c.args.group.now).shapes (asked_view c.index-behind-i.result.now) (solved c.loop-i.solver)
    (solved c.take_turn.new.solver) t in
    let h = subst P c.in-Silent.is c.in_ok-take_turn.ensures.turn in
    turn_found (group_view c.args.group.now) (λ (a : Bor Asked). asked_view a.now) c.args.behind.now c.loop-i.i c.index-behind-i.result
    (solved c.args.solver.now) (solved c.loop-i.solver) (solved c.take_turn.new.solver) c.loop-i-test.true c.index-behind-i.is c.loop-i.invariant.same
    c.loop-i.invariant.wait
    (silent_adds (group_view c.args.group.now).shapes (asked_view c.index-behind-i.result.now) (solved c.loop-i.solver) (solved c.take_turn.new.solver) h.0 h.1)

pub returns-in-Adds-clause-turn : goal.returns-in-Adds-clause-turn
returns-in-Adds-clause-turn c =
    let P : Turn → Type 0 = λ t. IsTurn (group_view c.args.group.now).shapes (asked_view c.index-behind-i.result.now) (solved c.loop-i.solver)
    (solved c.take_turn.new.solver) t in
    turn_found (group_view c.args.group.now) (λ (a : Bor Asked). asked_view a.now) c.args.behind.now c.loop-i.i c.index-behind-i.result
    (solved c.args.solver.now) (solved c.loop-i.solver) (solved c.take_turn.new.solver) c.loop-i-test.true c.index-behind-i.is c.loop-i.invariant.same
    c.loop-i.invariant.wait
    (subst P c.in-Adds.is c.in_ok-take_turn.ensures.turn)

pub returns-clause-turn : goal.returns-clause-turn
returns-clause-turn c = (
  c.loop-i.invariant.same,
  wait_all (λ (a : Bor Asked). asked_view a.now) c.args.behind.now c.loop-i.i (solution c.args.solver.now) c.loop-i-test.false c.loop-i.invariant.wait,
)
