use Rattle.std.proofs.Common.{◌≡◌, ◌+◌, ap, sym, ◌∙◌, map, subst, take, drop, ◌++◌, List, Bor, arith}
use Rattle.std.proofs.lemmas.Result.{err_from_is_err_and}
use Rattle.ddl_judging.specs.declared.demand.Asked.{Asked}
use Rattle.ddl_conditions.specs.GroupView.{group_view}
use Rattle.ddl_growing.specs.SolverView.{solved}
use Rattle.ddl_judging.specs.Views.{asked_view}
use Rattle.ddl_conditions.specs.Walking.{AreBelow, HasNoTurn, HasTurn, Place, Wait}
use Rattle.ddl_conditions.specs.WalkView.{place}
use Rattle.ddl_conditions.proofs.Onwards.{behind_cut, behind_turned, behind_waits}
use Rattle.ddl_conditions.proofs.Turning.{below_left}
use Rattle.ddl_conditions.proofs.walk.Walk.look_behind.Goals as goal

pub returns-in_err-at-clause-step : goal.returns-in_err-at-clause-step
returns-in_err-at-clause-step c =
    let w : Place = place c.args.solver.now c.args.self.now in
    let p = err_from_is_err_and c.from_residual.result c.from_residual.ensures.1 in
    let P : List (Bor Asked) → Type 0 = λ xs. HasNoTurn (group_view c.args.group.now) (map (λ (a : Bor Asked). asked_view a.now) xs) w.solver
    (solved c.first_turn.new.solver) c.in_err-at.field-0.0 in
    rw (p.1, p.2) (behind_cut (group_view c.args.group.now) w.solver (solved c.first_turn.new.solver) w.behind w.ahead w.numbers w.checked c.in_err-at.field-0.0
    (subst P c.deref.ensures.value c.in_err-at.ensures.turn))

pub returns-in-Some-clause-step : goal.returns-in-Some-clause-step
returns-in-Some-clause-step c =
    let w : Place = place c.args.solver.now c.args.self.now in
    let i = c.in-Some.at in
    let P : List (Bor Asked) → Type 0 = λ xs. HasTurn (group_view c.args.group.now) (map (λ (a : Bor Asked). asked_view a.now) xs)
    (map (λ (a : Bor Asked). asked_view a.now) (take i xs ++ drop (i + 1) xs)) w.solver (solved c.first_turn.new.solver) in
    let Q : List (Bor Asked) → Type 0 = λ ys. HasTurn (group_view c.args.group.now) w.behind (map (λ (a : Bor Asked). asked_view a.now) ys) w.solver
    (solved c.first_turn.new.solver) in
    let R : List (Bor Asked) → Type 0 = λ ys. AreBelow w.solver.variables (map (λ (a : Bor Asked). asked_view a.now) ys) in
    let h : P c.deref.result.now = rw c.in-Some.is at c.in_ok-at.ensures.turn in
    behind_turned (group_view c.args.group.now) w.solver (solved c.first_turn.new.solver) w.behind
    (map (λ (a : Bor Asked). asked_view a.now) c.remove.new.self.items) w.ahead w.numbers w.checked c.requires.unchecked c.requires.fits
    (subst Q (sym c.remove.ensures.by_index.2) (subst P c.deref.ensures.value h))
    c.in_ok-at.ensures.most
    (subst R (sym c.remove.ensures.by_index.2) (below_left (λ (a : Bor Asked). asked_view a.now) w.solver.variables c.args.self.now.behind.items i
    c.requires.fits.behind))

pub returns-in-None-clause-step : goal.returns-in-None-clause-step
returns-in-None-clause-step c =
    let w : Place = place c.args.solver.now c.args.self.now in
    let P : List (Bor Asked) → Type 0 = λ xs. (solved c.first_turn.new.solver ≡ w.solver)
    × Wait w.solver.solution (map (λ (a : Bor Asked). asked_view a.now) xs) in
    let h : P c.deref.result.now = rw c.in-None.is at c.in_ok-at.ensures.turn in
    let k = subst P c.deref.ensures.value h in
    behind_waits (group_view c.args.group.now) w.solver (solved c.first_turn.new.solver) w.behind w.ahead w.numbers w.checked c.requires.unchecked k.0 k.1
