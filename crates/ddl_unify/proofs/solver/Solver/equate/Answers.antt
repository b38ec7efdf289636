use Rattle.std.proofs.Common.{◌≡◌, ◌∙◌, ◌++◌, ◌∷◌, [], List, ℕ, ap, sym, subst}
use Rattle.std.specs.Prelude.{IfOk, OnErr, MatchResult}
use Rattle.ddl_types.specs.Types.{Below}
use Rattle.ddl_types.specs.TyView.{ty_view}
use Rattle.ddl_unify.specs.declared.store.Pair.{Pair}
use Rattle.ddl_unify.specs.declared.store.Bound.{Bound}
use Rattle.ddl_unify.specs.Equations.{equal}
use Rattle.ddl_unify.specs.Refused.{Refused}
use Rattle.ddl_unify.specs.State.{accepted, solution, variables}
use Rattle.ddl_unify.specs.View.{equations}
use Rattle.ddl_unify.proofs.Equating.{accepts_holding, accepts_adds, accepts_long, accepts_refused, accepts_same, holding_most}
use Rattle.ddl_unify.proofs.solver.Solver.equate.Goals as goal

pub equate-requires-clause-below : goal.equate-requires-clause-below
equate-requires-clause-below c =
    let P : (List Pair × List Bound × ℕ) → Type 0 = λ s. Below (ty_view c.args.left.now) (variables s) in
    let Q : (List Pair × List Bound × ℕ) → Type 0 = λ s. Below (ty_view c.args.right.now) (variables s) in
    (subst P (sym c.self.view_is) c.requires.left_below, subst Q (sym c.self.view_is) c.requires.right_below, tt)

pub invariant_of-self : goal.invariant_of-self
invariant_of-self c = accepts_holding c.equate.result c.self.inside.accepted.items c.self.inside.trail (ty_view c.args.left.now) (ty_view c.args.right.now)
    c.equate.new.accepted.items c.equate.new.trail c.self.invariant c.equate.ensures

pub returns-clause-accepted : goal.returns-clause-accepted
returns-clause-accepted c =
    let P : (List Pair × List Bound × ℕ) → Type 0 = λ s. IfOk c.equate.result
    (λ _. equations c.equate.new.accepted.items ≡ accepted s ++ equal (ty_view c.args.left.now) (ty_view c.args.right.now) ∷ []) in
    subst P c.self.view_is (accepts_adds c.equate.result c.self.inside.accepted.items c.self.inside.trail (ty_view c.args.left.now) (ty_view c.args.right.now)
    c.equate.new.accepted.items c.equate.new.trail c.equate.ensures)

pub returns-clause-most : goal.returns-clause-most
returns-clause-most c = holding_most (equations c.equate.new.accepted.items) c.equate.new.trail
    (accepts_holding c.equate.result c.self.inside.accepted.items c.self.inside.trail (ty_view c.args.left.now) (ty_view c.args.right.now)
    c.equate.new.accepted.items c.equate.new.trail c.self.invariant c.equate.ensures)

pub returns-clause-variables : goal.returns-clause-variables
returns-clause-variables c = accepts_long c.equate.result c.self.inside.accepted.items c.self.inside.trail (ty_view c.args.left.now) (ty_view c.args.right.now)
    c.equate.new.accepted.items c.equate.new.trail c.equate.ensures ∙ ap (λ (s : (List Pair × List Bound × ℕ)). variables s) c.self.view_is

pub returns-clause-refused : goal.returns-clause-refused
returns-clause-refused c =
    let P : (List Pair × List Bound × ℕ) → Type 0 = λ s. MatchResult c.equate.result (λ _. Unit {0}) (λ e.
    Refused e (accepted s) (solution s) (ty_view c.args.left.now) (ty_view c.args.right.now)) in
    subst P c.self.view_is (accepts_refused c.equate.result c.self.inside.accepted.items c.self.inside.trail (ty_view c.args.left.now)
    (ty_view c.args.right.now) c.equate.new.accepted.items c.equate.new.trail c.equate.ensures)

pub returns-clause-unchanged : goal.returns-clause-unchanged
returns-clause-unchanged c =
    let P : (List Pair × List Bound × ℕ) → Type 0 = λ s. OnErr c.equate.result ((c.equate.new.accepted.items, c.equate.new.trail.0, c.equate.new.trail.1) ≡ s)
    in
    subst P c.self.view_is (accepts_same c.equate.result c.self.inside.accepted.items c.self.inside.trail (ty_view c.args.left.now) (ty_view c.args.right.now)
    c.equate.new.accepted.items c.equate.new.trail c.equate.ensures)
