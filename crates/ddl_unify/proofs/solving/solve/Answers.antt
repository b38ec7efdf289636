use Rattle.std.proofs.Common.{◌≡◌, ap, subst, List, Bool, [], arith, Ok}
use Rattle.std.proofs.lemmas.Grind.{common_steps}
use Rattle.ddl_types.specs.TyView.{ty_view}
use Rattle.ddl_unify.specs.Equations.{Equation}
use Rattle.ddl_unify.specs.Comparing.{Remembers, Remembered}
use Rattle.ddl_unify.specs.Solving.{Turned}
use Rattle.ddl_unify.specs.View.{equations, pair_view}
use Rattle.ddl_unify.proofs.Parts.{equations_last}
use Rattle.ddl_unify.proofs.Keeping.{grows_then}
use Rattle.ddl_unify.proofs.Going.{going_first, going_below, going_next, going_stop, going_done, going_smaller}
use Rattle.ddl_unify.proofs.solving.solve.Goals as goal

pub loop-pair-init : goal.loop-pair-init
loop-pair-init c = record { going = going_first c.args.trail.now (equations c.args.stack.now.items) c.requires.below; remembers = c.requires.remembers }

pub turn-requires-clause-below : goal.turn-requires-clause-below
turn-requires-clause-below c = going_below _ _ c.loop-pair.trail (equations c.loop-pair.stack.items) (equations c.pop.new.self.items) (pair_view c.in-Some.pair)
    c.loop-pair.invariant.going (equations_last c.pop.new.self.items c.loop-pair.stack.items c.in-Some.pair c.in-Some.ensures.items)

pub turn-requires-clause-remembers : goal.turn-requires-clause-remembers
turn-requires-clause-remembers c =
    let P : List Equation → Type 0 = λ z. Remembers c.loop-pair.compared c.loop-pair.trail.0 z
    in subst P (equations_last c.pop.new.self.items c.loop-pair.stack.items c.in-Some.pair c.in-Some.ensures.items) c.loop-pair.invariant.remembers

pub loop-pair-preserved : goal.loop-pair-preserved
loop-pair-preserved c =
    let P : Bool → Type 0 = λ b. Turned (Ok b) c.loop-pair.trail (equations c.pop.new.self.items) (ty_view c.in-Some.pair.left) (ty_view c.in-Some.pair.right)
    c.turn.new.trail (equations c.turn.new.stack.items) in
    let Q : Bool → Type 0 = λ b. Remembered (Ok b) c.turn.new.compared c.turn.new.trail.0 (equations c.turn.new.stack.items) in
    record {
      going = going_next _ _ c.loop-pair.trail (equations c.loop-pair.stack.items) (equations c.pop.new.self.items) (pair_view c.in-Some.pair) c.turn.new.trail
          (equations c.turn.new.stack.items) c.loop-pair.invariant.going
          (equations_last c.pop.new.self.items c.loop-pair.stack.items c.in-Some.pair c.in-Some.ensures.items)
          (subst P c.in-Ok-true.field-0-test c.in-Ok-true.ensures.step);
      remembers = subst Q c.in-Ok-true.field-0-test c.in-Ok-true.ensures.remembers;
    }

pub loop-pair-smaller : goal.loop-pair-smaller
loop-pair-smaller c =
    let P : Bool → Type 0 = λ b. Turned (Ok b) c.loop-pair.trail (equations c.pop.new.self.items) (ty_view c.in-Some.pair.left) (ty_view c.in-Some.pair.right)
    c.turn.new.trail (equations c.turn.new.stack.items) in
    going_smaller c.loop-pair.trail (equations c.loop-pair.stack.items) (equations c.pop.new.self.items) (pair_view c.in-Some.pair) c.turn.new.trail
    (equations c.turn.new.stack.items) (equations_last c.pop.new.self.items c.loop-pair.stack.items c.in-Some.pair c.in-Some.ensures.items)
    (subst P c.in-Ok-true.field-0-test c.in-Ok-true.ensures.step)

pub returns-in-Ok-false : goal.returns-in-Ok-false
returns-in-Ok-false c =
    let P : Bool → Type 0 = λ b. Turned (Ok b) c.loop-pair.trail (equations c.pop.new.self.items) (ty_view c.in-Some.pair.left) (ty_view c.in-Some.pair.right)
    c.turn.new.trail (equations c.turn.new.stack.items) in
    going_stop _ _ c.loop-pair.trail (equations c.loop-pair.stack.items) (equations c.pop.new.self.items) (pair_view c.in-Some.pair) c.turn.new.trail
    (equations c.turn.new.stack.items) c.loop-pair.invariant.going
    (equations_last c.pop.new.self.items c.loop-pair.stack.items c.in-Some.pair c.in-Some.ensures.items)
    (subst P c.in-Ok-false.field-0-test c.in-Ok-false.ensures.step)

pub returns-in-Err : goal.returns-in-Err
returns-in-Err c = grows_then c.args.trail.now c.loop-pair.trail c.turn.new.trail c.loop-pair.invariant.going.grows c.in-Err.ensures.step

pub returns : goal.returns
returns c =
    let v = c.in_default.ensures.variant in
    let e : c.loop-pair.stack.items ≡ [] = grind (arith, common_steps) in
    going_done _ _ c.loop-pair.trail (equations c.loop-pair.stack.items) c.loop-pair.invariant.going (ap equations e)
