use Rattle.std.proofs.Common.{◌≡◌, [], ap, List, rules}
use Rattle.ddl_types.specs.declared.ty.Ty as program
use Rattle.ddl_types.specs.TyView.{ty_view}
use Rattle.ddl_unify.specs.State.{solution}
use Rattle.ddl_judging.specs.Views.{shapes_view}
use Rattle.ddl_schemes.specs.FoundView.{found_view, waiting}
use Rattle.ddl_schemes.specs.Order.{Seen}
use Rattle.ddl_schemes.proofs.Owing.{owed_walked}
use Rattle.ddl_schemes.proofs.Stacks.{waiting_last}
use Rattle.ddl_schemes.proofs.Stepping.{walked_on, walked_out}
use Rattle.ddl_schemes.proofs.walk.walk.Goals as goal

pub loop-t-smaller : goal.loop-t-smaller
loop-t-smaller c =
    let last = waiting_last c.pop.new.self.items c.loop-t.stack.items c.in-Some.t c.in-Some.ensures.items in
    owed_walked (shapes_view c.args.shapes.now) (solution c.args.solver.now) (found_view c.loop-t.found) (found_view c.step.new.found) (ty_view c.in-Some.t)
    (waiting c.loop-t.stack.items) (waiting c.pop.new.self.items) (waiting c.step.new.stack.items) last c.in_ok-step.ensures.found
    c.in_ok-step.ensures.stack

pub loop-t-preserved : goal.loop-t-preserved
loop-t-preserved c =
    let last = waiting_last c.pop.new.self.items c.loop-t.stack.items c.in-Some.t c.in-Some.ensures.items in
    λ z w. c.loop-t.invariant z (walked_on (shapes_view c.args.shapes.now) (solution c.args.solver.now) (ty_view c.in-Some.t) (waiting c.loop-t.stack.items)
    (waiting c.pop.new.self.items) (waiting c.step.new.stack.items) (found_view c.loop-t.found) (found_view c.step.new.found) z last
    c.in_ok-step.ensures.found c.in_ok-step.ensures.stack w)

pub returns : goal.returns
returns c =
    let e : c.loop-t.stack.items ≡ [] = search rules in
    let s : Seen = found_view c.loop-t.found in
    c.loop-t.invariant s (walked_out (shapes_view c.args.shapes.now) (solution c.args.solver.now) (waiting c.loop-t.stack.items) s
    (ap (λ (ts : List program.Ty). waiting ts) e))
