use Rattle.std.proofs.Common.{Bool, true, Ok, rules, ◌≡◌, length, subst}
use Rattle.ddl_types.specs.TyView.{ty_view}
use Rattle.ddl_unify.specs.Solving.{Turned}
use Rattle.ddl_unify.specs.View.{equations}
use Rattle.ddl_unify.proofs.Comparing.{on_true, turned_known, remembered_step, step_awaited, equations_long}
use Rattle.ddl_unify.proofs.solving.compare.Goals as goal

pub returns-then-knows-clause-step : goal.returns-then-knows-clause-step
returns-then-knows-clause-step c =
    turned_known c.args.compared.now c.args.trail.now (equations c.args.stack.now.items) (ty_view c.args.pair.left) (ty_view c.args.pair.right) c.args.left
    c.args.right c.requires.left c.requires.right
    (on_true c.knows.result _ c.knows.ensures c.if-knows.true) c.requires.remembers c.requires.below.2

pub returns-then-knows-clause-remembers : goal.returns-then-knows-clause-remembers
returns-then-knows-clause-remembers c =
    remembered_step (Ok true) c.args.compared.now c.args.trail.now (equations c.args.stack.now.items) (ty_view c.args.pair.left) (ty_view c.args.pair.right)
    c.args.trail.now (equations c.args.stack.now.items) (returns-then-knows-clause-step c) c.requires.remembers

pub returns-in-Ok-clause-step : goal.returns-in-Ok-clause-step
returns-in-Ok-clause-step c =
    let P : Bool → Type 0 = λ b. Turned (Ok b) c.args.trail.now (equations c.args.stack.now.items) (ty_view c.args.pair.left) (ty_view c.args.pair.right)
    c.step.new.trail (equations c.step.new.stack.items) in
    subst P c.in-Ok-true.field-0-test c.in-Ok-true.ensures

pub returns-in-Ok-clause-remembers : goal.returns-in-Ok-clause-remembers
returns-in-Ok-clause-remembers c =
    let P : Bool → Type 0 = λ b. Turned (Ok b) c.args.trail.now (equations c.args.stack.now.items) (ty_view c.args.pair.left) (ty_view c.args.pair.right)
    c.step.new.trail (equations c.step.new.stack.items) in
    let s = subst P c.in-Ok-true.field-0-test c.in-Ok-true.ensures in
    let n : c.len-above.result ≡ length c.args.stack.now.items = search rules in
    c.in-Ok.ensures c.step.new.trail.0 (equations c.step.new.stack.items)
    (remembered_step (Ok true) c.args.compared.now c.args.trail.now (equations c.args.stack.now.items) (ty_view c.args.pair.left) (ty_view c.args.pair.right)
    c.step.new.trail (equations c.step.new.stack.items) s c.requires.remembers)
    (step_awaited c.args.trail.now (equations c.args.stack.now.items) (ty_view c.args.pair.left) (ty_view c.args.pair.right) c.args.left c.args.right
    c.step.new.trail (equations c.step.new.stack.items) c.len-above.result c.requires.left c.requires.right
    (equations_long c.args.stack.now.items c.len-above.result n) s)

pub returns-in-Err-await_parts-clause-step : goal.returns-in-Err-await_parts-clause-step
returns-in-Err-await_parts-clause-step c =
    let P : Bool → Type 0 = λ b. Turned (Ok b) c.args.trail.now (equations c.args.stack.now.items) (ty_view c.args.pair.left) (ty_view c.args.pair.right)
    c.step.new.trail (equations c.step.new.stack.items) in
    (subst P c.in-Ok-true.field-0-test c.in-Ok-true.ensures).0

pub returns-in-Ok-false-clause-step : goal.returns-in-Ok-false-clause-step
returns-in-Ok-false-clause-step c =
    let P : Bool → Type 0 = λ b. Turned (Ok b) c.args.trail.now (equations c.args.stack.now.items) (ty_view c.args.pair.left) (ty_view c.args.pair.right)
    c.step.new.trail (equations c.step.new.stack.items) in
    subst P c.in-Ok-false.field-0-test c.in-Ok-false.ensures
