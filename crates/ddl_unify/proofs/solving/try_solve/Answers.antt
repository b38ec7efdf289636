use Rattle.std.proofs.Common.{◌≡◌, ◌∷◌, [], length, rules, subst, Bool, Ok, arith}
use Rattle.ddl_types.specs.TyView.{ty_view}
use Rattle.ddl_unify.specs.Equations.{equal}
use Rattle.ddl_unify.specs.Solving.{Settled}
use Rattle.ddl_unify.proofs.Undoing.{back_same, grows_long}
use Rattle.ddl_unify.proofs.solving.try_solve.Goals as goal

pub returns-in-Ok-true : goal.returns-in-Ok-true
returns-in-Ok-true c =
    let P : Bool → Type 0 = λ b. Settled (Ok b) c.args.trail.now (equal (ty_view c.args.left.now) (ty_view c.args.right.now) ∷ []) c.solve_one.new.trail in
    let s = subst P c.in-Ok-true.field-0-test c.in-Ok-true.ensures in (s.0, c.law.ensures.sound, s.1)

pub undo-requires : goal.undo-requires
undo-requires c =
    let P : Bool → Type 0 = λ b. Settled (Ok b) c.args.trail.now (equal (ty_view c.args.left.now) (ty_view c.args.right.now) ∷ []) c.solve_one.new.trail in
    let s = subst P c.in-Ok-false.field-0-test c.in-Ok-false.ensures in
    let n : c.len-n.result ≡ length c.args.trail.now.0 = search rules in
    omega (arith, n, grows_long c.args.trail.now c.solve_one.new.trail s.0)

pub returns-in-Ok-false : goal.returns-in-Ok-false
returns-in-Ok-false c =
    let P : Bool → Type 0 = λ b. Settled (Ok b) c.args.trail.now (equal (ty_view c.args.left.now) (ty_view c.args.right.now) ∷ []) c.solve_one.new.trail in
    let s = subst P c.in-Ok-false.field-0-test c.in-Ok-false.ensures in
    let n : c.len-n.result ≡ length c.args.trail.now.0 = search rules in
    (back_same c.len-n.result c.args.trail.now c.solve_one.new.trail c.undo.new.self s.0 c.undo.ensures n, λ f a q. s.1 f a (q, tt))

pub undo-requires-in-Err : goal.undo-requires-in-Err
undo-requires-in-Err c =
    let n : c.len-n.result ≡ length c.args.trail.now.0 = search rules in omega (arith, n, grows_long c.args.trail.now c.solve_one.new.trail c.in-Err.ensures)

pub returns-in-Err : goal.returns-in-Err
returns-in-Err c =
    let n : c.len-n.result ≡ length c.args.trail.now.0 = search rules in
    back_same c.len-n.result c.args.trail.now c.solve_one.new.trail c.undo-in-Err.new.self c.in-Err.ensures c.undo-in-Err.ensures n
