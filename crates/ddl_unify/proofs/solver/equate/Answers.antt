use Rattle.std.proofs.Common.{◌≡◌, refl, length, rules, subst, Bool, Ok, arith}
use Rattle.ddl_types.specs.TyView.{ty_view}
use Rattle.ddl_unify.specs.Solving.{Tried}
use Rattle.ddl_unify.specs.View.{equations}
use Rattle.ddl_unify.proofs.Undoing.{back_same, grows_long}
use Rattle.ddl_unify.proofs.Equating.{accepts_ok, clash_none}
use Rattle.ddl_unify.proofs.Refusing.{clash_refused}
use Rattle.ddl_unify.proofs.solver.equate.Goals as goal

pub returns-in-Err : goal.returns-in-Err
returns-in-Err c = (refl, refl, c.in-Err.ensures (equations c.args.accepted.now.items))

pub returns-in-Err-try_solve : goal.returns-in-Err-try_solve
returns-in-Err-try_solve c = (refl, c.in-Err-try_solve.ensures, tt)

pub returns-in-Ok-false : goal.returns-in-Ok-false
returns-in-Ok-false c =
    let P : Bool → Type 0 = λ b. Tried (Ok b) c.args.trail.now (ty_view c.args.left.now) (ty_view c.args.right.now) c.try_solve.new.trail in
    let s = subst P c.in-Ok-false.field-0-test c.in-Ok-false.ensures in
    let es = equations c.args.accepted.now.items in (
      refl,
      s.0,
      clash_refused c.clash.result es c.args.trail.now c.try_solve.new.trail (ty_view c.args.left.now) (ty_view c.args.right.now) s.0 c.clash.ensures
          (clash_none es c.args.trail.now (ty_view c.args.left.now) (ty_view c.args.right.now) c.requires.holding s.1) c.in-Ok.ensures,
    )

pub returns-in-Ok-push_copy : goal.returns-in-Ok-push_copy
returns-in-Ok-push_copy c =
    let P : Bool → Type 0 = λ b. Tried (Ok b) c.args.trail.now (ty_view c.args.left.now) (ty_view c.args.right.now) c.try_solve.new.trail in
    accepts_ok c.args.accepted.now.items c.push_copy.new.accepted.items c.args.trail.now c.try_solve.new.trail (ty_view c.args.left.now)
    (ty_view c.args.right.now) c.requires.holding (subst P c.in-Ok-true.field-0-test c.in-Ok-true.ensures) c.in-Ok-push_copy.ensures.done

pub undo-requires : goal.undo-requires
undo-requires c =
    let P : Bool → Type 0 = λ b. Tried (Ok b) c.args.trail.now (ty_view c.args.left.now) (ty_view c.args.right.now) c.try_solve.new.trail in
    let s = subst P c.in-Ok-true.field-0-test c.in-Ok-true.ensures in
    let n : c.len-n.result ≡ length c.args.trail.now.0 = search rules in
    omega (arith, n, grows_long c.args.trail.now c.try_solve.new.trail s.0)

pub returns-in-Err-push_copy : goal.returns-in-Err-push_copy
returns-in-Err-push_copy c =
    let P : Bool → Type 0 = λ b. Tried (Ok b) c.args.trail.now (ty_view c.args.left.now) (ty_view c.args.right.now) c.try_solve.new.trail in
    let s = subst P c.in-Ok-true.field-0-test c.in-Ok-true.ensures in
    let n : c.len-n.result ≡ length c.args.trail.now.0 = search rules in
    (c.in-Err-push_copy.ensures.same, back_same c.len-n.result c.args.trail.now c.try_solve.new.trail c.undo.new.self s.0 c.undo.ensures n, tt)
