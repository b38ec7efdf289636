use Rattle.std.proofs.lemmas.Result.{IfOk-weaker}
use Rattle.ddl_types.specs.Types.{Ty.var}
use Rattle.ddl_types.specs.TyView.{ty_view}
use Rattle.ddl_unify.specs.Solving.{Held}
use Rattle.ddl_unify.proofs.Refusing.{held_con, held_like}
use Rattle.ddl_unify.proofs.refusal.held.Goals as goal

pub returns-in-None : goal.returns-in-None
returns-in-None c = held_con c.args.trail.now (ty_view c.args.left.now) (ty_view c.args.right.now) c.in-None.ensures

pub returns-in-Some : goal.returns-in-Some
returns-in-Some c =
    IfOk-weaker c.held_in.result (Held c.args.trail.now (var c.in-Some.v) (ty_view c.args.right.now))
    (Held c.args.trail.now (ty_view c.args.left.now) (ty_view c.args.right.now)) (λ o h.
    held_like o c.args.trail.now (ty_view c.args.left.now) (ty_view c.args.right.now) c.in-Some.v c.in-Some.ensures h) c.held_in.ensures
