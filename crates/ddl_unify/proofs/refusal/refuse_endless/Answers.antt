use Rattle.ddl_types.specs.TyView.{ty_view}
use Rattle.ddl_unify.specs.Trails.{solution}
use Rattle.ddl_unify.proofs.Refusing.{endless_left, endless_right}
use Rattle.ddl_unify.proofs.refusal.refuse_endless.Goals as goal

pub returns-in-Ok : goal.returns-in-Ok
returns-in-Ok c =
    endless_right c.refuse_held-in-Ok.result (solution c.args.trail.now) (ty_view c.args.left.now) (ty_view c.args.right.now) c.in-Ok.ensures
    c.refuse_held-in-Ok.ensures

pub returns-in-Err : goal.returns-in-Err
returns-in-Err c = endless_left c.in-Err.e (solution c.args.trail.now) (ty_view c.args.left.now) (ty_view c.args.right.now) c.in-Err.ensures
