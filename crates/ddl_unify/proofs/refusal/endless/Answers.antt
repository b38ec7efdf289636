use Rattle.ddl_types.specs.TyView.{ty_view}
use Rattle.ddl_unify.proofs.Refusing.{is_held}
use Rattle.ddl_unify.proofs.refusal.endless.Goals as goal

pub returns-in-Ok : goal.returns-in-Ok
returns-in-Ok c = λ l e. is_held c.args.trail.now l (ty_view c.args.right.now) (ty_view c.in-Ok.read) c.args.v c.in-Ok.ensures e c.requires
