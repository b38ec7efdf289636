use Rattle.ddl_types.specs.TyView.{ty_view}
use Rattle.ddl_unify.proofs.Refusing.{held_var}
use Rattle.ddl_unify.proofs.refusal.held_in.Goals as goal

pub returns-in-Some : goal.returns-in-Some
returns-in-Some c = held_var c.args.trail.now c.args.v c.in-Some._w (ty_view c.args.right.now) c.in-Some.ensures
