use Rattle.ddl_types.specs.TyView.{ty_view}
use Rattle.ddl_unify.proofs.refusal.clash.Goals as goal

pub returns-in-Ok : goal.returns-in-Ok
returns-in-Ok c = c.clash_with.ensures (ty_view c.args.left.now) c.in-Ok.ensures
