use Rattle.ddl_types.specs.TyView.{ty_view}
use Rattle.ddl_unify.proofs.refusal.refuse_held.Goals as goal

pub returns-in-Ok-None : goal.returns-in-Ok-None
returns-in-Ok-None c = rw c.in-Ok-None.field-0-is at c.in-Ok-None.ensures

pub endless-requires : goal.endless-requires
endless-requires c = let h = rw c.in-Ok-Some.field-0-is at c.in-Ok-Some.ensures in h.1

pub returns-in-Ok-Some : goal.returns-in-Ok-Some
returns-in-Ok-Some c = let h = rw c.in-Ok-Some.field-0-is at c.in-Ok-Some.ensures in c.endless.ensures (ty_view c.args.left.now) h.0
