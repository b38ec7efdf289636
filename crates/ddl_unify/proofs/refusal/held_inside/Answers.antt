use Rattle.std.proofs.Common.{◌∙◌, sym}
use Rattle.ddl_types.specs.TyView.{ty_view}
use Rattle.ddl_unify.proofs.Refusing.{held_yes, held_no}
use Rattle.ddl_unify.proofs.refusal.held_inside.Goals as goal

pub returns-in-Ok-true : goal.returns-in-Ok-true
returns-in-Ok-true c =
    held_yes c.args.trail.now c.args.v (ty_view c.args.right.now) c.requires.free c.requires.con (sym c.in-Ok-true.ensures ∙ c.in-Ok-true.field-0-test)

pub returns-in-Ok-false : goal.returns-in-Ok-false
returns-in-Ok-false c =
    held_no c.args.trail.now c.args.v (ty_view c.args.right.now) c.requires.free (sym c.in-Ok-false.ensures ∙ c.in-Ok-false.field-0-test)
