use Rattle.std.proofs.Common.{◌∙◌, sym}
use Rattle.ddl_types.specs.TyView.{ty_view}
use Rattle.ddl_unify.proofs.Keeping.{turned_held, grows_same}
use Rattle.ddl_unify.proofs.solving.bind_checked.Goals as goal

pub bind-requires : goal.bind-requires
bind-requires c = record {
  free = c.requires.may.free;
  absent = sym c.in-Ok-false.ensures ∙ c.in-Ok-false.field-0-test;
  within = c.requires.may.within;
  below = c.requires.may.below;
}

pub returns-in-Ok-true : goal.returns-in-Ok-true
returns-in-Ok-true c = λ es b. turned_held c.args.trail.now c.args.v (ty_view c.args.t) es c.requires.con (sym c.in-Ok-true.ensures ∙ c.in-Ok-true.field-0-test)

pub returns-in-Err : goal.returns-in-Err
returns-in-Err c = λ es b. grows_same c.args.trail.now
