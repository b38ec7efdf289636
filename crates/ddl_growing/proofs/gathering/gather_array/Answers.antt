use Rattle.std.proofs.Common.{rules, refl}
use Rattle.ddl_types.proofs.TyLayers.{layers}
use Rattle.ddl_types.specs.TyView.{ty_view}
use Rattle.ddl_growing.specs.SolverView.{solved}
use Rattle.ddl_growing.proofs.Sided.{array_gather_below, array_gathered}
use Rattle.ddl_growing.proofs.gathering.gather_array.Goals as goal

pub add_four-requires : goal.add_four-requires
add_four-requires c = record {
  below = array_gather_below (ty_view c.in_ok-array.array) (ty_view c.args.form.over.now) _ (ty_view c.args.form.key.now) _ (ty_view c.args.form.value.now)
      (ty_view c.in_ok-made.made) (ty_view c.args.body.now) (ty_view c.in_ok-copied.copied) (ty_view c.args.whole.now) c.in_ok-variable.variable
      (solved c.args.solver.now) (solved c.fresh_variable.new.solver) c.in_ok-array.ensures (search (rules, layers)) (search (rules, layers))
      c.in_ok-made.ensures c.in_ok-copied.ensures c.in_ok-variable.ensures.variable c.in_ok-variable.ensures.added c.requires.over_below c.requires.key_below
      c.requires.value_below c.requires.body_below c.requires.whole_below;
}

pub returns-clause-added : goal.returns-clause-added
returns-clause-added c =
    array_gathered (ty_view c.in_ok-array.array) (ty_view c.args.form.over.now) _ (ty_view c.args.form.key.now) _ (ty_view c.args.form.value.now)
    (ty_view c.in_ok-made.made) (ty_view c.args.body.now) (ty_view c.in_ok-copied.copied) (ty_view c.args.whole.now) c.in_ok-variable.variable c.args.span
    (solved c.args.solver.now) (solved c.fresh_variable.new.solver) (solved c.add_four.new.solver) c.add_four.result c.in_ok-array.ensures
    (search (rules, layers)) (search (rules, layers)) c.in_ok-made.ensures c.in_ok-copied.ensures c.in_ok-variable.ensures.variable
    c.in_ok-variable.ensures.added c.add_four.ensures.added
