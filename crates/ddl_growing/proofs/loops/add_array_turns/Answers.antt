use Rattle.std.proofs.Common.{rules, refl}
use Rattle.ddl_types.proofs.TyLayers.{layers}
use Rattle.ddl_types.specs.TyView.{ty_view}
use Rattle.ddl_growing.specs.SolverView.{solved}
use Rattle.ddl_growing.proofs.Sided.{array_below, array_carried}
use Rattle.ddl_growing.proofs.loops.add_array_turns.Goals as goal

pub add_three-requires : goal.add_three-requires
add_three-requires c = record {
  below = array_below (ty_view c.in_ok-array.array) (ty_view c.args.form.over.now) _ (ty_view c.args.form.key.now) _ (ty_view c.args.form.value.now)
      c.in_ok-variable.variable (solved c.args.solver.now) (solved c.fresh_variable.new.solver) c.in_ok-array.ensures (search (rules, layers))
      (search (rules, layers)) c.in_ok-variable.ensures.variable c.in_ok-variable.ensures.added c.requires.over_below c.requires.key_below
      c.requires.value_below;
}

pub returns-clause-added : goal.returns-clause-added
returns-clause-added c =
    array_carried (ty_view c.in_ok-array.array) (ty_view c.args.form.over.now) _ (ty_view c.args.form.key.now) _ (ty_view c.args.form.value.now)
    c.in_ok-variable.variable c.args.span (solved c.args.solver.now) (solved c.fresh_variable.new.solver) (solved c.add_three.new.solver) c.add_three.result
    c.in_ok-array.ensures (search (rules, layers)) (search (rules, layers)) c.in_ok-variable.ensures.variable c.in_ok-variable.ensures.added
    c.add_three.ensures.added
