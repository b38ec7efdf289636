use Rattle.std.proofs.Common.{rules, refl}
use Rattle.ddl_types.proofs.TyLayers.{layers}
use Rattle.ddl_types.specs.TyView.{ty_view}
use Rattle.ddl_growing.specs.SolverView.{solved}
use Rattle.ddl_growing.proofs.Sided.{map_below, map_carried}
use Rattle.ddl_growing.proofs.loops.add_map_turns.Goals as goal

pub add_three-requires : goal.add_three-requires
add_three-requires c = record {
  below = map_below (ty_view c.in_ok-map.map) (ty_view c.args.form.over.now) _ (ty_view c.args.form.key.now) _ (ty_view c.args.form.value.now)
      c.in_ok-of_key.of_key c.in_ok-of_value.of_value (solved c.args.solver.now) (solved c.fresh_variable.new.solver) (solved c.fresh_variable-2.new.solver)
      c.in_ok-map.ensures (search (rules, layers)) (search (rules, layers)) c.in_ok-of_key.ensures.variable c.in_ok-of_value.ensures.variable
      c.in_ok-of_key.ensures.added c.in_ok-of_value.ensures.added c.requires.over_below c.requires.key_below c.requires.value_below;
}

pub returns-clause-added : goal.returns-clause-added
returns-clause-added c =
    map_carried (ty_view c.in_ok-map.map) (ty_view c.args.form.over.now) _ (ty_view c.args.form.key.now) _ (ty_view c.args.form.value.now) c.in_ok-of_key.of_key
    c.in_ok-of_value.of_value c.args.span (solved c.args.solver.now) (solved c.fresh_variable.new.solver) (solved c.fresh_variable-2.new.solver)
    (solved c.add_three.new.solver) c.add_three.result c.in_ok-map.ensures (search (rules, layers)) (search (rules, layers)) c.in_ok-of_key.ensures.variable
    c.in_ok-of_value.ensures.variable c.in_ok-of_key.ensures.added c.in_ok-of_value.ensures.added c.add_three.ensures.added
