use Rattle.std.proofs.Common.{rules, refl}
use Rattle.ddl_types.proofs.TyLayers.{layers}
use Rattle.ddl_types.specs.TyView.{ty_view}
use Rattle.ddl_growing.specs.SolverView.{solved}
use Rattle.ddl_growing.proofs.Sided.{bytes_below, bytes_carried}
use Rattle.ddl_growing.proofs.keys.add_byte_array.Goals as goal

pub add_two-requires : goal.add_two-requires
add_two-requires c = record {
  below = bytes_below (ty_view c.in_ok-array.array) (ty_view c.args.of.now) _ _ c.in_ok-variable.variable (solved c.args.solver.now)
      (solved c.fresh_variable.new.solver) c.in_ok-array.ensures (search (rules, layers)) (search (rules, layers)) c.in_ok-variable.ensures.variable
      c.in_ok-variable.ensures.added c.requires.below;
}

pub returns-clause-added : goal.returns-clause-added
returns-clause-added c =
    bytes_carried (ty_view c.in_ok-array.array) (ty_view c.args.of.now) _ _ c.in_ok-variable.variable c.args.span (solved c.args.solver.now)
    (solved c.fresh_variable.new.solver) (solved c.add_two.new.solver) c.add_two.result c.in_ok-array.ensures (search (rules, layers))
    (search (rules, layers)) c.in_ok-variable.ensures.variable c.in_ok-variable.ensures.added c.add_two.ensures.added
