use Rattle.std.proofs.Common.{refl, None, Some}
use Rattle.ddl_types.specs.TyView.{ty_view}
use Rattle.ddl_unify.specs.State.{variables}
use Rattle.ddl_growing.specs.Giving.{of_bits}
use Rattle.ddl_judging.specs.Shapes.{bits_at, found}
use Rattle.ddl_growing.specs.SolverView.{solved}
use Rattle.ddl_judging.specs.Views.{shapes_view}
use Rattle.ddl_growing.proofs.Places.{bits_as, bits_below, carried_as, carried_nothing}
use Rattle.ddl_growing.proofs.members.add_bits_member.Goals as goal

pub add-requires : goal.add-requires
add-requires c = record {
  below = (
    bits_below c.args.shapes.now (variables c.args.solver.now) c.args.tagged c.args.sought.name.now c.args.number (ty_view c.in-Some.of.now)
        c.requires.shapes c.in-Some.ensures,
    c.requires.result_below,
    tt,
  );
}
