use Rattle.ddl_types.specs.TyView.{ty_view}
use Rattle.ddl_unify.specs.State.{variables}
use Rattle.ddl_growing.specs.SolverView.{solved}
use Rattle.ddl_growing.proofs.Places.{own_both_below, own_carried}
use Rattle.ddl_growing.proofs.members.add_own.Goals as goal

pub add_two-requires : goal.add_two-requires
add_two-requires c = record {
  below = own_both_below c.args.number c.new.result.items (ty_view c.place_type-place.result) (ty_view c.args.member.now) (ty_view c.args.sought.of.now)
      (ty_view c.args.sought.result.now) (variables c.args.solver.now) c.place_type-place.ensures c.new.ensures.items c.requires.member_below
      c.requires.of_below c.requires.result_below;
}

pub returns-clause-added : goal.returns-clause-added
returns-clause-added c =
    own_carried c.args.number c.new.result.items (ty_view c.place_type-place.result) (ty_view c.args.member.now) (ty_view c.args.sought.of.now)
    (ty_view c.args.sought.result.now) (variables c.args.solver.now) c.args.span (solved c.args.solver.now) (solved c.add_two.new.solver) c.add_two.result
    c.place_type-place.ensures c.new.ensures.items c.add_two.ensures.added
