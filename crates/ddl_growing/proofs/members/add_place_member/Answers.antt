use Rattle.ddl_types.specs.TyView.{ty_view}
use Rattle.ddl_unify.specs.State.{variables}
use Rattle.ddl_judging.specs.Views.{shapes_view}
use Rattle.ddl_growing.proofs.Places.{place_below, place_vars_below}
use Rattle.ddl_growing.proofs.members.add_place_member.Goals as goal

pub add_own-requires-clause-member_below : goal.add_own-requires-clause-member_below
add_own-requires-clause-member_below c =
    place_below (shapes_view c.args.shapes.now) (variables c.args.solver.now) c.args.tagged c.args.sought.name.now c.args.number
    (ty_view c.in-Some.member.of.now) c.in-Some.member.vars c.requires.shapes c.in-Some.ensures.0 c.in-Some.ensures.1 c.if-member-eq0.true

pub add_at_fresh-requires-clause-member_below : goal.add_at_fresh-requires-clause-member_below
add_at_fresh-requires-clause-member_below c =
    place_vars_below (shapes_view c.args.shapes.now) (variables c.args.solver.now) c.args.tagged c.args.sought.name.now c.args.number
    (ty_view c.in-Some.member.of.now) c.in-Some.member.vars c.requires.shapes c.in-Some.ensures.0 c.in-Some.ensures.1 c.if-member-eq0.false
