use Rattle.std.proofs.Common.{rules, subst, sym, ap, length, List, ◌∙◌}
use Rattle.ddl_types.specs.Types.{Below}
use Rattle.ddl_types.specs.TyView.{ty_view}
use Rattle.ddl_growing.specs.SolverView.{solved}
use Rattle.ddl_growing.proofs.Places.{fresh_both_below, fresh_carried}
use Rattle.ddl_growing.proofs.members.add_at_fresh.Goals as goal

pub apply-requires : goal.apply-requires
apply-requires c = record {
  below = subst (λ k. Below (ty_view c.args.member.of.now) k) (sym (ap length c.deref.ensures.value ∙ c.in_ok-arguments.ensures.long))
      c.requires.member_below;
}

pub add_two-requires : goal.add_two-requires
add_two-requires c = record {
  below = fresh_both_below c.args.number c.args.member.vars c.in_ok-arguments.arguments.items c.deref.result.now (ty_view c.place_type-place.result)
      (ty_view c.in_ok-applied.applied) (ty_view c.args.member.of.now) (ty_view c.args.sought.of.now) (ty_view c.args.sought.result.now)
      (solved c.args.solver.now) (solved c.fresh_variables.new.solver) c.place_type-place.ensures c.in_ok-applied.ensures c.deref.ensures.value
      c.in_ok-arguments.ensures.types c.requires.member_below c.requires.some c.in_ok-arguments.ensures.added c.requires.of_below c.requires.result_below;
}

pub returns-clause-added : goal.returns-clause-added
returns-clause-added c =
    fresh_carried c.args.number c.args.member.vars c.in_ok-arguments.arguments.items c.deref.result.now (ty_view c.place_type-place.result)
    (ty_view c.in_ok-applied.applied) (ty_view c.args.member.of.now) (ty_view c.args.sought.of.now) (ty_view c.args.sought.result.now) c.args.span
    (solved c.args.solver.now) (solved c.fresh_variables.new.solver) (solved c.add_two.new.solver) c.add_two.result c.place_type-place.ensures
    c.in_ok-applied.ensures c.deref.ensures.value c.in_ok-arguments.ensures.types c.requires.member_below c.requires.some c.in_ok-arguments.ensures.added
    c.add_two.ensures.added
