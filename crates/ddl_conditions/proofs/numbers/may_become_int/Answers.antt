use Rattle.std.proofs.Common.{◌≡◌, sym, ◌∙◌, Some, None, arith}
use Rattle.ddl_types.specs.TyView.{ty_view}
use Rattle.ddl_unify.specs.Occurs.{is_var}
use Rattle.ddl_unify.specs.State.{solution}
use Rattle.ddl_conditions.specs.GroupView.{group_view}
use Rattle.ddl_conditions.proofs.Freeing.{may_become, never_int}
use Rattle.ddl_conditions.proofs.numbers.may_become_int.Goals as goal

pub returns-in_ok-kept-in-Some : goal.returns-in_ok-kept-in-Some
returns-in_ok-kept-in-Some c =
    may_become (group_view c.args.group.now) (solution c.args.solver.now) (ty_view c.args.of.now) (ty_view c.head.result.now) c.in-Some.variable
    c.in_ok-kept-in-Some.kept (sym c.variable.ensures ∙ c.in-Some.is) c.head.ensures.same c.head.ensures.free c.in_ok-kept-in-Some.ensures

pub returns-in-None : goal.returns-in-None
returns-in-None c =
    never_int (group_view c.args.group.now) (solution c.args.solver.now) (ty_view c.args.of.now) (ty_view c.head.result.now) (sym c.variable.ensures
    ∙ c.in-None.is) c.head.ensures.same
