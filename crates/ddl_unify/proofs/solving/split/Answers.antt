use Rattle.std.proofs.Common.{List, sym, ◌∙◌, subst}
use Rattle.ddl_types.specs.TyView.{ty_view}
use Rattle.ddl_unify.specs.Equations.{Equation}
use Rattle.ddl_unify.specs.Solving.{Split}
use Rattle.ddl_unify.specs.View.{equations}
use Rattle.ddl_unify.proofs.Parts.{apart, split}
use Rattle.ddl_unify.proofs.solving.split.Goals as goal

pub returns-then-not-is_alike : goal.returns-then-not-is_alike
returns-then-not-is_alike c = apart (ty_view c.args.left) (ty_view c.args.right) c.requires.left_con c.requires.right_con (sym c.is_alike.ensures
    ∙ c.if-not-is_alike.true)

pub returns : goal.returns
returns c =
    let P : List Equation → Type 0 = λ es. Split (ty_view c.args.left) (ty_view c.args.right) (equations c.args.stack.now.items) es in
    subst P (sym c.in_ok-push_parts.ensures) (split (ty_view c.args.left) (ty_view c.args.right) (equations c.args.stack.now.items) c.requires.left_con
    c.requires.right_con (sym c.is_alike.ensures ∙ c.if-not-is_alike.false))
