use Rattle.std.proofs.Common.{◌∙◌, Bool, sym, subst}
use Rattle.ddl_types.specs.TyView.{ty_view}
use Rattle.ddl_judging.specs.Judging.{same, later, never}
use Rattle.ddl_judging.specs.Refuting.{IsMeeting}
use Rattle.ddl_judging.proofs.Alike.{same_true, same_false}
use Rattle.ddl_judging.proofs.equality.equality.Goals as goal

pub returns-then-same : goal.returns-then-same
returns-then-same c = same (same_true (ty_view c.args.from) (ty_view c.args.to) (sym c.same.ensures ∙ c.if-same.true))

pub returns-then-branch : goal.returns-then-branch
returns-then-branch c =
    let P : Bool → Type 0 = λ b. IsMeeting (ty_view c.args.from) (ty_view c.args.to) b in
    later (same_false (ty_view c.args.from) (ty_view c.args.to) (sym c.same.ensures ∙ c.if-same.false)) (subst P c.if-branch.true c.in_ok-can_be_equal.ensures)

pub returns : goal.returns
returns c =
    let P : Bool → Type 0 = λ b. IsMeeting (ty_view c.args.from) (ty_view c.args.to) b in
    never (subst P c.if-branch.false c.in_ok-can_be_equal.ensures)
