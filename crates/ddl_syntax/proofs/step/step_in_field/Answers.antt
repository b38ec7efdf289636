use Rattle.std.proofs.Common.{◌≤◌, ◌+◌, subst, arith}
use Rattle.ddl_states.specs.FocusView.{field_focus_view}
use Rattle.ddl_states.specs.Heights.{coming, height}
use Rattle.ddl_states.specs.StackView.{forms}
use Rattle.ddl_states.proofs.HeightsOf.{height_most}
use Rattle.ddl_syntax.proofs.step.step_in_field.Goals as goal

pub shape-requires : goal.shape-requires
shape-requires c =
    let fs = forms c.args.stack.now in
    let at : height fs (1 + c.in-Shape.value.deep) ≤ 400 = subst (λ f. height fs (coming (field_focus_view f)) ≤ 400) c.in-Shape.is c.requires in
    omega (arith, height_most fs (1 + c.in-Shape.value.deep))

pub select-requires : goal.select-requires
select-requires c =
    let fs = forms c.args.stack.now in
    let at : height fs (1 + c.in-Select.value.deep) ≤ 400 = subst (λ f. height fs (coming (field_focus_view f)) ≤ 400) c.in-Select.is c.requires in
    omega (arith, height_most fs (1 + c.in-Select.value.deep))
