use Rattle.std.proofs.Common.{◌≤◌, ◌+◌, max, subst, arith}
use Rattle.ddl_reader.specs.Depths.{around}
use Rattle.ddl_states.specs.FrameView.{type_frame_view}
use Rattle.ddl_states.specs.Heights.{height}
use Rattle.ddl_states.specs.StackView.{forms}
use Rattle.ddl_states.proofs.HeightsOf.{height_most}
use Rattle.ddl_syntax.proofs.after_step.after_type_part.Goals as goal

pub after_paren_type-requires : goal.after_paren_type-requires
after_paren_type-requires c =
    let fs = forms c.args.stack.now in
    let deep = 1 + max c.in-Paren.inner.deep c.args.part.deep in
    let at : height fs deep ≤ 400 = subst (λ f. height fs (around (type_frame_view f) c.args.part.deep) ≤ 400) c.in-Paren.is c.requires in
    omega (arith, height_most fs deep)
