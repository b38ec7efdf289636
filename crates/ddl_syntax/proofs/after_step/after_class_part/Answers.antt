use Rattle.std.proofs.Common.{◌≤◌, ◌+◌, subst, arith}
use Rattle.ddl_reader.specs.Depths.{around}
use Rattle.ddl_states.specs.FrameView.{class_frame_view}
use Rattle.ddl_states.specs.Heights.{height}
use Rattle.ddl_states.specs.StackView.{forms}
use Rattle.ddl_states.proofs.HeightsOf.{height_most}
use Rattle.ddl_syntax.proofs.after_step.after_class_part.Goals as goal

pub after_set-requires : goal.after_set-requires
after_set-requires c =
    let fs = forms c.args.stack.now in
    let at : height fs (1 + c.args.part.deep) ≤ 400 = subst (λ f. height fs (around (class_frame_view f) c.args.part.deep) ≤ 400) c.in-Atom.is c.requires in
    omega (arith, height_most fs (1 + c.args.part.deep))
