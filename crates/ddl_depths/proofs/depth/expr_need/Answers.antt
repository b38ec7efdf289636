use Rattle.std.proofs.Common.{[], ap, sym, ◌∙◌}
use Rattle.ddl_reader.specs.Depths.{need_expr}
use Rattle.ddl_states.specs.FrameView.{frame_view}
use Rattle.ddl_states.specs.StackView.{stack_view}
use Rattle.ddl_depths.proofs.Limits.{need_here, view-split}
use Rattle.ddl_depths.proofs.depth.expr_need.Goals as goal

pub returns-in-Some : goal.returns-in-Some
returns-in-Some c =
    c.frame_hole_need.ensures
    ∙ sym (need_here (frame_view c.in-Some.frame.now) (stack_view c.in-Some._outer.now []))
    ∙ sym (ap need_expr (view-split c.args.frames.now c.in-Some.frame.now c.in-Some._outer.now c.in-Some.ensures.cases.0))
