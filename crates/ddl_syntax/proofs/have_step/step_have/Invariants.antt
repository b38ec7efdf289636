use Rattle.std.proofs.Common.{◌≡◌, ◌≤◌, length}
use Rattle.ddl_states.specs.FrameView.{found_view}
use Rattle.ddl_states.specs.Heights.{height}
use Rattle.ddl_states.specs.StackView.{forms}
use Rattle.ddl_reader.specs.Step.{step_have}
use Rattle.ddl_syntax.proofs.have_step.step_have.Given as goal

abbrev pub invariant-loop-stack : goal.invariant-loop-stack
invariant-loop-stack l = record {
  same : step_have (forms l.stack) (found_view l.part) l.kind l.at
      ≡ step_have (forms l.fn.stack) (found_view l.fn.part) l.kind l.at;
  shallow : height (forms l.stack) l.part.deep ≤ 400;
}

abbrev pub decreases-loop-stack : goal.decreases-loop-stack
decreases-loop-stack l = length (forms l.stack)
