use Rattle.std.proofs.Common.{◌≡◌, ◌≤◌, length}
use Rattle.ddl_states.specs.FrameView.{found_view}
use Rattle.ddl_states.specs.Heights.{height}
use Rattle.ddl_states.specs.StackView.{forms}
use Rattle.ddl_reader.specs.Step.{finish_have}
use Rattle.ddl_syntax.proofs.finish.finish_have.Given as goal

abbrev pub invariant-loop-frame : goal.invariant-loop-frame
invariant-loop-frame l = record {
  same : finish_have (forms l.stack) (found_view l.part) ≡ finish_have (forms l.fn.stack) (found_view l.fn.part);
  shallow : height (forms l.stack) l.part.deep ≤ 400;
}

abbrev pub decreases-loop-frame : goal.decreases-loop-frame
decreases-loop-frame l = length (forms l.stack)
