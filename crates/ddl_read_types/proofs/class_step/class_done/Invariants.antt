use Rattle.std.proofs.Common.{◌≡◌, ◌≤◌, length}
use Rattle.ddl_tree.specs.View.{class_view}
use Rattle.ddl_states.specs.Heights.{height}
use Rattle.ddl_states.specs.StackView.{forms}
use Rattle.ddl_reader.specs.StepClass.{class_done}
use Rattle.ddl_read_types.proofs.class_step.class_done.Given as goal

abbrev pub invariant-loop-frame : goal.invariant-loop-frame
invariant-loop-frame l = record {
  same : class_done (forms l.stack) (class_view l.part.class) l.part.deep
      ≡ class_done (forms l.fn.stack) (class_view l.fn.class) l.fn.deep;
  shallow : height (forms l.stack) l.part.deep ≤ 400;
}

abbrev pub decreases-loop-frame : goal.decreases-loop-frame
decreases-loop-frame l = length (forms l.stack)
