use Rattle.std.proofs.Common.{◌≡◌, ◌≤◌, length}
use Rattle.ddl_tree.specs.View.{type_view}
use Rattle.ddl_states.specs.Heights.{height}
use Rattle.ddl_states.specs.StackView.{forms}
use Rattle.ddl_reader.specs.StepType.{type_done}
use Rattle.ddl_read_types.proofs.type_step.type_done.Given as goal

abbrev pub invariant-loop-frame : goal.invariant-loop-frame
invariant-loop-frame l = record {
  same : type_done (forms l.stack) (type_view l.part.of) l.part.deep
      ≡ type_done (forms l.fn.stack) (type_view l.fn.of) l.fn.deep;
  shallow : height (forms l.stack) l.part.deep ≤ 400;
}

abbrev pub decreases-loop-frame : goal.decreases-loop-frame
decreases-loop-frame l = length (forms l.stack)
