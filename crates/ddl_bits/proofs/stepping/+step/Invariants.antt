use Rattle.std.proofs.Common.{◌≡◌, ◌+◌, ◌≤◌, drop, length}
use Rattle.ddl_bits.specs.Flows.{cons_leaves, parts_leaves}
use Rattle.ddl_bits.specs.Tree.{parts_width, ConsSized, PartsSized}
use Rattle.ddl_bits.specs.View.{cons_view, layout_view, parts_view}
use Rattle.ddl_bits.proofs.Runs.{PartsSteps, ConsSteps}
use Rattle.ddl_bits.proofs.stepping.+step.Given as goal

abbrev pub invariant-parts_step-loop-part : goal.invariant-parts_step-loop-part
invariant-parts_step-loop-part l =
    record {
      sized : PartsSized (parts_view (drop l.part-index l.parts));
      bits : parts_width (parts_view (drop l.part-index l.parts)) ≡ l.left;
      few : l.left ≤ l.width;
      marked : l.start + parts_leaves (parts_view (drop l.part-index l.parts)) ≡ length l.marks;
      steps : PartsSteps (parts_view l.parts) (parts_view (drop l.part-index l.parts)) l.low l.width l.bit l.entered l.fn.marks l.marks l.start l.left l.done;
    }

abbrev pub invariant-layout_step-loop-con : goal.invariant-layout_step-loop-con
invariant-layout_step-loop-con l =
    record {
      sized : ConsSized (cons_view (drop l.con-index l.con-items)) l.width;
      marked : l.start + cons_leaves (cons_view (drop l.con-index l.con-items)) ≡ length l.marks;
      steps : ConsSteps (layout_view l.layout) (cons_view (drop l.con-index l.con-items)) l.low l.width l.bit l.entered l.fn.marks l.marks l.start l.done;
    }
