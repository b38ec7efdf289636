use Rattle.std.proofs.Common.{◌≡◌, length, []}
use Rattle.ddl_reader.specs.Depths.{low}
use Rattle.ddl_states.specs.StackView.{stack_view}
use Rattle.ddl_depths.proofs.limit.passes.Given as goal

abbrev pub invariant-loop-frame : goal.invariant-loop-frame
invariant-loop-frame l = low (stack_view l.rest []) l.deep ≡ low (stack_view l.frames []) l.need

abbrev pub decreases-loop-frame : goal.decreases-loop-frame
decreases-loop-frame l = length l.rest
