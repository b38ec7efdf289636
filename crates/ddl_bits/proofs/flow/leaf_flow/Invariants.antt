use Rattle.std.proofs.Common.{ℕ, ◌+◌}
use Rattle.ddl_bits.specs.Flows.{HasLeaf, IsIn, RunsWhole}
use Rattle.ddl_bits.specs.Tree.{part_width}
use Rattle.ddl_bits.specs.View.{part_view, parts_view}
use Rattle.ddl_bits.proofs.flow.leaf_flow.Given as goal

abbrev pub invariant-loop-place : goal.invariant-loop-place
invariant-loop-place l = (n : ℕ) → IsIn l.range.from l.range.bits n → HasLeaf (part_view l.leaf) l.low n
    → RunsWhole (parts_view l.other) l.fn.marks (l.low + part_width (part_view l.leaf)) n → RunsWhole (parts_view l.other) l.marks (l.low + l.place) n
