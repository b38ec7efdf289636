use Rattle.std.proofs.Common.{ℕ, ◌<◌, ◌≤◌, slice_index}
use Rattle.ddl_groups.specs.Placing.{IsPlaced}
use Rattle.ddl_groups.proofs.settling.open_needs.Given as goal

abbrev pub invariant-loop-left : goal.invariant-loop-left
invariant-loop-left l = record {
  fewer : l.left ≤ l.from;
  passed : (k : ℕ) → l.left ≤ k → k < l.from → IsPlaced l.placed (slice_index l.needs k);
}

abbrev pub decreases-loop-left : goal.decreases-loop-left
decreases-loop-left l = l.left
