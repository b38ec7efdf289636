use Rattle.std.proofs.Common.{ℕ, ◌<◌, ◌≤◌, length, slice_index, Contains, vec_len}
use Rattle.ddl_groups.proofs.joining.join.Given as goal

abbrev pub invariant-loop-heads : goal.invariant-loop-heads
invariant-loop-heads l = record {
  sub : (h : ℕ) → Contains l.heads.items h → Contains l.initial.heads.items h;
  kept : (h : ℕ) → Contains l.initial.heads.items h → h ≤ l.place → Contains l.heads.items h;
  rising : (i j : ℕ) → i < j → j < length l.heads.items → slice_index l.heads.items i < slice_index l.heads.items j;
  fewer : length l.heads.items ≤ length l.initial.heads.items;
}

abbrev pub decreases-loop-heads : goal.decreases-loop-heads
decreases-loop-heads l = vec_len l.heads
