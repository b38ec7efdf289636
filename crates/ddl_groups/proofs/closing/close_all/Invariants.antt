use Rattle.std.proofs.Common.{◌≡◌, ℕ, ◌<◌, ◌≤◌, ◌≢◌, length, slice_index}
use Rattle.ddl_groups.specs.declared.marks.Mark.TheVariants.{Closed}
use Rattle.ddl_groups.specs.Searching.{mark_at, unseen}
use Rattle.ddl_groups.proofs.closing.close_all.Given as goal

abbrev pub invariant-loop-place : goal.invariant-loop-place
invariant-loop-place l = record {
  long : (length l.marks.items ≡ length l.initial.marks.items) × (length l.labels.items ≡ length l.initial.labels.items);
  closed : (p : ℕ) → l.head ≤ p → p < l.place → (mark_at l.marks.items (slice_index l.path p) ≡ Closed)
      × (slice_index l.labels.items (slice_index l.path p) ≡ l.label);
  others : (v : ℕ) → ((p : ℕ) → l.head ≤ p → p < l.place → slice_index l.path p ≢ v) → (mark_at l.marks.items v ≡ mark_at l.initial.marks.items v)
      × (slice_index l.labels.items v ≡ slice_index l.initial.labels.items v);
  fewer : unseen l.marks.items ≤ unseen l.initial.marks.items;
}
