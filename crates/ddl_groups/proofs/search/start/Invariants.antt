use Rattle.std.proofs.Common.{◌≡◌, ℕ, length}
use Rattle.ddl_groups.specs.declared.marks.Mark.TheVariants.{Unseen}
use Rattle.ddl_groups.specs.Searching.{mark_at}
use Rattle.ddl_groups.proofs.search.start.Given as goal

abbrev pub invariant-loop-made : goal.invariant-loop-made
invariant-loop-made l = record {
  marks_long : length l.marks.items ≡ l._made;
  labels_long : length l.labels.items ≡ l._made;
  none : (v : ℕ) → mark_at l.marks.items v ≡ Unseen;
}
