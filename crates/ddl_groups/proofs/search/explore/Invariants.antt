use Rattle.std.proofs.Common.{ℕ, ◌≢◌}
use Rattle.ddl_groups.specs.declared.marks.Mark.TheVariants.{Unseen}
use Rattle.ddl_groups.specs.Placing.{lists_of}
use Rattle.ddl_groups.specs.Searching.{Holds, mark_at, unseen}
use Rattle.ddl_groups.proofs.search.explore.Given as goal

abbrev pub invariant-loop-next : goal.invariant-loop-next
invariant-loop-next l = record {
  holds : Holds (lists_of l.needs) l.search;
  seen : (v : ℕ) → mark_at l.fn.search.marks.items v ≢ Unseen → mark_at l.search.marks.items v ≢ Unseen;
  root_seen : mark_at l.search.marks.items l.root ≢ Unseen;
}

abbrev pub decreases-loop-next : goal.decreases-loop-next
decreases-loop-next l = unseen l.search.marks.items
