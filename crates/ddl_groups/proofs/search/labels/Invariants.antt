use Rattle.std.proofs.Common.{ℕ, ◌<◌, ◌≢◌}
use Rattle.ddl_groups.specs.declared.marks.Mark.TheVariants.{Unseen}
use Rattle.ddl_groups.specs.Placing.{lists_of}
use Rattle.ddl_groups.specs.Searching.{IsIdle, mark_at}
use Rattle.ddl_groups.proofs.search.labels.Given as goal

abbrev pub invariant-loop-root : goal.invariant-loop-root
invariant-loop-root l = record {
  idle : IsIdle (lists_of l.needs) l.search;
  seen : (v : ℕ) → v < l.root → mark_at l.search.marks.items v ≢ Unseen;
}
