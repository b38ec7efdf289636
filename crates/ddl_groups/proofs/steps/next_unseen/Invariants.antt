use Rattle.std.proofs.Common.{length}
use Rattle.ddl_groups.specs.Placing.{lists_of}
use Rattle.ddl_groups.specs.Searching.{Holds, KeepsSeen}
use Rattle.ddl_groups.proofs.steps.next_unseen.Given as goal

abbrev pub invariant-loop-search : goal.invariant-loop-search
invariant-loop-search l = record {
  holds : Holds (lists_of l.needs) l.search;
  seen : KeepsSeen l.initial.search.marks.items l.search.marks.items;
}

abbrev pub decreases-loop-search : goal.decreases-loop-search
decreases-loop-search l = length l.search.pending.items
