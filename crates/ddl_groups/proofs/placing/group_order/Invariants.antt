use Rattle.std.proofs.Common.{[], sum_by, cond}
use Rattle.ddl_groups.specs.Placing.{IsPlacing, IsWaiting, lists_of}
use Rattle.ddl_groups.proofs.placing.group_order.Given as goal

abbrev pub invariant-loop-first : goal.invariant-loop-first
invariant-loop-first l = record {
  placing : IsPlacing (lists_of l.needs) l.firsts l.placed.items l.order.items;
  waiting : IsWaiting (lists_of l.needs) l.firsts l.labels l.placed.items l.left.items l.ready.keys [] 0;
}

-- how many groups are open
abbrev pub decreases-loop-first : goal.decreases-loop-first
decreases-loop-first l = sum_by (λ b. cond b 0 1) l.placed.items
