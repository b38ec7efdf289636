use Rattle.std.proofs.Common.{◌≡◌, ℕ, ◌<◌, length, slice_index}
use Rattle.ddl_groups.specs.Groups.{group_at}
use Rattle.ddl_groups.specs.Placing.{lists_of}
use Rattle.ddl_groups.proofs.members.in_order.Given as goal

abbrev pub invariant-loop-group : goal.invariant-loop-group
invariant-loop-group l = (length l.groups.items ≡ l.group-index)
    × ((k : ℕ) → k < l.group-index → group_at (lists_of l.groups.items) k ≡ group_at (lists_of l.members) (slice_index l.order k))
