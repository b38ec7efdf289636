use Rattle.std.proofs.Common.{◌≡◌, ℕ, ◌<◌, length, slice_index}
use Rattle.ddl_groups.specs.Groups.{first_member}
use Rattle.ddl_groups.specs.Placing.{lists_of}
use Rattle.ddl_groups.proofs.members.firsts.Given as goal

abbrev pub invariant-loop-group : goal.invariant-loop-group
invariant-loop-group l = (length l.firsts.items ≡ l.group-index)
    × ((k : ℕ) → k < l.group-index → slice_index l.firsts.items k ≡ first_member (lists_of l.members) k)
