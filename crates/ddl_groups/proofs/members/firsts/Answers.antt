use Rattle.std.proofs.Common.{◌≡◌, ℕ, ◌<◌, List, length, subst, rules}
use Rattle.ddl_groups.specs.Groups.{group_at}
use Rattle.ddl_groups.specs.Placing.{lists_of}
use Rattle.ddl_groups.proofs.Settled.{list_at}
use Rattle.ddl_groups.proofs.members.firsts.Goals as goal

pub index-requires : goal.index-requires
index-requires c =
    let e : group_at (lists_of c.args.members.now) c.loop-group.group-index ≡ c.group-item.result.items =
    list_at c.args.members.now c.loop-group.group-index c.group-item.result c.loop-group-test.true c.group-item.is in
    let P : List ℕ → Type 0 = λ xs. 0 < length xs in
    let h : 0 < length c.group-item.result.items = subst P e (c.requires c.loop-group.group-index c.loop-group-test.true) in
    search rules
