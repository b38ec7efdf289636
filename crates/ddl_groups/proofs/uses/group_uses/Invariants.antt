use Rattle.std.proofs.Common.{◌≡◌, length}
use Rattle.ddl_groups.specs.Numbered.{AreGroupNeeds}
use Rattle.ddl_groups.specs.Placing.{AreUsers, lists_of}
use Rattle.ddl_groups.proofs.uses.group_uses.Given as goal

abbrev pub invariant-loop-declaration : goal.invariant-loop-declaration
invariant-loop-declaration l = record {
  long : length l.uses.needs.items ≡ l.count;
  users : AreUsers (lists_of l.uses.needs.items) (lists_of l.uses.users.items);
  needs : AreGroupNeeds (lists_of l.needs) l.labels l.declaration (lists_of l.uses.needs.items);
}
