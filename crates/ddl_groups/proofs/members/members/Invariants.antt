use Rattle.std.proofs.Common.{◌≡◌, length}
use Rattle.ddl_groups.specs.Numbered.{AreMembers}
use Rattle.ddl_groups.specs.Placing.{lists_of}
use Rattle.ddl_groups.proofs.members.members.Given as goal

abbrev pub invariant-loop-declaration : goal.invariant-loop-declaration
invariant-loop-declaration l = record {
  long : length l.lists.items ≡ l.count;
  are : AreMembers l.labels l.declaration (lists_of l.lists.items);
}
