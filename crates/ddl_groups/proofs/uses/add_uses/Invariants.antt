use Rattle.std.proofs.Common.{take}
use Rattle.ddl_groups.specs.Numbered.{AreNeedsMore}
use Rattle.ddl_groups.specs.Placing.{AreUsers, lists_of}
use Rattle.ddl_groups.proofs.uses.add_uses.Given as goal

abbrev pub invariant-loop-declaration : goal.invariant-loop-declaration
invariant-loop-declaration l = record {
  users : AreUsers (lists_of l.uses.needs.items) (lists_of l.uses.users.items);
  needs : AreNeedsMore (lists_of l.initial.uses.needs.items) l.label (take l.declaration-index l.used) l.labels (lists_of l.uses.needs.items);
}
