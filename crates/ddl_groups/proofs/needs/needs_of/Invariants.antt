use Rattle.std.proofs.Common.{◌≡◌, take}
use Rattle.ddl_groups.specs.Needs.{needs_of}
use Rattle.ddl_groups.specs.Placing.{lists_of}
use Rattle.ddl_groups.proofs.needs.needs_of.Given as goal

abbrev pub invariant-loop-place : goal.invariant-loop-place
invariant-loop-place l = lists_of l.needs.items ≡ take l.place (needs_of l.decls l.uses)
