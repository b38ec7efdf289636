use Rattle.std.proofs.Common.{◌≡◌, take}
use Rattle.ddl_groups.specs.Needs.{needs_in}
use Rattle.ddl_groups.proofs.needs.needs_in.Given as goal

abbrev pub invariant-loop-used : goal.invariant-loop-used
invariant-loop-used l = l.needs.items ≡ needs_in l.count (take l.used-index l.uses)
