use Rattle.std.proofs.Common.{◌≡◌, ◌++◌, map, length}
use Rattle.ddl_types.specs.TyView.{ty_view}
use Rattle.ddl_schemes.specs.FoundView.{waiting}
use Rattle.ddl_schemes.proofs.reading.push_all.Given as goal

abbrev pub invariant-loop-t : goal.invariant-loop-t
invariant-loop-t l = map ty_view l.types.items ++ waiting l.stack.items ≡ map ty_view l.fn.types.items ++ waiting l.fn.stack.items

abbrev pub decreases-loop-t : goal.decreases-loop-t
decreases-loop-t l = length l.types.items
