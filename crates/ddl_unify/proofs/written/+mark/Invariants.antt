use Rattle.std.proofs.Common.{◌+◌, ◌*◌, map, take}
use Rattle.ddl_types.specs.Types.{tys_of}
use Rattle.ddl_types.specs.TyView.{ty_view}
use Rattle.ddl_unify.specs.Occurs.{has_all, size, size_all}
use Rattle.ddl_unify.specs.Named.{Marked}
use Rattle.ddl_unify.proofs.written.+mark.Given as goal

abbrev pub invariant-mark_all-loop-t : goal.invariant-mark_all-loop-t
invariant-mark_all-loop-t l = Marked (has_all (tys_of (map ty_view (take l.t-index l.ts)))) l.fn.named l.named

abbrev pub decreases-mark : goal.decreases-mark
decreases-mark l = 2 * size (ty_view l.t.now)

abbrev pub decreases-mark_all : goal.decreases-mark_all
decreases-mark_all l = 2 * size_all (tys_of (map ty_view l.ts.now)) + 1
