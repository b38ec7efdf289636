use Rattle.std.proofs.Common.{map, take}
use Rattle.ddl_types.specs.Types.{tys_of}
use Rattle.ddl_types.specs.TyView.{ty_view}
use Rattle.ddl_conditions.specs.Seen.{Noted}
use Rattle.ddl_conditions.proofs.Noting.{PlaceInAll}
use Rattle.ddl_conditions.proofs.written.+mark_places.Given as goal

abbrev pub invariant-mark_all-loop-t : goal.invariant-mark_all-loop-t
invariant-mark_all-loop-t l = Noted (PlaceInAll (tys_of (map ty_view (take l.t-index l.ts)))) l.fn.seen l.seen l.fn.pending.items l.pending.items
