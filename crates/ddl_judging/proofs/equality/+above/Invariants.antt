use Rattle.std.proofs.Common.{◌≤◌, map, take}
use Rattle.ddl_types.specs.Types.{tys_of, BelowAll}
use Rattle.ddl_types.specs.TyView.{ty_view}
use Rattle.ddl_judging.proofs.equality.+above.Given as goal

abbrev pub invariant-above_all-loop-t : goal.invariant-above_all-loop-t
invariant-above_all-loop-t l = record {
  below : BelowAll (tys_of (map ty_view (take l.t-index l.ts))) l.bound;
  least : l.initial.bound ≤ l.bound;
}
