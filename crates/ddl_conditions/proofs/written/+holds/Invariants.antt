use Rattle.std.proofs.Common.{◌≡◌, map, take, false}
use Rattle.ddl_types.specs.Types.{tys_of}
use Rattle.ddl_types.specs.TyView.{ty_view}
use Rattle.ddl_unify.specs.Occurs.{has_all}
use Rattle.ddl_conditions.proofs.written.+holds.Given as goal

abbrev pub invariant-holds_any-loop-t : goal.invariant-holds_any-loop-t
invariant-holds_any-loop-t l = has_all (tys_of (map ty_view (take l.t-index l.ts))) l.v ≡ false
