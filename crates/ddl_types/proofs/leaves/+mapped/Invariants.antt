use Rattle.std.proofs.Common.{◌≡◌, map, take}
use Rattle.ddl_types.specs.Types.{on}
use Rattle.ddl_types.specs.TyView.{ty_view}
use Rattle.ddl_types.proofs.leaves.+mapped.Given as goal

abbrev pub invariant-mapped_all-loop-t : goal.invariant-mapped_all-loop-t
invariant-mapped_all-loop-t g l = map ty_view l.made.items ≡ map (λ t. on t (g.L.Leaves.sub l.leaves)) (map ty_view (take l.t-index l.ts))
