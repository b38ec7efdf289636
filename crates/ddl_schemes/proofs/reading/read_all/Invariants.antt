use Rattle.std.proofs.Common.{◌≡◌, map, take}
use Rattle.ddl_types.specs.Types.{on}
use Rattle.ddl_types.specs.TyView.{ty_view}
use Rattle.ddl_unify.specs.State.{solution}
use Rattle.ddl_schemes.proofs.reading.read_all.Given as goal

abbrev pub invariant-loop-t : goal.invariant-loop-t
invariant-loop-t l = map ty_view l.read.items ≡ map (λ t. on t (solution l.solver)) (map ty_view (take l.t-index l.types))
