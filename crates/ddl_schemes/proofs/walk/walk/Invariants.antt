use Rattle.std.proofs.Common.{◌+◌, map}
use Rattle.ddl_types.specs.Types.{on}
use Rattle.ddl_types.specs.TyView.{ty_view}
use Rattle.ddl_unify.specs.State.{solution}
use Rattle.ddl_judging.specs.Views.{shapes_view}
use Rattle.ddl_schemes.specs.FoundView.{found_view, waiting}
use Rattle.ddl_schemes.specs.Order.{Seen, Walks, among, unseen}
use Rattle.ddl_schemes.specs.Owed.{owed, sizes}
use Rattle.ddl_schemes.proofs.walk.walk.Given as goal

-- whoever walks what is left has walked all
abbrev pub invariant-loop-t : goal.invariant-loop-t
invariant-loop-t l =
    (z : Seen) → Walks (shapes_view l.shapes) (solution l.solver) (waiting l.stack.items) (found_view l.found) z
    → Walks (shapes_view l.shapes) (solution l.solver) (map (λ t. on t (solution l.solver)) (map ty_view l.roots)) unseen z

abbrev pub decreases-loop-t : goal.decreases-loop-t
decreases-loop-t l =
    owed (shapes_view l.shapes).places (solution l.solver) (among (found_view l.found).places) + sizes (waiting l.stack.items)
