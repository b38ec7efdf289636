use Rattle.std.proofs.Common.{◌+◌, map, length}
use Rattle.ddl_types.specs.TyView.{ty_view}
use Rattle.ddl_unify.specs.State.{solution}
use Rattle.ddl_conditions.specs.Seen.{IsOpening, unseen}
use Rattle.ddl_judging.specs.Views.{shapes_view}
use Rattle.ddl_conditions.proofs.standing.search.Given as goal

abbrev pub invariant-loop-place : goal.invariant-loop-place
invariant-loop-place l = IsOpening (shapes_view l.shapes) (map ty_view l.roots) (solution l.solver) l.variable l.seen l.pending.items

abbrev pub decreases-loop-place : goal.decreases-loop-place
decreases-loop-place l = unseen l.seen + length l.pending.items
