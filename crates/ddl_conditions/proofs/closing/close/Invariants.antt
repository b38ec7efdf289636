use Rattle.std.proofs.Common.{take}
use Rattle.ddl_unify.specs.State.{solution}
use Rattle.ddl_conditions.specs.Fates.{IsClosing}
use Rattle.ddl_conditions.specs.GroupView.{group_view}
use Rattle.ddl_conditions.proofs.closing.close.Given as goal

abbrev pub invariant-loop-place : goal.invariant-loop-place
invariant-loop-place l = IsClosing (group_view l.group) (solution l.solver) (take l.place (group_view l.group).asked) l.kept.items l.left
