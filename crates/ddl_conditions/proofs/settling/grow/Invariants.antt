use Rattle.ddl_unify.specs.State.{accepted, variables}
use Rattle.ddl_conditions.specs.GroupView.{group_view}
use Rattle.ddl_conditions.specs.Walking.{Going, left}
use Rattle.ddl_conditions.specs.WalkView.{place}
use Rattle.ddl_conditions.proofs.settling.grow.Given as goal

abbrev pub invariant-loop-walk : goal.invariant-loop-walk
invariant-loop-walk l = Going (group_view l.group) (accepted l.fn.solver) (variables l.fn.solver) (place l.solver l.walk)

abbrev pub decreases-loop-walk : goal.decreases-loop-walk
decreases-loop-walk l = left (place l.solver l.walk)
