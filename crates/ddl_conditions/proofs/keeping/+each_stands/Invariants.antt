use Rattle.std.proofs.Common.{map, take}
use Rattle.ddl_types.specs.Types.{tys_of}
use Rattle.ddl_types.specs.TyView.{ty_view}
use Rattle.ddl_unify.specs.Occurs.{has_all}
use Rattle.ddl_unify.specs.State.{solution}
use Rattle.ddl_conditions.specs.GroupView.{group_view}
use Rattle.ddl_conditions.specs.Keeping.{AllStand}
use Rattle.ddl_conditions.proofs.keeping.+each_stands.Given as goal

abbrev pub invariant-each_stands_in-loop-t : goal.invariant-each_stands_in-loop-t
invariant-each_stands_in-loop-t l = AllStand (group_view l.group) (solution l.solver) (has_all (tys_of (map ty_view (take l.t-index l.ts))))
