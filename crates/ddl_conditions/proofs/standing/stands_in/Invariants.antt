use Rattle.std.proofs.Common.{map, take, false}
use Rattle.ddl_types.specs.TyView.{ty_view}
use Rattle.ddl_unify.specs.State.{solution}
use Rattle.ddl_conditions.specs.Seen.{AreRead}
use Rattle.ddl_conditions.proofs.standing.stands_in.Given as goal

abbrev pub invariant-loop-t : goal.invariant-loop-t
invariant-loop-t l = AreRead false (solution l.solver) l.variable (map ty_view (take l.t-index l.types)) l.fn.seen l.seen l.fn.pending.items l.pending.items
