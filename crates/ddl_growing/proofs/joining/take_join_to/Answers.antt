use Rattle.std.proofs.Common.{refl, None}
use Rattle.ddl_types.specs.Conditions.{cat}
use Rattle.ddl_types.specs.Types.{Head.uint}
use Rattle.ddl_types.specs.TyView.{ty_view}
use Rattle.ddl_unify.specs.State.{solution}
use Rattle.ddl_growing.specs.declared.turn.Turn.TheVariants as turn
use Rattle.ddl_growing.specs.Carrying.{asking}
use Rattle.ddl_judging.specs.Demands.{condition}
use Rattle.ddl_growing.specs.SolverView.{solved}
use Rattle.ddl_growing.proofs.Joined.{second_apart}
use Rattle.ddl_growing.proofs.Knowing.{heads_one, heard_second}
use Rattle.ddl_growing.proofs.Taken.{taken_two}
use Rattle.ddl_growing.proofs.joining.take_join_to.Goals as goal

pub returns-in-Unknown-clause-taken : goal.returns-in-Unknown-clause-taken
returns-in-Unknown-clause-taken c ss left e = (
  heard_second (uint c.args.width) left (ty_view c.args.right.now) (solution c.args.solver.now) turn.Waits e
      (heads_one (ty_view c.args.right.now) (solution c.args.solver.now) None c.in-Unknown.ensures.head),
  refl,
)

pub returns-in-Uint-clause-taken : goal.returns-in-Uint-clause-taken
returns-in-Uint-clause-taken c ss left e =
    taken_two ss (asking (condition (cat left (ty_view c.args.right.now) (ty_view c.args.whole.now))) c.args.span) left (ty_view c.args.right.now)
    (uint c.args.width) (uint c.in-Uint.other) (solved c.args.solver.now) (solved c.add_joined.new.solver) c.add_joined.result refl e c.in-Uint.ensures.head
    c.add_joined.ensures.added

pub returns-in_default-clause-taken : goal.returns-in_default-clause-taken
returns-in_default-clause-taken c ss left e =
    second_apart ss left (ty_view c.args.right.now) (ty_view c.args.whole.now) c.args.span c.args.width (solved c.args.solver.now) c.known_head.result e
    c.known_head.ensures.head c.in_default.not-Unknown c.in_default.not-Uint
