use Rattle.ddl_types.specs.TyView.{ty_view}
use Rattle.ddl_unify.specs.State.{solution}
use Rattle.std.proofs.Common.{None}
use Rattle.ddl_growing.proofs.Knowing.{heads_one, heard_one}
use Rattle.ddl_growing.proofs.heads.wait_for.Goals as goal

pub returns-in-Unknown-clause-heard : goal.returns-in-Unknown-clause-heard
returns-in-Unknown-clause-heard c = heads_one (ty_view c.args.t.now) (solution c.args.solver.now) None c.in-Unknown.ensures.head

pub returns-in_default-clause-heard : goal.returns-in_default-clause-heard
returns-in_default-clause-heard c = heard_one c.known_head.result (ty_view c.args.t.now) (solution c.args.solver.now) c.known_head.ensures.head
    c.in_default.not-Unknown
