use Rattle.ddl_types.specs.TyView.{ty_view}
use Rattle.ddl_types.specs.Types.{on}
use Rattle.ddl_unify.specs.State.{solution}
use Rattle.ddl_growing.specs.Heads.{head}
use Rattle.ddl_growing.proofs.Knowing.{heard_second, some_head, waits_first}
use Rattle.ddl_growing.proofs.heads.wait_for_both.Goals as goal

pub returns-in-Unknown-clause-heard : goal.returns-in-Unknown-clause-heard
returns-in-Unknown-clause-heard c = waits_first (ty_view c.args.first.now) (ty_view c.args.second.now) (solution c.args.solver.now) c.in-Unknown.ensures.head

pub returns-in_default-clause-heard : goal.returns-in_default-clause-heard
returns-in_default-clause-heard c =
    let x = some_head c.known_head.result (head (on (ty_view c.args.first.now) (solution c.args.solver.now))) c.known_head.ensures.head c.in_default.not-Unknown
    in
    heard_second x.0 (ty_view c.args.first.now) (ty_view c.args.second.now) (solution c.args.solver.now) c.wait_for.result x.1 c.wait_for.ensures.heard
