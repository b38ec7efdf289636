use Rattle.std.proofs.Common.{subst, sym}
use Rattle.ddl_types.specs.TyView.{ty_view}
use Rattle.ddl_growing.specs.Carrying.{IsTaken, asking}
use Rattle.ddl_judging.specs.Demands.{make}
use Rattle.ddl_growing.specs.SolverView.{solved}
use Rattle.ddl_judging.specs.Views.{demand_view, shapes_view}
use Rattle.ddl_growing.proofs.turn.take_turn.Goals as goal

pub returns-in-Gather-clause-turn : goal.returns-in-Gather-clause-turn
returns-in-Gather-clause-turn c =
    let ss = shapes_view c.args.shapes.now in
    subst (λ w. IsTaken ss (asking (demand_view w) c.args.asked.now.span) (solved c.args.solver.now) (solved c.take_gather.new.solver) c.take_gather.result)
    (sym c.in-Gather.is) (c.take_gather.ensures.taken ss)
