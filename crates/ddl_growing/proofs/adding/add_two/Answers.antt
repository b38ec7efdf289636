use Rattle.std.proofs.Common.{refl, [], ◌∷◌}
use Rattle.ddl_growing.specs.Carrying.{sides_view}
use Rattle.ddl_growing.specs.SolverView.{solved}
use Rattle.ddl_growing.proofs.Added.{carried_added, carried_then, refused_first}
use Rattle.ddl_growing.proofs.adding.add_two.Goals as goal

pub returns-in_err-add-clause-added : goal.returns-in_err-add-clause-added
returns-in_err-add-clause-added c =
    refused_first (sides_view c.args.first) (sides_view c.args.second ∷ []) c.args.span (solved c.args.solver.now) (solved c.add.new.solver)
    c.from_residual.result c.in_err-add.field-0.0 c.from_residual.ensures.1 c.in_err-add.ensures.added

pub returns-clause-added : goal.returns-clause-added
returns-clause-added c =
    carried_then (sides_view c.args.second) (sides_view c.args.first ∷ []) ([]) 0 0 0 c.args.span (solved c.args.solver.now) (solved c.add.new.solver)
    (solved c.add-2.new.solver) c.add-2.result refl (carried_added (sides_view c.args.first) [] 0 (solved c.args.solver.now) (solved c.add.new.solver)
    c.in_ok-add.field-0 c.in_ok-add.ensures.added) c.add-2.ensures.added
