use Rattle.std.proofs.Common.{refl, subst, sym, Ok}
use Rattle.ddl_types.specs.CondView.{cond_view}
use Rattle.ddl_types.specs.Conditions.{num, word, lit, lossless, cut, fit, field, tag}
use Rattle.ddl_types.specs.TyView.{ty_view}
use Rattle.ddl_growing.specs.Carrying.{IsTaken, asking}
use Rattle.ddl_judging.specs.Demands.{condition}
use Rattle.ddl_growing.specs.SolverView.{solved}
use Rattle.ddl_judging.specs.Views.{shapes_view}
use Rattle.ddl_growing.proofs.Taken.{heard}
use Rattle.ddl_growing.proofs.turn.take_condition.Goals as goal

pub returns-in-Key-clause-taken : goal.returns-in-Key-clause-taken
returns-in-Key-clause-taken c =
    let ss = shapes_view c.args.shapes.now in
    subst (λ z. IsTaken ss (asking (condition (cond_view z)) c.args.span) (solved c.args.solver.now) (solved c.take_key.new.solver) c.take_key.result)
    (sym c.in-Key.is)
    (c.take_key.ensures.taken ss)

pub returns-in-Cat-clause-taken : goal.returns-in-Cat-clause-taken
returns-in-Cat-clause-taken c =
    let ss = shapes_view c.args.shapes.now in
    subst (λ z. IsTaken ss (asking (condition (cond_view z)) c.args.span) (solved c.args.solver.now) (solved c.take_join.new.solver) c.take_join.result)
    (sym c.in-Cat.is)
    (c.take_join.ensures.taken ss)

pub returns-in-Loop-clause-taken : goal.returns-in-Loop-clause-taken
returns-in-Loop-clause-taken c =
    let ss = shapes_view c.args.shapes.now in
    subst (λ z. IsTaken ss (asking (condition (cond_view z)) c.args.span) (solved c.args.solver.now) (solved c.take_loop.new.solver) c.take_loop.result)
    (sym c.in-Loop.is)
    (c.take_loop.ensures.taken ss)
