use Rattle.std.proofs.Common.{refl}
use Rattle.ddl_types.specs.Types.{on, Head.place}
use Rattle.ddl_types.specs.TyView.{ty_view}
use Rattle.ddl_unify.specs.State.{solution, variables}
use Rattle.ddl_growing.specs.Carrying.{asking}
use Rattle.ddl_judging.specs.Demands.{make}
use Rattle.ddl_growing.specs.Heads.{head}
use Rattle.ddl_growing.specs.SolverView.{solved}
use Rattle.ddl_judging.specs.Views.{shapes_view}
use Rattle.ddl_growing.proofs.Quiet.{quiet_make}
use Rattle.ddl_growing.proofs.Taken.{silent_one, taken_one, waits_one}
use Rattle.ddl_growing.proofs.members.take_make.Goals as goal

pub returns-in-Unknown-clause-taken : goal.returns-in-Unknown-clause-taken
returns-in-Unknown-clause-taken c =
    let ss = shapes_view c.args.shapes.now in
    let t = ty_view c.args.sought.of.now in let x = c.args.sought.name.now in let r = ty_view c.args.sought.result.now in
    waits_one ss (asking (make t x r) c.args.span) t (solved c.args.solver.now) refl c.in-Unknown.ensures.head

pub returns-in-Place-clause-taken : goal.returns-in-Place-clause-taken
returns-in-Place-clause-taken c =
    let ss = shapes_view c.args.shapes.now in
    let t = ty_view c.args.sought.of.now in let x = c.args.sought.name.now in let r = ty_view c.args.sought.result.now in
    taken_one ss (asking (make t x r) c.args.span) t (place c.in-Place.number) (solved c.args.solver.now) (solved c.add_place_member.new.solver)
    c.add_place_member.result refl c.in-Place.ensures.head c.add_place_member.ensures.added

pub returns-in_default-clause-taken : goal.returns-in_default-clause-taken
returns-in_default-clause-taken c =
    let ss = shapes_view c.args.shapes.now in
    let t = ty_view c.args.sought.of.now in let x = c.args.sought.name.now in let r = ty_view c.args.sought.result.now in
    silent_one ss (asking (make t x r) c.args.span) t (solved c.args.solver.now) refl
    (quiet_make ss t x r (variables c.args.solver.now) c.known_head.result (head (on t (solution c.args.solver.now))) c.known_head.ensures.head
    c.in_default.not-Unknown c.in_default.not-Place)
