use Rattle.std.proofs.Common.{◌≡◌, ◌∙◌, ◌++◌, ap, sym, map, rules}
use Rattle.ddl_types.specs.Types.{Ty, Ty.con, Head.place, Sub, tys_of}
use Rattle.ddl_types.specs.TyView.{ty_view}
use Rattle.ddl_types.proofs.TyLayers.{layers}
use Rattle.ddl_unify.specs.State.{solution}
use Rattle.ddl_judging.specs.Shapes.{Shapes}
use Rattle.ddl_judging.specs.Views.{shapes_view}
use Rattle.ddl_schemes.specs.FoundView.{found_view, waiting}
use Rattle.ddl_schemes.specs.Order.{Seen}
use Rattle.ddl_schemes.specs.Steps.{behind}
use Rattle.ddl_schemes.proofs.Stepping.{parts_first}
use Rattle.ddl_schemes.proofs.walk.step.Goals as goal

pub returns-in_ok-push_all-in-Place-clause-stack : goal.returns-in_ok-push_all-in-Place-clause-stack
returns-in_ok-push_all-in-Place-clause-stack c =
    let ss : Shapes = shapes_view c.args.shapes.now in
    let f : Sub = solution c.args.solver.now in
    let s : Seen = found_view c.args.found.now in
    let seen : ty_view c.args.t ≡ con (place c.in-Place.number) (tys_of (map ty_view c.in-Place.arguments.items)) = search (rules, layers) in
    parts_first ss f s c.in-Place.number (map ty_view c.in-Place.arguments.items) (waiting c.args.stack.now.items) (waiting c.open.new.stack.items)
    (waiting c.push_all.new.stack.items) c.in_ok-open-in-Place.ensures.stack c.in_ok-push_all-in-Place.ensures
    ∙ ap (λ (t : Ty). behind ss f s t ++ waiting c.args.stack.now.items) (sym seen)
