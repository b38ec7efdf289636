use Rattle.std.proofs.Common.{◌≡◌, ◌++◌, ◌∷◌, [], length, rules}
use Rattle.ddl_types.specs.TyView.{ty_view}
use Rattle.ddl_unify.specs.Equations.{equal}
use Rattle.ddl_unify.specs.View.{equations}
use Rattle.ddl_unify.proofs.Comparing.{remembered_step, equations_most}
use Rattle.ddl_unify.proofs.Keeping.{grows_same}
use Rattle.ddl_unify.proofs.solving.turn.Goals as goal

pub compare-requires-clause-remembers : goal.compare-requires-clause-remembers
compare-requires-clause-remembers c =
    let n : c.len.result ≡ length c.args.stack.now.items = search rules in
    c.in-Ok.ensures c.args.trail.now.0 (equations c.args.stack.now.items ++ equal (ty_view c.args.pair.left) (ty_view c.args.pair.right) ∷ [])
    (equations_most c.args.stack.now.items (equal (ty_view c.args.pair.left) (ty_view c.args.pair.right)) c.len.result n) c.requires.remembers

pub returns-in-None-clause-remembers : goal.returns-in-None-clause-remembers
returns-in-None-clause-remembers c =
    let n : c.len.result ≡ length c.args.stack.now.items = search rules in
    remembered_step c.step.result c.settle.new.self c.args.trail.now (equations c.args.stack.now.items) (ty_view c.args.pair.left) (ty_view c.args.pair.right)
    c.step.new.trail (equations c.step.new.stack.items) c.step.ensures
    (c.in-Ok.ensures c.args.trail.now.0 (equations c.args.stack.now.items ++ equal (ty_view c.args.pair.left) (ty_view c.args.pair.right) ∷ [])
    (equations_most c.args.stack.now.items (equal (ty_view c.args.pair.left) (ty_view c.args.pair.right)) c.len.result n) c.requires.remembers)

pub returns-in-Err-clause-step : goal.returns-in-Err-clause-step
returns-in-Err-clause-step c = grows_same c.args.trail.now
