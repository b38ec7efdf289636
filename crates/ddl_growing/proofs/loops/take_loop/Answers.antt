use Rattle.std.proofs.Common.{refl}
use Rattle.ddl_types.specs.Conditions.{loops}
use Rattle.ddl_judging.specs.Demands.{condition}
use Rattle.ddl_types.specs.Types.{on, Head.array_of, Head.map_of}
use Rattle.ddl_types.specs.TyView.{ty_view}
use Rattle.ddl_unify.specs.State.{solution, variables}
use Rattle.ddl_growing.specs.Carrying.{asking}
use Rattle.ddl_growing.specs.Heads.{head}
use Rattle.ddl_growing.specs.SolverView.{solved}
use Rattle.ddl_growing.proofs.Quiet.{quiet_loop}
use Rattle.ddl_growing.proofs.Taken.{silent_one, taken_one, waits_one}
use Rattle.ddl_growing.proofs.loops.take_loop.Goals as goal

pub returns-in-Unknown-clause-taken : goal.returns-in-Unknown-clause-taken
returns-in-Unknown-clause-taken c ss =
    let t = ty_view c.args.form.over.now in
    waits_one ss (asking (condition (loops t (ty_view c.args.form.key.now) (ty_view c.args.form.value.now))) c.args.span) t (solved c.args.solver.now) refl
    c.in-Unknown.ensures.head

pub returns-in-Array-clause-taken : goal.returns-in-Array-clause-taken
returns-in-Array-clause-taken c ss =
    let t = ty_view c.args.form.over.now in
    taken_one ss (asking (condition (loops t (ty_view c.args.form.key.now) (ty_view c.args.form.value.now))) c.args.span) t array_of (solved c.args.solver.now)
    (solved c.add_array_turns.new.solver) c.add_array_turns.result refl c.in-Array.ensures.head c.add_array_turns.ensures.added

pub returns-in-Map-clause-taken : goal.returns-in-Map-clause-taken
returns-in-Map-clause-taken c ss =
    let t = ty_view c.args.form.over.now in
    taken_one ss (asking (condition (loops t (ty_view c.args.form.key.now) (ty_view c.args.form.value.now))) c.args.span) t map_of (solved c.args.solver.now)
    (solved c.add_map_turns.new.solver) c.add_map_turns.result refl c.in-Map.ensures.head c.add_map_turns.ensures.added

pub returns-in_default-clause-taken : goal.returns-in_default-clause-taken
returns-in_default-clause-taken c ss =
    let t = ty_view c.args.form.over.now in
    silent_one ss (asking (condition (loops t (ty_view c.args.form.key.now) (ty_view c.args.form.value.now))) c.args.span) t (solved c.args.solver.now) refl
    (quiet_loop ss t (ty_view c.args.form.key.now) (ty_view c.args.form.value.now) (variables c.args.solver.now) c.known_head.result
    (head (on t (solution c.args.solver.now))) c.known_head.ensures.head c.in_default.not-Unknown c.in_default.not-Array c.in_default.not-Map)
