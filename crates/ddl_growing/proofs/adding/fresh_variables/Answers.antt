use Rattle.std.proofs.Common.{◌≡◌, length, refl, rules, arith}
use Rattle.ddl_types.proofs.TyLayers.{layers}
use Rattle.ddl_unify.specs.State.{variables}
use Rattle.ddl_growing.specs.SolverView.{solved}
use Rattle.ddl_growing.proofs.Naming.{one_more}
use Rattle.ddl_growing.proofs.adding.fresh_variables.Goals as goal

pub loop-solver-preserved : goal.loop-solver-preserved
loop-solver-preserved c =
    let s = one_more c.loop-solver.made.items c.push.new.self.items _ (variables c.args.solver.now) c.in_ok-variable.variable (solved c.args.solver.now)
    (solved c.loop-solver.solver) (solved c.fresh_variable.new.solver) c.in_ok-push.ensures.items (search (rules, layers)) c.in_ok-variable.ensures.variable
    refl c.loop-solver.invariant.types c.loop-solver.invariant.added c.in_ok-variable.ensures.added in
    let n : c.len.result ≡ length c.loop-solver.made.items = search rules in
    record {
      most = c.in_ok-variable.ensures.most;
      types = s.types;
      within = omega (arith, s.long, n, c.loop-solver-test.true);
      added = s.added;
    }
