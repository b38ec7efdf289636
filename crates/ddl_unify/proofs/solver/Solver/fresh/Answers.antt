use Rattle.ddl_unify.specs.View.{equations}
use Rattle.ddl_unify.proofs.Equating.{holding_like}
use Rattle.ddl_unify.proofs.solver.Solver.fresh.Goals as goal

pub invariant_of-self : goal.invariant_of-self
invariant_of-self c = holding_like (equations c.self.inside.accepted.items) c.self.inside.trail c.fresh.new.self c.fresh.ensures.same c.self.invariant
