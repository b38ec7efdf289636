use Rattle.std.proofs.Common.{List, sym, subst}
use Rattle.ddl_unify.specs.declared.store.Pair.{Pair}
use Rattle.ddl_unify.specs.declared.trail.Trail.{Trail}
use Rattle.ddl_unify.specs.Holding.{Holding}
use Rattle.ddl_unify.specs.Trails.{no_trail}
use Rattle.ddl_unify.specs.View.{equations}
use Rattle.ddl_unify.proofs.Equating.{holding_none}
use Rattle.ddl_unify.proofs.solver.Solver.new.Goals as goal

pub invariant_of-result : goal.invariant_of-result
invariant_of-result c =
    let P : List Pair → Type 0 = λ z. Holding (equations z) no_trail in
    let Q : Trail → Type 0 = λ z. Holding (equations c.new-2.result.items) z in
    subst Q (sym c.new.ensures) (subst P (sym c.new-2.ensures.items) holding_none)
