use Rattle.std.proofs.Common.{◌∷◌, [], subst, sym}
use Rattle.ddl_unify.specs.Equations.{Equation, EachBelow}
use Rattle.ddl_unify.specs.Solving.{Settled}
use Rattle.ddl_unify.specs.Trails.{variables}
use Rattle.ddl_unify.proofs.Keeping.{grows_same}
use Rattle.ddl_unify.proofs.solving.solve_one.Goals as goal

pub solve_pair-requires : goal.solve_pair-requires
solve_pair-requires c = let P : Equation → Type 0 = λ e. EachBelow (e ∷ []) (variables c.args.trail.now) in subst P (sym c.in-Ok.ensures) c.requires

pub returns-in-Ok : goal.returns-in-Ok
returns-in-Ok c =
    let P : Equation → Type 0 = λ e. Settled c.solve_pair.result c.args.trail.now (e ∷ []) c.solve_pair.new.trail
    in subst P c.in-Ok.ensures c.solve_pair.ensures

pub returns-in-Err : goal.returns-in-Err
returns-in-Err c = grows_same c.args.trail.now
