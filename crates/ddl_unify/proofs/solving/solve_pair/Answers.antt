use Rattle.std.proofs.Common.{◌≡◌, ◌∷◌, ◌++◌, ◌∙◌, [], List, ap, subst, sym}
use Rattle.ddl_unify.specs.declared.store.Pair.{Pair}
use Rattle.ddl_unify.specs.Equations.{EachBelow}
use Rattle.ddl_unify.specs.Solving.{Settled}
use Rattle.ddl_unify.specs.Trails.{variables}
use Rattle.ddl_unify.specs.View.{equations}
use Rattle.ddl_unify.proofs.Keeping.{grows_same}
use Rattle.ddl_unify.proofs.solving.solve_pair.Goals as goal

pub solve-requires-clause-below : goal.solve-requires-clause-below
solve-requires-clause-below c =
    let e : c.push.new.self.items ≡ c.args.pair ∷ [] = c.in-Ok.ensures.items ∙ ap (λ (z : List Pair). z ++ c.args.pair ∷ []) c.new-stack.ensures.items in
    let P : List Pair → Type 0 = λ z. EachBelow (equations z) (variables c.args.trail.now) in subst P (sym e) c.requires

pub solve-requires-clause-remembers : goal.solve-requires-clause-remembers
solve-requires-clause-remembers c = c.new-compared.ensures c.args.trail.now.0 (equations c.push.new.self.items)

pub returns : goal.returns
returns c =
    let e : c.push.new.self.items ≡ c.args.pair ∷ [] = c.in-Ok.ensures.items ∙ ap (λ (z : List Pair). z ++ c.args.pair ∷ []) c.new-stack.ensures.items in
    let P : List Pair → Type 0 = λ z. Settled c.solve.result c.args.trail.now (equations z) c.solve.new.trail in subst P e c.solve.ensures

pub returns-in-Err : goal.returns-in-Err
returns-in-Err c = grows_same c.args.trail.now
