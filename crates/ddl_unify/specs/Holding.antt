-- What a solver keeps, and what adding an equation does to it.
use Rattle.std.specs.Prelude.{◌≡◌, List, [], ◌∷◌, ◌++◌, Result, Ok, Err}
use Rattle.ddl_types.specs.Types.{Ty, Sub}
use Rattle.ddl_unify.specs.declared.store.Pair.{Pair}
use Rattle.ddl_unify.specs.declared.trail.Trail.{Trail}
use Rattle.ddl_unify.specs.declared.refusal.EquateError.{EquateError}
use Rattle.ddl_unify.specs.Equations.{Equation, equal, Solves}
use Rattle.ddl_unify.specs.Bindings.{Agrees, Sound}
use Rattle.ddl_unify.specs.Refused.{Refused}
use Rattle.ddl_unify.specs.Trails.{bindings, solution, variables}
use Rattle.ddl_unify.specs.View.{equations}

-- the bindings are sound, and say what the equations say: so they are a most general solution
pub record Holding (es : List Equation) (t : Trail) : Type 0 where
  pub sound : Sound (bindings t)
  pub there : (f : Sub) → Solves f es → Agrees f (bindings t)
  pub back : (f : Sub) → Agrees f (bindings t) → Solves f es

-- one more equation
abbrev pub Adds : List Pair → Ty → Ty → List Pair → Type 0
Adds ps l r ps2 = equations ps2 ≡ equations ps ++ equal l r ∷ []

-- what adding an equation answers: a refusal changes nothing
abbrev pub Accepts : Result (Unit {0}) EquateError → List Pair → Trail → Ty → Ty → List Pair → Trail → Type 0
Accepts (Ok u) ps t l r ps2 t2 = Adds ps l r ps2 × Holding (equations ps2) t2 × (variables t2 ≡ variables t)
Accepts (Err d) ps t l r ps2 t2 = (ps2 ≡ ps) × (t2 ≡ t) × Refused d (equations ps) (solution t) l r
