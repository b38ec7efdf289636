-- A solver as it is seen: the accepted equations, the bindings that solve them, and the number of variables.
use Rattle.std.specs.Prelude.{◌≡◌, ℕ, List}
use Rattle.ddl_types.specs.Types.{Ty, Ty.var, Ty.con, Sub}
use Rattle.ddl_unify.specs.declared.store.Bound.{Bound}
use Rattle.ddl_unify.specs.declared.store.Pair.{Pair}
use Rattle.ddl_unify.specs.Equations.{Equation}
use Rattle.ddl_unify.specs.Bindings as b
use Rattle.ddl_unify.specs.View as v

-- the equations accepted so far, the first one first
abbrev pub accepted : (List Pair × List Bound × ℕ) → List Equation
accepted s = v.equations s.0

-- the solution that is kept
abbrev pub solution : (List Pair × List Bound × ℕ) → Sub
solution s = b.solution (v.bounds s.1)

-- how many variables there are
abbrev pub variables : (List Pair × List Bound × ℕ) → ℕ
variables s = s.2

-- no variable, or one that the solution leaves as it is
abbrev pub IsFree : Ty → Sub → Type 0
IsFree (var v) f = f v ≡ var v
IsFree (con h ts) f = Unit {0}
