-- The growth of a list of equations has one end, and what demands give is solved there.
use Rattle.std.specs.Prelude.{◌≡◌, ℕ, List, true}
use Rattle.ddl_types.specs.Types.{Sub}
use Rattle.ddl_unify.specs.Equations.{Equation, MostGeneral, Solves, Unsolvable}
use Rattle.ddl_judging.specs.Demands.{Asked, adds}
use Rattle.ddl_conditions.specs.Gave.{HaveGiven}
use Rattle.ddl_conditions.specs.Growing.{Group, Grows, IsDone, IsReady, State, equations}
use Rattle.ddl_conditions.specs.Settled.{IsMet}

-- no rule adds anything more, or there is no solution
pub data Ended (g : Group) (es : List Equation) (s : State) : Type 0 where
  done_with : (f : Sub) → MostGeneral (equations es s) f → IsDone g f s → Ended g es s
  unsolvable : Unsolvable (equations es s) → Ended g es s

-- whichever most general solutions are kept on the way, the end is the same
abbrev pub OneEnd : Type 0
OneEnd = (g : Group) (es : List Equation) (n : ℕ) (a b : State) → Grows g es n a → Ended g es a → Grows g es n b → Ended g es b → a ≡ b

-- a map that solves the list at its end, and under which no rule adds anything more, solves what each demand gives whose
-- subjects have heads
abbrev pub EndHasGiven : Type 0
EndHasGiven = (g : Group) (es : List Equation) (n : ℕ) (s : State) (f : Sub) → Grows g es n s → IsDone g f s → Solves f (equations es s) → HaveGiven g f

-- the subjects of a demand that holds, and may add equations, have heads
abbrev pub MetAreReady : Type 0
MetAreReady = (g : Group) (f : Sub) (a : Asked) → adds a.what ≡ true → IsMet g f a → IsReady f a
