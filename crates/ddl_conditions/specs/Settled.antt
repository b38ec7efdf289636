-- Which demands are false, kept or left, and how the list of equations ends.
use Rattle.std.specs.Prelude.{◌≡◌, ℕ, suc, List, [], ◌∷◌, ◌++◌, map, true}
use Rattle.ddl_types.specs.Types.{Sub}
use Rattle.ddl_unify.specs.Equations.{Equation, MostGeneral}
use Rattle.ddl_judging.specs.Demands.{Asked, may_be_kept, on_demand}
use Rattle.ddl_conditions.specs.Growing.{Added, Group, Grows, IsDone, State, equations}
use Rattle.ddl_conditions.specs.InDemand.{InDemand}
use Rattle.ddl_judging.specs.Judging.{Judged, Wrong, holds, undecided, false_for}
use Rattle.ddl_conditions.specs.Standing.{Stands}

-- a demand is false for this reason
abbrev pub IsWrong : Group → Sub → Wrong → Asked → Type 0
IsWrong g f why a = Judged g.shapes (on_demand f a.what) (false_for why)

abbrev pub IsFalse : Group → Sub → Asked → Type 0
IsFalse g f a = (why : Wrong) × IsWrong g f why a

abbrev pub IsMet : Group → Sub → Asked → Type 0
IsMet g f a = Judged g.shapes (on_demand f a.what) holds

-- a demand that is neither true nor false is kept where its form may be, each of its variables stands in the types of the
-- group, and each declaration of the group has parameters
pub record IsKept (g : Group) (f : Sub) (a : Asked) : Type 0 where
  pub neither : Judged g.shapes (on_demand f a.what) undecided
  pub form : may_be_kept a.what ≡ true
  pub with_parameters : g.with_parameters ≡ true
  pub stand : (v : ℕ) → InDemand v (on_demand f a.what) → Stands g.shapes g.roots f v

pub record IsLeft (g : Group) (f : Sub) (a : Asked) : Type 0 where
  pub neither : Judged g.shapes (on_demand f a.what) undecided
  pub unkept : IsKept g f a → ⊥

-- each demand holds, or is kept; those that are kept, by their places
pub data AreKept (g : Group) (f : Sub) : ℕ → List Asked → List ℕ → Type 0 where
  none_left : {k : ℕ} → AreKept g f k [] []
  met : {k : ℕ} {a : Asked} {others : List Asked} {ks : List ℕ} → IsMet g f a → AreKept g f (suc k) others ks → AreKept g f k (a ∷ others) ks
  kept : {k : ℕ} {a : Asked} {others : List Asked} {ks : List ℕ} → IsKept g f a → AreKept g f (suc k) others ks → AreKept g f k (a ∷ others) (k ∷ ks)

-- the list has grown to its end, which has this most general solution
pub record IsEnd (g : Group) (es : List Equation) (n : ℕ) (s : State) (accepted : List Equation) (f : Sub) : Type 0 where
  pub grows : Grows g es n s
  pub done : IsDone g f s
  pub all : accepted ≡ equations es s
  pub solution : MostGeneral accepted f

-- those before it are accepted, and this one is not
pub record IsRefused (g : Group) (es : List Equation) (n : ℕ) (accepted : List Equation) (a : Added) : Type 0 where
  pub state : State
  pub grows : Grows g es n state
  pub before : List Added
  pub after : List Added
  pub split : state.added ≡ before ++ a ∷ after
  pub accepted_before : accepted ≡ es ++ map (λ b. b.equation) before
