-- How far the walk over the demands of a group has come, and what its steps promise.
use Rattle.std.specs.Prelude.{◌≡◌, ◌<◌, ◌+◌, ◌*◌, ℕ, List, [], ◌∷◌, ◌++◌, length, All, Bool, true, false, Some}
use Rattle.ddl_types.specs.Types.{Ty, Ty.var, Sub, on}
use Rattle.ddl_unify.specs.Equations.{Equation, MostGeneral}
use Rattle.ddl_growing.specs.declared.refusal.SettleError.{SettleError}
use Rattle.ddl_growing.specs.declared.refusal.SettleError.TheVariants as e
use Rattle.ddl_conditions.specs.Answer.{IsUnsettled}
use Rattle.ddl_judging.specs.Demands.{Asked, DemandBelow, numbered}
use Rattle.ddl_conditions.specs.Growing.{Group, Grows, IsDone, IsFree, IsReady, State, adding_ones, equations}
use Rattle.ddl_conditions.specs.Standing.{Stands}
use Rattle.ddl_growing.specs.Turns.{AreShapes, AtHeads, HasAdded, IsNoTurn, Solved}

-- the solver; the demands that were looked at and wait, and those not looked at; whether nothing was added since those behind
-- were found waiting; and the demands whose numbers were not looked at
pub record Place : Type 0 where
  pub solver : Solved
  pub behind : List Asked
  pub ahead : List Asked
  pub checked : Bool
  pub numbers : List Asked

-- no demand of these is ready
abbrev pub Wait : Sub → List Asked → Type 0
Wait f xs = All (λ a. IsReady f a → ⊥) xs

abbrev pub WaitIf : Bool → Sub → List Asked → Type 0
WaitIf true f xs = Wait f xs
WaitIf false f xs = Unit {0}

abbrev pub AreBelow : ℕ → List Asked → Type 0
AreBelow n xs = All (λ a. DemandBelow n a.what) xs

-- the variables of all types are those of the solver, whose solution is most general
pub record Fits (g : Group) (p : Place) : Type 0 where
  pub most : MostGeneral p.solver.accepted p.solver.solution
  pub behind : AreBelow p.solver.variables p.behind
  pub ahead : AreBelow p.solver.variables p.ahead
  pub numbers : AreBelow p.solver.variables p.numbers
  pub shapes : AreShapes p.solver.variables g.shapes
  pub asked : AreBelow p.solver.variables g.asked

-- the list has grown so far, those behind and those ahead may still add equations, and no number before those that were not
-- looked at is free
pub record Going (g : Group) (es : List Equation) (n : ℕ) (p : Place) : Type 0 where
  pub state : State
  pub grows : Grows g es n state
  pub accepted : p.solver.accepted ≡ equations es state
  pub variables : p.solver.variables ≡ state.next
  pub waiting : state.waiting ≡ p.behind ++ adding_ones p.ahead
  pub waited : WaitIf p.checked p.solver.solution p.behind
  pub passed : List Asked
  pub split : g.asked ≡ passed ++ p.numbers
  pub unfree : All (λ a. IsFree g p.solver.solution a → ⊥) passed
  pub fits : Fits g p

abbrev pub Onward : Group → Place → Place → Type 0
Onward g p q = (es : List Equation) (n : ℕ) → Going g es n p → Going g es n q

-- refused by an equation that is added
abbrev pub IsCut : Group → List Equation → ℕ → List Equation → Sub → SettleError → Type 0
IsCut g es n accepted f (e.Clash span l r) = IsUnsettled g es n accepted f (e.Clash span l r)
IsCut g es n accepted f (e.Endless span v x) = IsUnsettled g es n accepted f (e.Endless span v x)
IsCut g es n accepted f (e.Wrong span why) = ⊥
IsCut g es n accepted f (e.Unresolved span) = ⊥
IsCut g es n accepted f e.NoMemory = Unit {0}

abbrev pub Stops : Group → Place → Solved → SettleError → Type 0
Stops g p new err = (es : List Equation) (n : ℕ) → Going g es n p → IsCut g es n new.accepted new.solution err

-- what may still be done: each step does some of it
abbrev pub unchecked : Bool → ℕ
unchecked true = 0
unchecked false = 1

abbrev pub left : Place → ℕ
left p = 2 * length p.behind + 4 * length p.ahead + 2 * length p.numbers + unchecked p.checked

-- nothing is left to be looked at
pub record IsOver (p : Place) : Type 0 where
  pub checked : p.checked ≡ true
  pub none_ahead : p.ahead ≡ []
  pub no_numbers : p.numbers ≡ []

-- a step is made, or nothing is left
abbrev pub IsStep : Bool → Group → Place → Place → Type 0
IsStep true g p q = Onward g p q × (left q < left p)
IsStep false g p q = (q ≡ p) × IsOver p

-- of these demands the first that is ready adds what it gives
pub record HasTurn (g : Group) (xs rest : List Asked) (old new : Solved) : Type 0 where
  pub turned : Asked
  pub before : List Asked
  pub after : List Asked
  pub split : xs ≡ before ++ (turned ∷ after)
  pub remain : rest ≡ before ++ after
  pub wait : Wait old.solution before
  pub added : AtHeads g.shapes turned old (λ z. HasAdded z.equations z.vars old new)

-- or what it gives is refused
pub record HasNoTurn (g : Group) (xs : List Asked) (old new : Solved) (err : SettleError) : Type 0 where
  pub turned : Asked
  pub before : List Asked
  pub after : List Asked
  pub split : xs ≡ before ++ (turned ∷ after)
  pub wait : Wait old.solution before
  pub refused : IsNoTurn g.shapes turned old new err

-- a type of numbers that may become `int`
pub record MayBecomeInt (g : Group) (f : Sub) (t : Ty) : Type 0 where
  pub variable : ℕ
  pub free : on t f ≡ var variable
  pub unkept : g.with_parameters ≡ true → Stands g.shapes g.roots f variable → ⊥

-- the type of a free number, where it is one
pub record IsFreeAt (g : Group) (f : Sub) (a : Asked) (t : Ty) : Type 0 where
  pub number : numbered a.what ≡ Some t
  pub free : MayBecomeInt g f t

-- the list has grown to its end
pub record HasGrown (g : Group) (es : List Equation) (n : ℕ) (new : Solved) : Type 0 where
  pub state : State
  pub grows : Grows g es n state
  pub done : IsDone g new.solution state
  pub all : new.accepted ≡ equations es state
  pub variables : new.variables ≡ state.next
