-- What the turn of one demand leaves of a solver.
use Rattle.std.specs.Prelude.{◌≡◌, ◌==◌, ℕ, ◌+◌, ◌<◌, List, [], ◌∷◌, ◌++◌, All, if◌then◌else◌, Bool, true, false, Option, Some, None}
use Rattle.ddl_base.specs.declared.span.Span.{Span}
use Rattle.ddl_types.specs.Types.{Ty, Sub, Head, on, Below}
use Rattle.ddl_types.specs.TyView.{ty_view}
use Rattle.ddl_unify.specs.Equations.{Equation, Unsolvable, Endless}
use Rattle.ddl_unify.specs.Refused.{AreHeld, AreRead}
use Rattle.ddl_growing.specs.declared.refusal.SettleError.{SettleError}
use Rattle.ddl_growing.specs.declared.refusal.SettleError.TheVariants as e
use Rattle.ddl_growing.specs.declared.turn.Turn.{Turn}
use Rattle.ddl_growing.specs.declared.turn.Turn.TheVariants as turn
use Rattle.ddl_judging.specs.Demands.{Asked, subjects}
use Rattle.ddl_growing.specs.Giving.{Given, gives}
use Rattle.ddl_growing.specs.Heads.{heads_of}
use Rattle.ddl_judging.specs.Shapes.{Shape, Shapes}

-- a solver: its accepted equations, their solution, and the number of variables
pub record Solved : Type 0 where
  pub accepted : List Equation
  pub solution : Sub
  pub variables : ℕ

-- the types of the members speak of the place's own variables, or, where it has none, of those that there are
abbrev pub IsShape : ℕ → Shape → Type 0
IsShape n s = All (λ t. Below t (if s.vars == 0 then n else s.vars)) s.types

abbrev pub AreShapes : ℕ → Shapes → Type 0
AreShapes n ss = All (IsShape n) ss.places × All (λ b. IsShape n b.shape) ss.bitdata

-- with one more equation there is no solution, and its sides are not endless: they are told as the solution reads them
abbrev pub Clashes : List Equation → Sub → Equation → Ty → Ty → Type 0
Clashes es f q l r = AreRead l r f q.left q.right × Unsolvable (es ++ q ∷ []) × (Endless (on q.left f) (on q.right f) → ⊥)

-- an equation is refused, at this place
abbrev pub IsRefusal : SettleError → Span → Solved → Equation → Type 0
IsRefusal (e.Clash s l r) span z q = (s ≡ span) × Clashes z.accepted z.solution q (ty_view l) (ty_view r)
IsRefusal (e.Endless s v x) span z q = (s ≡ span) × AreHeld v (ty_view x) z.solution q.left q.right
IsRefusal (e.Wrong s why) span z q = ⊥
IsRefusal (e.Unresolved s) span z q = ⊥
IsRefusal e.NoMemory span z q = Unit {0}

-- of these equations the first ones are accepted, and the next one is refused
pub record IsStopped (es : List Equation) (span : Span) (old new : Solved) (err : SettleError) : Type 0 where
  pub before : List Equation
  pub after : List Equation
  pub refused : Equation
  pub split : es ≡ before ++ refused ∷ after
  pub accepted : new.accepted ≡ old.accepted ++ before
  pub refusal : IsRefusal err span new refused

-- all these equations are accepted, and there are so many more variables
pub record HasAdded (es : List Equation) (vars : ℕ) (old new : Solved) : Type 0 where
  pub accepted : new.accepted ≡ old.accepted ++ es
  pub variables : new.variables ≡ old.variables + vars

-- they are added, or one is refused
abbrev pub AreStopped : List Equation → Span → Solved → Solved → SettleError → Type 0
AreStopped es span old new e.NoMemory = Unit {0}
AreStopped es span old new err = IsStopped es span old new err

-- what a demand gives at the heads of its subjects
pub record AtHeads (ss : Shapes) (a : Asked) (old : Solved) (P : Given → Type 0) : Type 0 where
  pub heads : List Head
  pub known : heads_of (subjects a.what) old.solution ≡ Some heads
  pub so : P (gives ss a.what heads old.variables)

-- a demand waits as long as not all heads are known; else what it gives is nothing, or is added
abbrev pub IsTurn : Shapes → Asked → Solved → Solved → Turn → Type 0
IsTurn ss a old new turn.Waits = (heads_of (subjects a.what) old.solution ≡ None) × (new ≡ old)
IsTurn ss a old new turn.Silent = AtHeads ss a old (λ g. (g.equations ≡ []) × (g.vars ≡ 0)) × (new ≡ old)
IsTurn ss a old new turn.Adds = AtHeads ss a old (λ g. HasAdded g.equations g.vars old new)

-- or one of the equations that it gives is refused
abbrev pub IsNoTurn : Shapes → Asked → Solved → Solved → SettleError → Type 0
IsNoTurn ss a old new e.NoMemory = Unit {0}
IsNoTurn ss a old new err = AtHeads ss a old (λ g. IsStopped g.equations a.span old new err)
