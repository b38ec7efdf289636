-- What is said of each part of solving.
use Rattle.std.specs.Prelude.{◌≡◌, ◌<◌, ◌≤◌, ◌+◌, ℕ, List, [], ◌∷◌, length, drop, ◌⊎◌, ◌||◌, Option, Some, None, Bool, true, false, Result, Ok, Err}
use Rattle.std.specs.Prelude.{MatchOption}
use Rattle.ddl_base.specs.declared.memory.NoMemory.{NoMemory}
use Rattle.ddl_types.specs.Types.{Ty, Ty.var, Sub, on, Below}
use Rattle.ddl_unify.specs.declared.trail.Trail.{Trail}
use Rattle.ddl_unify.specs.Occurs.{has, size, is_var}
use Rattle.ddl_unify.specs.Heads.{IsCon}
use Rattle.ddl_unify.specs.Measures.{weighed, cost, weight, steps}
use Rattle.ddl_unify.specs.Equations.{Equation, equal, Solves, EachBelow, Apart, Holds}
use Rattle.ddl_unify.specs.Bindings as b
use Rattle.ddl_unify.specs.Bindings.{Binding, Agrees, Unbound, Sound}
use Rattle.ddl_unify.specs.Trails.{bindings, solution, variables, free, Grows}

-- a type that is read as another, and weighs no more
pub record Followed (t : Trail) (x u : Ty) : Type 0 where
  pub same : on u (solution t) ≡ on x (solution t)
  pub lighter : weighed u (cost (bindings t)) ≤ weighed x (cost (bindings t))

-- the end of a chain: a variable that is not bound, or a type that is none
abbrev pub IsEnd : Trail → Ty → Type 0
IsEnd t x = MatchOption (is_var x) (Unit {0}) (λ v. Unbound v (bindings t))

-- a type is read as a variable that is not bound
pub record Ends (t : Trail) (x : Ty) (v : ℕ) : Type 0 where
  pub free : Unbound v (bindings t)
  pub same : on x (solution t) ≡ on (var v) (solution t)
  pub within : Below x (variables t) → v < variables t

-- a type that is no variable, read as another is
pub record Opened (t : Trail) (x r : Ty) : Type 0 where
  pub head : IsCon r
  pub same : on r (solution t) ≡ on x (solution t)
  pub below : Below r (variables t)

-- a variable that is not bound, and a type that it may be made equal to
pub record MayBind (t : Trail) (v : ℕ) (x : Ty) : Type 0 where
  pub free : Unbound v (bindings t)
  pub within : v < variables t
  pub below : Below x (variables t)

-- a variable that is marked was read, and the variable v does not stand there
abbrev pub Marks : (ℕ → Bool) → Trail → ℕ → Type 0
Marks seen t v = (n : ℕ) → seen n ≡ true → has (on (var n) (solution t)) v ≡ false

-- one more variable may be marked
abbrev pub MarkedOne : (ℕ → Bool) → (ℕ → Bool) → ℕ → Type 0
MarkedOne seen seen2 n = (m : ℕ) → seen2 m ≡ true → (m ≡ n) ⊎ (seen m ≡ true)

-- whether a variable stands in one of the types of a list, as they are read
abbrev pub list_has : ℕ → Sub → List Ty → Bool
list_has v f [] = false
list_has v f (t ∷ ts) = has (on t f) v || list_has v f ts

-- the variable that the first type is read as, where the second is read as a larger type that holds it
abbrev pub Held : Trail → Ty → Ty → Option ℕ → Type 0
Held t l r None = Holds (on l (solution t)) (on r (solution t)) → ⊥
Held t l r (Some v) = (on l (solution t) ≡ var v) × Holds (var v) (on r (solution t))

-- two types that are no variables, taken apart: the equations above the first n of them tell the two equal
pub record Split (l r : Ty) (es es2 : List Equation) : Type 0 where
  pub there : (f : Sub) → Solves f es → on l f ≡ on r f → Solves f es2
  pub back : (n : ℕ) → n ≤ length es → (f : Sub) → Solves f (drop n es2) → Solves f (drop n es) × (on l f ≡ on r f)
  pub lighter : (bs : List Binding)
      → weight bs es2 < size (on l (b.solution bs)) + size (on r (b.solution bs)) + weight bs es
  pub below : (n : ℕ) → Below l n → Below r n → EachBelow es n → EachBelow es2 n

abbrev pub SplitIs : Bool → Ty → Ty → List Equation → List Equation → Type 0
SplitIs true l r es es2 = Split l r es es2
SplitIs false l r es es2 = Apart l r

-- one step of solving, from the bindings and what is to be solved beside l = r, to those after it, of which
-- those above the first n tell what those above the first n told, and l = r
pub record Step (t : Trail) (es : List Equation) (l r : Ty) (t2 : Trail) (es2 : List Equation) : Type 0 where
  pub there : (f : Sub) → Agrees f (bindings t) → Solves f es → on l f ≡ on r f → Agrees f (bindings t2) × Solves f es2
  pub back : (n : ℕ) → n ≤ length es → (f : Sub) → Agrees f (bindings t2) → Solves f (drop n es2)
      → Agrees f (bindings t) × Solves f (drop n es) × (on l f ≡ on r f)
  pub fewer : steps (free t2) (weight (bindings t2) es2) < steps (free t) (weight (bindings t) (equal l r ∷ es))
  pub below : EachBelow es2 (variables t)

-- no solution makes the two equal that agrees with the bindings
abbrev pub ApartUnder : Trail → Ty → Ty → Type 0
ApartUnder t l r = (f : Sub) → Agrees f (bindings t) → on l f ≡ on r f → ⊥

-- what a step answers: whether it could be made
abbrev pub Turned : Result Bool NoMemory → Trail → List Equation → Ty → Ty → Trail → List Equation → Type 0
Turned (Ok true) t es l r t2 es2 = Grows t t2 × Step t es l r t2 es2
Turned (Ok false) t es l r t2 es2 = Grows t t2 × ApartUnder t l r
Turned (Err d) t es l r t2 es2 = Grows t t2

-- what binding a variable to a type answers, whatever is left to solve
abbrev pub BindIs : Result Bool NoMemory → Trail → ℕ → Ty → Trail → Type 0
BindIs d t v x t2 = (es : List Equation) → EachBelow es (variables t) → Turned d t es (var v) x t2 es

-- what solving a list leaves: the bindings say what they said and the list too
pub record Solved (t : Trail) (es : List Equation) (t2 : Trail) : Type 0 where
  pub there : (f : Sub) → Agrees f (bindings t) → Solves f es → Agrees f (bindings t2)
  pub back : (f : Sub) → Agrees f (bindings t2) → Agrees f (bindings t) × Solves f es

-- no solution of a list agrees with the bindings
abbrev pub Insoluble : Trail → List Equation → Type 0
Insoluble t es = (f : Sub) → Agrees f (bindings t) → Solves f es → ⊥

-- what solving a list answers
abbrev pub Settled : Result Bool NoMemory → Trail → List Equation → Trail → Type 0
Settled (Ok true) t es t2 = Grows t t2 × Solved t es t2
Settled (Ok false) t es t2 = Grows t t2 × Insoluble t es
Settled (Err d) t es t2 = Grows t t2

-- what is bound and what is left to solve say together what was to be solved
pub record Going (t0 : Trail) (es0 : List Equation) (t : Trail) (es : List Equation) : Type 0 where
  pub grows : Grows t0 t
  pub there : (f : Sub) → Agrees f (bindings t0) → Solves f es0 → Agrees f (bindings t) × Solves f es
  pub back : (f : Sub) → Agrees f (bindings t) → Solves f es → Agrees f (bindings t0) × Solves f es0
  pub below : EachBelow es (variables t)

-- what trying to solve an equation answers: where it is not solved, the bindings stay
abbrev pub Tried : Result Bool NoMemory → Trail → Ty → Ty → Trail → Type 0
Tried (Ok true) t l r t2 = Grows t t2 × Sound (bindings t2) × Solved t (equal l r ∷ []) t2
Tried (Ok false) t l r t2 = (t2 ≡ t) × ApartUnder t l r
Tried (Err d) t l r t2 = t2 ≡ t
