-- The list of equations as it grows by demands.
use Rattle.std.specs.Prelude.{◌≡◌, ℕ, ◌+◌, List, [], ◌∷◌, ◌++◌, map, All, if◌then◌else◌, Some, Bool, true}
use Rattle.ddl_base.specs.declared.span.Span.{Span}
use Rattle.ddl_types.specs.Types.{Ty, Ty.var, Ty.con, Tys.none, Sub, on, Head, Head.int}
use Rattle.ddl_unify.specs.Equations.{Equation, equal, MostGeneral}
use Rattle.ddl_judging.specs.Demands.{Asked, subjects, numbered, adds}
use Rattle.ddl_growing.specs.Giving.{gives}
use Rattle.ddl_growing.specs.Heads.{heads_of}
use Rattle.ddl_judging.specs.Shapes.{Shapes}
use Rattle.ddl_conditions.specs.Standing.{Stands}

-- the group: its shapes, what is asked in text order, the types of its declarations, and whether each of these has parameters
pub record Group : Type 0 where
  pub shapes : Shapes
  pub asked : List Asked
  pub roots : List Ty
  pub with_parameters : Bool

-- an equation that was added, and for which demand
pub record Added : Type 0 where
  pub equation : Equation
  pub span : Span

-- the equations that were added, the demands that have added none yet, and the next variable
pub record State : Type 0 where
  pub added : List Added
  pub waiting : List Asked
  pub next : ℕ

abbrev pub added_at : Span → List Equation → List Added
added_at s es = map (λ e. record { equation = e; span = s }) es

-- the equations of a state: those at the beginning, and those that were added
abbrev pub equations : List Equation → State → List Equation
equations es s = es ++ map (λ a. a.equation) s.added

-- the first element that is such a one
pub record FirstOf {A : Type 0} (P : A → Type 0) (xs : List A) (x : A) : Type 0 where
  pub before : List A
  pub after : List A
  pub split : xs ≡ before ++ x ∷ after
  pub none_before : All (λ y. P y → ⊥) before
  pub found : P x

-- a demand whose subjects have heads under a solution
pub record IsReady (f : Sub) (a : Asked) : Type 0 where
  pub heads : List Head
  pub known : heads_of (subjects a.what) f ≡ Some heads

-- a number is wanted of a variable, and is not kept: it may become `int`
pub record IsFree (g : Group) (f : Sub) (a : Asked) : Type 0 where
  pub of : Ty
  pub number : numbered a.what ≡ Some of
  pub variable : ℕ
  pub free : on of f ≡ var variable
  pub unkept : g.with_parameters ≡ true → Stands g.shapes g.roots f variable → ⊥

-- the first demand in text order that is ready adds its equations; where none is, the first variable of numbers becomes `int`
pub data Step (g : Group) (f : Sub) (s : State) : State → Type 0 where
  adding : (a : Asked) (hs : List Head) (before after : List Asked) → s.waiting ≡ before ++ a ∷ after → All (λ b. IsReady f b → ⊥) before
      → heads_of (subjects a.what) f ≡ Some hs
      → Step g f s (record {
        added = s.added ++ added_at a.span (gives g.shapes a.what hs s.next).equations;
        waiting = before ++ after;
        next =
            s.next + (gives g.shapes a.what hs s.next).vars;
      })
  becoming_int : (a : Asked) → All (λ b. IsReady f b → ⊥) s.waiting → (first : FirstOf (IsFree g f) g.asked a)
      → Step g f s (record { added = s.added ++ added_at a.span (equal (con int none) first.found.of ∷ []); waiting = s.waiting; next = s.next })

-- the demands that may add equations, in text order
abbrev pub adding_ones : List Asked → List Asked
adding_ones [] = []
adding_ones (a ∷ others) = if adds a.what then a ∷ adding_ones others else adding_ones others

-- nothing is added yet
abbrev pub start : Group → ℕ → State
start g n = record { added = []; waiting = adding_ones g.asked; next = n }

-- how the list grows from its beginning, as long as it has a solution
pub data Grows (g : Group) (es : List Equation) (n : ℕ) : State → Type 0 where
  begun : Grows g es n (start g n)
  further : {s t : State} (f : Sub) → Grows g es n s → MostGeneral (equations es s) f → Step g f s t → Grows g es n t

-- no rule adds anything more
pub record IsDone (g : Group) (f : Sub) (s : State) : Type 0 where
  pub none_ready : All (λ b. IsReady f b → ⊥) s.waiting
  pub none_free : All (λ a. IsFree g f a → ⊥) g.asked
