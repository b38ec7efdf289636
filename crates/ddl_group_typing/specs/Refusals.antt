-- Why a group is refused: by what it writes, by an equation, by a condition, or by a `case` of which something is left.
use Rattle.std.specs.Prelude.{◌≡◌, ℕ, List, [], ◌∷◌, ◌++◌, map, length, All, Bool, Option, Some, None}
use Rattle.ddl_base.specs.declared.span.Span.{Span}
use Rattle.ddl_types.specs.Types.{Ty, Sub}
use Rattle.ddl_unify.specs.Equations.{Equation, MostGeneral}
use Rattle.ddl_unify.specs.Refused.{AreHeld}
use Rattle.ddl_judging.specs.Demands.{Asked}
use Rattle.ddl_judging.specs.Judging.{Wrong}
use Rattle.ddl_judging.specs.Shapes.{Shapes}
use Rattle.ddl_growing.specs.Turns.{Clashes}
use Rattle.ddl_conditions.specs.Growing.{Added, FirstOf, Grows, State}
use Rattle.ddl_conditions.specs.Settled.{IsEnd, IsFalse, IsLeft, IsWrong}
use Rattle.ddl_schemes.specs.Renaming.{seen}
use Rattle.ddl_rules.specs.Asks.{Ask, equates, demands}
use Rattle.ddl_typing.specs.Gaps.{Gap, first_gap, or_later}
use Rattle.ddl_typing.specs.Groups.{equations_of}
use Rattle.ddl_group_typing.specs.Tables.{Done, Opening, Table, asked_in, elaborated_in, shape_of}
use Rattle.ddl_group_typing.specs.Whole.{AreTyped, IsSolved, with_group}

-- why, and where; what a header, a bitdata or a class has wrong is told by a reason of its own
pub data Refusal (H : Type 0) : Type 0 where
  header : H → Refusal H
  clash : Span → Ty → Ty → Refusal H
  endless : Span → ℕ → Ty → Refusal H
  wrong : Span → Wrong → Refusal H
  unresolved : Span → Refusal H
  no_alternative : Gap → Refusal H

-- the equations of a list of asks, each with its place
abbrev pub placed : List Ask → List Added
placed [] = []
placed (equates e s ∷ as_) = record { equation = e; span = s } ∷ placed as_
placed (demands d s ∷ as_) = placed as_

-- an equation is refused by those before it, which have a most general solution: it is endless, or with it there is none
pub data IsNoEquation {H : Type 0} (es : List Equation) (a : Added) : Refusal H → Type 0 where
  clashes : {f : Sub} {l r : Ty} → MostGeneral es f → Clashes es f a.equation l r → IsNoEquation es a (clash a.span l r)
  holds_itself : {f : Sub} {v : ℕ} {u : Ty} → MostGeneral es f → AreHeld v u f a.equation.left a.equation.right → IsNoEquation es a (endless a.span v u)

-- the first of a list of equations that is refused by those before it, and by those in front of the list
pub record IsFirstNone {H : Type 0} (es : List Equation) (list : List Added) (e : Refusal H) : Type 0 where
  pub before : List Added
  pub here : Added
  pub after : List Added
  pub split : list ≡ before ++ here ∷ after
  pub refused : IsNoEquation (es ++ map (λ a. a.equation) before) here e

-- the first gap in typed bodies, a grammar's or a value's
abbrev pub first_in : (ℕ → Bool) → Shapes → List Done → Option Gap
first_in is_value ss [] = None
first_in is_value ss (d ∷ ds) = or_later (first_gap (is_value d.number) ss d.tree) (first_in is_value ss ds)

-- the bodies that a group adds to a table
abbrev pub shapes_of : Table → Shapes
shapes_of z = record { places = map shape_of z.places; bitdata = z.bitdata }

-- the reason of a group, each kind where there is none of those before it; `read` is the first that its headers have
module _ {H : Type 0} (read : Option H) (is_value : ℕ → Bool) (o : Opening) (z : Table) where
  pub data IsRefused : Refusal H → Type 0 where
    in_header : {h : H} → read ≡ Some h → IsRefused (header h)
    in_equations : {e : Refusal H} → read ≡ None → IsFirstNone [] (placed (elaborated_in o z).asks) e → IsRefused e
    in_growth : {e : Refusal H} {s : State} → read ≡ None → Grows (asked_in o z) (equations_of (elaborated_in o z).asks) (elaborated_in o z).state.next s
        → IsFirstNone (equations_of (elaborated_in o z).asks) s.added e → IsRefused e
    by_false : {s : State} {es : List Equation} {f : Sub} {a : Asked} {why : Wrong} → read ≡ None
        → IsEnd (asked_in o z) (equations_of (elaborated_in o z).asks) (elaborated_in o z).state.next s es f
        → FirstOf (IsFalse (asked_in o z) f) (asked_in o z).asked a → IsWrong (asked_in o z) f why a → IsRefused (wrong a.span why)
    by_left : {s : State} {es : List Equation} {f : Sub} {a : Asked} → read ≡ None
        → IsEnd (asked_in o z) (equations_of (elaborated_in o z).asks) (elaborated_in o z).state.next s es f
        → All (λ b. IsFalse (asked_in o z) f b → ⊥) (asked_in o z).asked → FirstOf (IsLeft (asked_in o z) f) (asked_in o z).asked a
        → IsRefused (unresolved a.span)
    by_gap : {f : Sub} {kept variables : List ℕ} {g : Gap} → read ≡ None → IsSolved o z f kept variables
        → (let final = seen (length z.places) variables f in let y = with_group o z (length variables) final kept in
        first_in is_value (shapes_of y) (Rattle.ddl_group_typing.specs.Finals.final_bodies (length variables) final o.members o.members
        (elaborated_in o z).trees) ≡ Some g)
        → IsRefused (no_alternative g)

-- what the types in a refusal name: where each record and union stands, by its number, and which declaration each bitdata is
pub record Named : Type 0 where
  pub places : List Span
  pub bitdata : List ℕ

-- a type in a refusal of a group speaks of what its bodies made, and of what there was before
abbrev pub named_in : Opening → Table → Named
named_in o z = record { places = map (λ p. p.span) (elaborated_in o z).state.places; bitdata = o.declared }

-- the first group that has a reason has this one, with what it names, and the groups before it are typed
pub record IsFirstRefused (opened : List ℕ → Table → Opening) {H : Type 0} (read : List ℕ → Table → Option H) (is_value : ℕ
    → Bool) (groups : List (List ℕ)) (start : Table) (e : Refusal H) (names : Named) : Type 0 where
  pub before : List (List ℕ)
  pub here : List ℕ
  pub after : List (List ℕ)
  pub split : groups ≡ before ++ here ∷ after
  pub table : Table
  pub typed : AreTyped opened before start table
  pub refused : IsRefused (read here table) is_value (opened here table) table e
  pub told : names ≡ named_in (opened here table) table
