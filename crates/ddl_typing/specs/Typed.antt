-- Typed forms and lists of typed parts, each with what it asks of types and what is left behind it.
use Rattle.std.specs.Prelude.{ℕ, List, [], ◌∷◌, Option}
use Rattle.ddl_base.specs.declared.span.Span.{Span}
use Rattle.ddl_types.specs.Types.{Ty}
use Rattle.ddl_typed.specs.Tree as t
use Rattle.ddl_rules.specs.Asks.{Ask, State}

-- a form with its type and span, what it asks in text order, outer before inner, and what is left and noted behind it; of a
-- state `next` counts the types that rules left free so far, and no type depends on it
pub record Typed : Type 0 where
  pub form : t.Form
  pub of : Ty
  pub at : Span
  pub asks : List Ask
  pub state : State

abbrev pub typed : t.Form → Ty → Span → List Ask → State → Typed
typed g u s as_ z = record { form = g; of = u; at = s; asks = as_; state = z }

abbrev pub tree_of : Typed → t.Expr
tree_of m = t.expr m.form m.of m.at

-- parts of one type
pub record TypedAll : Type 0 where
  pub trees : List t.Expr
  pub of : Ty
  pub asks : List Ask
  pub state : State

-- parts with names, each with its type
pub record TypedNamed : Type 0 where
  pub trees : List t.Expr
  pub names : List (List ℕ)
  pub types : List Ty
  pub asks : List Ask
  pub state : State

-- items of a block: the type of `$$`, the fields with their types, and the type of the last item
pub record TypedItems : Type 0 where
  pub items : t.Items
  pub result : Option Ty
  pub names : List (List ℕ)
  pub types : List Ty
  pub last : Ty
  pub asks : List Ask
  pub state : State

-- arguments, and the values among them
pub record TypedArgs : Type 0 where
  pub args : t.Args
  pub values : List t.Expr
  pub asks : List Ask
  pub state : State

-- alternatives of a `case`, which have this type
pub record TypedCases : Type 0 where
  pub cases : t.Cases
  pub of : Ty
  pub asks : List Ask
  pub state : State

-- how often `Many` repeats
pub record TypedBounds : Type 0 where
  pub bounds : t.Bounds
  pub asks : List Ask
  pub state : State

-- a written type
pub record TypedType : Type 0 where
  pub of : Ty
  pub state : State

-- ---- lists of types

abbrev pub first_type : List Ty → Ty
first_type [] = Rattle.ddl_rules.specs.Asks.unit_type
first_type (u ∷ us) = u

abbrev pub rest_types : List Ty → List Ty
rest_types [] = []
rest_types (u ∷ us) = us
