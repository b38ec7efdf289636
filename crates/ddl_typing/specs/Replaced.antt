-- Typed forms, what they ask, and what is known, with each variable of their types replaced.
use Rattle.std.specs.Prelude.{ℕ, zero, suc, List, [], ◌∷◌, Option, Some, None}
use Rattle.ddl_types.specs.Types.{Ty, Sub, on}
use Rattle.ddl_types.specs.Conditions.{Condition, on_condition}
use Rattle.ddl_unify.specs.Equations.{equal}
use Rattle.ddl_judging.specs.Demands.{on_demand}
use Rattle.ddl_typed.specs.Specification.{Place}
use Rattle.ddl_typed.specs.Tree as t
use Rattle.ddl_rules.specs.Asks.{Ask, equates, demands, Env, Known, Local, State}
use Rattle.ddl_typing.specs.Retyped.{retyped, retyped_form, retyped_args, retyped_bounds, retyped_cases, retyped_items}
use Rattle.ddl_typing.specs.Typed.{Typed, TypedAll, TypedNamed, TypedItems, TypedArgs, TypedCases, TypedBounds, TypedType}
use Rattle.ddl_typing.specs.Names.{OneClass}

-- ---- types, trees and what is asked

abbrev pub types_on : List Ty → Sub → List Ty
types_on [] f = []
types_on (t ∷ ts) f = on t f ∷ types_on ts f

abbrev pub option_on : Option Ty → Sub → Option Ty
option_on None f = None
option_on (Some u) f = Some (on u f)

abbrev pub tree_on : t.Expr → Sub → t.Expr
tree_on e f = retyped e (λ u. on u f)

abbrev pub trees_on : List t.Expr → Sub → List t.Expr
trees_on [] f = []
trees_on (e ∷ es) f = tree_on e f ∷ trees_on es f

abbrev pub ask_on : Ask → Sub → Ask
ask_on (equates e s) f = equates (equal (on e.left f) (on e.right f)) s
ask_on (demands d s) f = demands (on_demand f d) s

abbrev pub asks_on : List Ask → Sub → List Ask
asks_on [] f = []
asks_on (a ∷ as_) f = ask_on a f ∷ asks_on as_ f

-- ---- what is left and what is known

-- a place of the group has no variables of its own: its types are over those of the group; one of an earlier group stays
abbrev pub place_by : ℕ → Place → Sub → Place
place_by zero p f = record p { types = types_on p.types f }
place_by (suc k) p f = p

abbrev pub place_on : Place → Sub → Place
place_on p f = place_by p.vars p f

abbrev pub places_on : List Place → Sub → List Place
places_on [] f = []
places_on (p ∷ ps) f = place_on p f ∷ places_on ps f

abbrev pub state_on : State → Sub → State
state_on z f = record z { places = places_on z.places f }

abbrev pub local_on : Local → Sub → Local
local_on l f = record l { of = on l.of f }

abbrev pub locals_on : List Local → Sub → List Local
locals_on [] f = []
locals_on (l ∷ ls) f = local_on l f ∷ locals_on ls f

abbrev pub conditions_on : List Condition → Sub → List Condition
conditions_on [] f = []
conditions_on (c ∷ cs) f = on_condition f c ∷ conditions_on cs f

-- a declaration of the group has no variables of its own: its types are over those of the group
abbrev pub known_by : ℕ → Known → Sub → Known
known_by zero it f = record it { params = types_on it.params f; of = on it.of f; conditions = conditions_on it.conditions f }
known_by (suc k) it f = it

abbrev pub known_on : Known → Sub → Known
known_on it f = known_by it.vars it f

abbrev pub all_known_on : (ℕ → Known) → Sub → ℕ → Known
all_known_on known f d = known_on (known d) f

abbrev pub env_on : Env → Sub → Env
env_on env f = record { locals = locals_on env.locals f; known = all_known_on env.known f }

-- ---- typed forms and parts

abbrev pub typed_on : Typed → Sub → Typed
typed_on m f = record { form = retyped_form m.form (λ u. on u f); of = on m.of f; at = m.at; asks = asks_on m.asks f; state = state_on m.state f }

abbrev pub all_on : TypedAll → Sub → TypedAll
all_on m f = record { trees = trees_on m.trees f; of = on m.of f; asks = asks_on m.asks f; state = state_on m.state f }

abbrev pub named_on : TypedNamed → Sub → TypedNamed
named_on m f = record { trees = trees_on m.trees f; names = m.names; types = types_on m.types f; asks = asks_on m.asks f; state = state_on m.state f }

abbrev pub items_on : TypedItems → Sub → TypedItems
items_on m f = record {
  items = retyped_items m.items (λ u. on u f);
  result = option_on m.result f;
  names = m.names;
  types = types_on m.types f;
  last =
      on m.last f;
  asks = asks_on m.asks f;
  state = state_on m.state f;
}

abbrev pub args_on : TypedArgs → Sub → TypedArgs
args_on m f = record { args = retyped_args m.args (λ u. on u f); values = trees_on m.values f; asks = asks_on m.asks f; state = state_on m.state f }

abbrev pub cases_on : TypedCases → Sub → TypedCases
cases_on m f = record { cases = retyped_cases m.cases (λ u. on u f); of = on m.of f; asks = asks_on m.asks f; state = state_on m.state f }

abbrev pub bounds_on : TypedBounds → Sub → TypedBounds
bounds_on m f = record { bounds = retyped_bounds m.bounds (λ u. on u f); asks = asks_on m.asks f; state = state_on m.state f }

abbrev pub written_on : TypedType → Sub → TypedType
written_on m f = record { of = on m.of f; state = state_on m.state f }

abbrev pub class_on : OneClass → Sub → OneClass
class_on c f = record { class = c.class; asks = asks_on c.asks f; state = state_on c.state f }
