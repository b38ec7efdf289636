-- What is known once some groups of declarations are typed, and what the headers of a further group give.
use Rattle.std.specs.Prelude.{ℕ, List, map, Bool, Option, Some, None}
use Rattle.ddl_types.specs.Types.{Ty}
use Rattle.ddl_judging.specs.Shapes.{BitShape, Shape, Shapes}
use Rattle.ddl_conditions.specs.Growing.{Group}
use Rattle.ddl_typed.specs.Specification.{Place}
use Rattle.ddl_typed.specs.Tree as t
use Rattle.ddl_rules.specs.Asks.{Known, State}
use Rattle.ddl_typing.specs.Groups.{Body, TypedGroup, demands_of, elaborated_group}

-- a declaration's typed body, by its number
pub record Done : Type 0 where
  pub number : ℕ
  pub tree : t.Expr

-- the declarations by their numbers, the typed bodies, the records and unions, the bitdata and which declaration each of them
-- is, and the texts of `Fail` and how many grammar arguments there were
pub record Table : Type 0 where
  pub known : ℕ → Known
  pub done : List Done
  pub places : List Place
  pub bitdata : List BitShape
  pub declared : List ℕ
  pub texts : List (List ℕ)
  pub sites : ℕ

-- what the headers of a group give: its members that have bodies, these with their own types over the first variables, what is
-- known of each member while the group is solved, the types of its declarations in order, whether each of these has parameters,
-- and where the bodies begin, with the bitdata until then and which declaration each of them is
pub record Opening : Type 0 where
  pub members : List ℕ
  pub bodies : List Body
  pub own : ℕ → Option Known
  pub roots : List Ty
  pub with_parameters : Bool
  pub state : State
  pub bitdata : List BitShape
  pub declared : List ℕ

abbrev pub or_known : Option Known → Known → Known
or_known None it = it
or_known (Some own) it = own

-- the group's own declarations, and the others
abbrev pub overlaid : (ℕ → Option Known) → (ℕ → Known) → ℕ → Known
overlaid own known d = or_known (own d) (known d)

abbrev pub shape_of : Place → Shape
shape_of p = record { vars = p.vars; tagged = p.tagged; names = p.names; types = p.types }

abbrev pub elaborated_in : Opening → Table → TypedGroup
elaborated_in o z = elaborated_group o.bodies (overlaid o.own z.known) o.state

-- the records and unions as conditions read them, those of the group with the types that they have so far
abbrev pub shapes_in : Opening → Table → Shapes
shapes_in o z = record { places = map shape_of (elaborated_in o z).state.places; bitdata = o.bitdata }

-- what the group asks beside equations
abbrev pub asked_in : Opening → Table → Group
asked_in o z = record { shapes = shapes_in o z; asked = demands_of (elaborated_in o z).asks; roots = o.roots; with_parameters = o.with_parameters }
