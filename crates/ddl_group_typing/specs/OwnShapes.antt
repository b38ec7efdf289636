-- Records and unions as conditions read them, where the variables of a group are replaced.
use Rattle.std.specs.Prelude.{ℕ, zero, suc, List, [], ◌∷◌}
use Rattle.ddl_types.specs.Types.{Sub}
use Rattle.ddl_judging.specs.Shapes.{Shape, Shapes}
use Rattle.ddl_typing.specs.Closed.{EachIsBelow}
use Rattle.ddl_typing.specs.Replaced.{types_on}
use Rattle.ddl_group_typing.specs.WellTyped.{AreClosedBits}

-- one without variables of its own is of the group, or has none at all: its types are over those of the group; one of an
-- earlier group stays
abbrev pub shape_by : ℕ → Shape → Sub → Shape
shape_by zero s f = record s { types = types_on s.types f }
shape_by (suc k) s f = s

abbrev pub shape_on : Shape → Sub → Shape
shape_on s f = shape_by s.vars s f

abbrev pub list_on : List Shape → Sub → List Shape
list_on [] f = []
list_on (s ∷ ss) f = shape_on s f ∷ list_on ss f

-- the types of bitdata have no variables
abbrev pub shapes_on : Shapes → Sub → Shapes
shapes_on ss f = record ss { places = list_on ss.places f }

-- one with variables of its own has types over these alone
abbrev pub ShapeClosesBy : ℕ → Shape → Type 0
ShapeClosesBy zero s = Unit {0}
ShapeClosesBy (suc k) s = EachIsBelow s.types (suc k)

abbrev pub EachCloses : List Shape → Type 0
EachCloses [] = Unit {0}
EachCloses (s ∷ ss) = ShapeClosesBy s.vars s × EachCloses ss

pub record ShapesClose (ss : Shapes) : Type 0 where
  pub places : EachCloses ss.places
  pub bitdata : AreClosedBits ss.bitdata
