-- What the walk's lists stand for.
use Rattle.std.specs.Prelude.{List, map, reverse}
use Rattle.ddl_types.specs.declared.ty.Ty as program
use Rattle.ddl_types.specs.Types.{Ty}
use Rattle.ddl_types.specs.TyView.{ty_view}
use Rattle.ddl_schemes.specs.declared.found.Found.{Found}
use Rattle.ddl_schemes.specs.Order.{Seen}

-- what has appeared: the program keeps the first one first
abbrev pub found_view : Found → Seen
found_view f = record { places = reverse f.places.keys; variables = f.variables.keys }

-- the types of a stack, the last one first
abbrev pub waiting : List program.Ty → List Ty
waiting ts = reverse (map ty_view ts)
