-- The program in the core language that a value of this program stands for.
use Rattle.std.specs.Prelude.{List, map}
use Rattle.ddl_types.specs.Layout.{Layout}
use Rattle.ddl_types.specs.TyView.{ty_view}
use Rattle.ddl_core.specs.declared.program.Core.{Core}
use Rattle.ddl_core.specs.declared.program.CoreFn.{CoreFn}
use Rattle.ddl_core.specs.PlaceView.{layouts_in}
use Rattle.ddl_core.specs.View.{view}
use Rattle.ddl_core.specs.Core as c

-- a function, where the layouts of the bitdata are known
abbrev pub function_view : List Layout → CoreFn → c.Function
function_view ls f = record { name = f.declaration; params = map ty_view f.params.items; result = ty_view f.result; body = view ls f.body }

abbrev pub core_view : Core → c.Core
core_view p = record { functions = map (function_view (layouts_in p.places.items)) p.functions.items; entry = p.entry }
