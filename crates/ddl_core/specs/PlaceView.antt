-- The names and shapes that values of the program stand for.
use Rattle.std.specs.Prelude.{List, [], ◌∷◌, map}
use Rattle.ddl_types.specs.Layout.{Layout}
use Rattle.ddl_types.specs.TyView.{ty_view}
use Rattle.ddl_ops.specs.LayoutView.{layout_view}
use Rattle.ddl_core.specs.declared.place.DeclName.{DeclName}
use Rattle.ddl_core.specs.declared.place.PlaceShape.{PlaceShape}
use Rattle.ddl_core.specs.declared.place.PlaceShape.TheVariants.{Record, Union, Bits}
use Rattle.ddl_core.specs.Places as c

abbrev pub decl_view : DeclName → c.DeclName
decl_view d = record { unit = d.unit; name = d.name }

abbrev pub shape_view : PlaceShape → c.PlaceShape
shape_view (Record names types) = c.record_shape names.items (map ty_view types.items)
shape_view (Union tags types) = c.union_shape tags.items (map ty_view types.items)
shape_view (Bits name layout) = c.bits_shape name (layout_view layout.layout)

-- the layouts of the bitdata, in the order of their numbers
abbrev pub layouts_in : List PlaceShape → List Layout
layouts_in [] = []
layouts_in (Record names types ∷ ps) = layouts_in ps
layouts_in (Union tags types ∷ ps) = layouts_in ps
layouts_in (Bits name layout ∷ ps) = layout_view layout.layout ∷ layouts_in ps
