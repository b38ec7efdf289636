-- A layout of the program as the meaning has it, with its names.
use Rattle.std.specs.Prelude.{List, [], ◌∷◌, map}
use Rattle.ddl_bits.specs.declared.layout.Layout.{Layout, Layout-F, fold-Layout}
use Rattle.ddl_bits.specs.declared.layout.LayoutCon.{LayoutCon, LayoutCon-F, fold-LayoutCon}
use Rattle.ddl_bits.specs.declared.layout.LayoutPart.{LayoutPart, LayoutPart-F, fold-LayoutPart}
use Rattle.ddl_types.specs.Layout as named

-- lists of parts and of constructors
abbrev pub parts_of : List named.Part → named.Parts
parts_of [] = named.no_parts
parts_of (p ∷ ps) = named.part p (parts_of ps)

abbrev pub layout_of : List named.Con → named.Layout
layout_of [] = named.no_cons
layout_of (c ∷ cs) = named.one_of c (layout_of cs)

-- one level, with what is inside already seen
abbrev pub part_step : LayoutPart-F named.Part named.Layout named.Con → named.Part
part_step (LayoutPart-F.Fixed bits width) = named.fixed bits width
part_step (LayoutPart-F.Any name width) = named.free name width
part_step (LayoutPart-F.Inner name layout) = named.inner name layout.value

abbrev pub layout_step : Layout-F named.Part named.Layout named.Con → named.Layout
layout_step l = layout_of l.cons.items

abbrev pub con_step : LayoutCon-F named.Part named.Layout named.Con → named.Con
con_step c = named.named_con c.name (parts_of c.parts.items)

unfoldable pub part_view : LayoutPart → named.Part
part_view = fold-LayoutPart named.Part named.Layout named.Con part_step layout_step con_step

unfoldable pub layout_view : Layout → named.Layout
layout_view = fold-Layout named.Part named.Layout named.Con part_step layout_step con_step

unfoldable pub con_view : LayoutCon → named.Con
con_view = fold-LayoutCon named.Part named.Layout named.Con part_step layout_step con_step

-- the views of lists
abbrev pub parts_view : List LayoutPart → named.Parts
parts_view ps = parts_of (map part_view ps)

abbrev pub cons_view : List LayoutCon → named.Layout
cons_view cs = layout_of (map con_view cs)

-- one level, in terms of the views
abbrev pub part_layer : LayoutPart-F LayoutPart Layout LayoutCon → named.Part
part_layer (LayoutPart-F.Fixed bits width) = named.fixed bits width
part_layer (LayoutPart-F.Any name width) = named.free name width
part_layer (LayoutPart-F.Inner name layout) = named.inner name (layout_view layout.value)

abbrev pub con_layer : LayoutCon-F LayoutPart Layout LayoutCon → named.Con
con_layer c = named.named_con c.name (parts_view c.parts.items)

abbrev pub layout_layer : Layout-F LayoutPart Layout LayoutCon → named.Layout
layout_layer l = cons_view l.cons.items
