-- A layout as the tree that definitions go over: its names are left out.
use Rattle.std.specs.Prelude.{List, [], ◌∷◌, map}
use Rattle.ddl_bits.specs.declared.layout.Layout.{Layout, Layout-F, fold-Layout}
use Rattle.ddl_bits.specs.declared.layout.LayoutCon.{LayoutCon, LayoutCon-F, fold-LayoutCon}
use Rattle.ddl_bits.specs.declared.layout.LayoutPart.{LayoutPart, LayoutPart-F, fold-LayoutPart}
use Rattle.ddl_bits.specs.Tree.{Part, fixed, any, inner, Parts, no_parts, part, Cons, no_cons, con}

-- lists of parts and of constructors
abbrev pub parts_of : List Part → Parts
parts_of [] = no_parts
parts_of (p ∷ ps) = part p (parts_of ps)

abbrev pub cons_of : List Parts → Cons
cons_of [] = no_cons
cons_of (c ∷ cs) = con c (cons_of cs)

-- one level, with what is inside already seen
abbrev pub part_step : LayoutPart-F Part Cons Parts → Part
part_step (LayoutPart-F.Fixed bits width) = fixed bits width
part_step (LayoutPart-F.Any name width) = any width
part_step (LayoutPart-F.Inner name layout) = inner layout.value

abbrev pub layout_step : Layout-F Part Cons Parts → Cons
layout_step l = cons_of l.cons.items

abbrev pub con_step : LayoutCon-F Part Cons Parts → Parts
con_step c = parts_of c.parts.items

unfoldable pub part_view : LayoutPart → Part
part_view = fold-LayoutPart Part Cons Parts part_step layout_step con_step

unfoldable pub layout_view : Layout → Cons
layout_view = fold-Layout Part Cons Parts part_step layout_step con_step

unfoldable pub con_view : LayoutCon → Parts
con_view = fold-LayoutCon Part Cons Parts part_step layout_step con_step

-- the views of lists
abbrev pub parts_view : List LayoutPart → Parts
parts_view ps = parts_of (map part_view ps)

abbrev pub cons_view : List LayoutCon → Cons
cons_view cs = cons_of (map con_view cs)

-- one level, in terms of the views
abbrev pub part_layer : LayoutPart-F LayoutPart Layout LayoutCon → Part
part_layer (LayoutPart-F.Fixed bits width) = fixed bits width
part_layer (LayoutPart-F.Any name width) = any width
part_layer (LayoutPart-F.Inner name layout) = inner (layout_view layout.value)
