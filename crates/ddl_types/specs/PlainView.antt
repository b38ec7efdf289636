-- The printable value that a `Plain` holds.
use Rattle.std.specs.Prelude.{List, [], ◌∷◌, map}
use Rattle.ddl_types.specs.Plain as p
use Rattle.ddl_types.specs.Num.{whole}
use Rattle.ddl_types.specs.declared.plain.Plain.{Plain, Plain-F, fold-Plain}

abbrev pub printables_of : List p.Printable → p.Printables
printables_of [] = p.none
printables_of (v ∷ vs) = p.one v (printables_of vs)

-- one level, with each value inside already seen
abbrev pub view_step : Plain-F p.Printable → p.Printable
view_step Plain-F.Unit = p.unit
view_step (Plain-F.Bool b) = p.bool b
view_step (Plain-F.Num n) = p.number (whole n)
view_step Plain-F.Nothing = p.nothing
view_step (Plain-F.Just v) = p.just v.value
view_step (Plain-F.Record names vs) = p.fields names.items (printables_of vs.items)
view_step (Plain-F.Union tag v) = p.union tag v.value
view_step (Plain-F.Array vs) = p.array (printables_of vs.items)
view_step (Plain-F.Map ks vs) = p.entries (printables_of ks.items) (printables_of vs.items)
view_step (Plain-F.Stream in_input from to) = p.stream in_input from to

unfoldable pub plain_view : Plain → p.Printable
plain_view = fold-Plain p.Printable view_step

abbrev pub plains_view : List Plain → p.Printables
plains_view vs = printables_of (map plain_view vs)

-- one level, in terms of `plain_view`
abbrev pub view_layer : Plain-F Plain → p.Printable
view_layer Plain-F.Unit = p.unit
view_layer (Plain-F.Bool b) = p.bool b
view_layer (Plain-F.Num n) = p.number (whole n)
view_layer Plain-F.Nothing = p.nothing
view_layer (Plain-F.Just v) = p.just (plain_view v.value)
view_layer (Plain-F.Record names vs) = p.fields names.items (plains_view vs.items)
view_layer (Plain-F.Union tag v) = p.union tag (plain_view v.value)
view_layer (Plain-F.Array vs) = p.array (plains_view vs.items)
view_layer (Plain-F.Map ks vs) = p.entries (plains_view ks.items) (plains_view vs.items)
view_layer (Plain-F.Stream in_input from to) = p.stream in_input from to
