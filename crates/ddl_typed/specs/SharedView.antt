-- The value that the evaluator's value stands for.
use Rattle.std.specs.Prelude.{ℕ, List, [], ◌∷◌, map, if◌then◌else◌}
use Rattle.ddl_types.specs.Plain.{Printable, deep, fields_deep, is_hidden}
use Rattle.ddl_types.specs.PlainOf.{plain_of, plain_fields, names_of}
use Rattle.ddl_types.specs.Value.{Value, Fields, unit, array, fields, no_fields, field}
use Rattle.ddl_ops.specs.Primitives.{byte_value, byte_values}
use Rattle.ddl_typed.specs.declared.shared.Shared.{Shared, Shared-F, fold-Shared}
use Rattle.ddl_typed.specs.declared.shared.Part.{Part, Part-F, fold-Part}

-- a field's name and value
abbrev pub OneField : Type 0
OneField = List ℕ × Value

abbrev pub fields_of : List OneField → Fields
fields_of [] = no_fields
fields_of (f ∷ fs) = field f.0 f.1 (fields_of fs)

-- one level, with each part already seen
abbrev pub shared_step : Shared-F Value OneField → Value
shared_step Shared-F.Unit = unit
shared_step (Shared-F.Byte b) = byte_value b
shared_step (Shared-F.Bytes bs) = array (byte_values bs.items)
shared_step (Shared-F.Record ps) = fields (fields_of ps.items)

abbrev pub part_step : Part-F Value OneField → OneField
part_step p = (p.name, p.value.value)

unfoldable pub shared_view : Shared → Value
shared_view = fold-Shared Value OneField shared_step part_step

unfoldable pub part_view : Part → OneField
part_view = fold-Part Value OneField shared_step part_step

abbrev pub parts_view : List Part → Fields
parts_view ps = fields_of (map part_view ps)

-- one level, in terms of the views
abbrev pub shared_layer : Shared-F Shared Part → Value
shared_layer Shared-F.Unit = unit
shared_layer (Shared-F.Byte b) = byte_value b
shared_layer (Shared-F.Bytes bs) = array (byte_values bs.items)
shared_layer (Shared-F.Record ps) = fields (parts_view ps.items)

abbrev pub part_layer : Part-F Shared Part → OneField
part_layer p = (p.name, shared_view p.value.value)

-- a part's name, and what its value prints
abbrev pub part_name : Part → List ℕ
part_name p = (part_view p).0

abbrev pub part_plain : Part → Printable
part_plain p = plain_of (part_view p).1

-- how deep a part's value nests; one whose name hides it does not count
abbrev pub part_deep : Part → ℕ
part_deep p = if is_hidden (part_name p) then 0 else deep (part_plain p)

-- how deep the deepest of some parts nests
abbrev pub parts_deep : List Part → ℕ
parts_deep ps = fields_deep (plain_fields (parts_view ps)) (names_of (parts_view ps))
