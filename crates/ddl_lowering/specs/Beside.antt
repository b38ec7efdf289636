-- What the core of a specialised specification keeps of it beside its meaning.
use Rattle.std.specs.Prelude.{if◌then◌else◌, List, map, ◌++◌, Option, Some, None}
use Rattle.ddl_base.specs.declared.span.Span.{Span}
use Rattle.ddl_typed.specs.Specification.{Place, Bitdata}
use Rattle.ddl_mono.specs.Copies.{Copy, Mono, copy_at}
use Rattle.ddl_core.specs.Places.{DeclName, PlaceShape, record_shape, union_shape, bits_shape}
use Rattle.ddl_core.specs.Beside.{Beside}

-- the name of the declaration of a copy, with its module
abbrev pub decl_name : Copy → DeclName
decl_name k = record { unit = k.unit; name = k.name }

-- a record or a union, by its names
abbrev pub shape_of : Place → PlaceShape
shape_of p = if p.tagged then union_shape p.names p.types else record_shape p.names p.types

-- a bitdata
abbrev pub bits_of : Bitdata → PlaceShape
bits_of b = bits_shape b.name b.layout

-- records and unions, and then bitdata
abbrev pub shapes_of : List Place → List Bitdata → List PlaceShape
shapes_of ps bs = map shape_of ps ++ map bits_of bs

-- where the name of a copy stands
abbrev pub name_span : Option Copy → Option Span
name_span None = None
name_span (Some k) = Some k.span

abbrev pub beside_of : Mono → Beside
beside_of m = record {
  units = m.units;
  texts = m.texts;
  decls = map decl_name m.copies;
  places = shapes_of m.places m.bitdata;
  entry_name = name_span (copy_at m.copies m.entry);
}
