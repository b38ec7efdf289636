-- The specialised specification that a value of the program stands for.
use Rattle.std.specs.Prelude.{map}
use Rattle.ddl_types.specs.TyView.{ty_view}
use Rattle.ddl_typed.specs.PartView.{name_view}
use Rattle.ddl_typed.specs.SpecificationView.{place_view, bits_view}
use Rattle.ddl_typed.specs.View.{view}
use Rattle.ddl_mono.specs.declared.mono.Mono.{Mono}
use Rattle.ddl_mono.specs.declared.mono.MonoCopy.{MonoCopy}
use Rattle.ddl_mono.specs.Copies as c

abbrev pub copy_view : MonoCopy → c.Copy
copy_view k = record {
  declaration = k.declaration;
  unit = k.unit;
  name = k.name;
  span = k.span;
  kind = k.kind;
  names = map name_view k.names.items;
  params = map ty_view k.params.items;
  result = ty_view k.result;
  body = view k.body;
}

abbrev pub mono_view : Mono → c.Mono
mono_view m = record {
  units = m.units.items;
  texts = m.texts.items;
  entry = m.entry;
  copies = map copy_view m.copies.items;
  places = map place_view m.places.items;
  bitdata = map bits_view m.bits.items;
}
