-- What a program of values has beside its meaning.
use Rattle.std.specs.Prelude.{map}
use Rattle.ddl_core.specs.declared.program.Core.{Core}
use Rattle.ddl_core.specs.Beside.{Beside}
use Rattle.ddl_core.specs.PlaceView.{decl_view, shape_view}

abbrev pub beside_view : Core → Beside
beside_view p = record {
  units = p.units.items;
  texts = p.texts.items;
  decls = map decl_view p.decls.items;
  places = map shape_view p.places.items;
  entry_name = p.entry_name;
}
