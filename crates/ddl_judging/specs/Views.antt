-- Which demands, shapes and reasons the program's values stand for.
use Rattle.std.specs.Prelude.{map}
use Rattle.ddl_types.specs.TyView.{ty_view}
use Rattle.ddl_types.specs.CondView.{cond_view}
use Rattle.ddl_typed.specs.declared.specification.PlaceType.{PlaceType}
use Rattle.ddl_judging.specs.declared.demand.Demand.{Demand}
use Rattle.ddl_judging.specs.declared.demand.Demand.TheVariants as D
use Rattle.ddl_judging.specs.declared.demand.Asked.{Asked}
use Rattle.ddl_judging.specs.declared.shapes.BitsShape.{BitsShape}
use Rattle.ddl_judging.specs.declared.shapes.Shapes.{Shapes}
use Rattle.ddl_judging.specs.declared.refusal.Wrong.{Wrong}
use Rattle.ddl_judging.specs.declared.refusal.Wrong.TheVariants as W
use Rattle.ddl_judging.specs.Demands as d
use Rattle.ddl_judging.specs.Judging as j
use Rattle.ddl_judging.specs.Shapes as s

abbrev pub demand_view : Demand → d.Demand
demand_view (D.Cond c) = d.condition (cond_view c)
demand_view (D.Make t x r) = d.make (ty_view t) x (ty_view r)
demand_view (D.Gather t k v b r) = d.gather (ty_view t) (ty_view k) (ty_view v) (ty_view b) (ty_view r)

abbrev pub asked_view : Asked → d.Asked
asked_view a = record { what = demand_view a.what; span = a.span }

abbrev pub place_shape : PlaceType → s.Shape
place_shape p = record { vars = p.vars; tagged = p.tagged; names = p.names.items; types = map ty_view p.types.items }

abbrev pub bit_shape : BitsShape → s.BitShape
bit_shape b = record { width = b.width; gap = b.gap; shape = record { vars = 0; tagged = b.tagged; names = b.names.items; types = map ty_view b.types.items } }

abbrev pub shapes_view : Shapes → s.Shapes
shapes_view z = record { places = map place_shape z.places.items; bitdata = map bit_shape z.bits.items }

abbrev pub wrong_view : Wrong → j.Wrong
wrong_view (W.NotNumber t wanted) = j.not_number (ty_view t) wanted
wrong_view (W.NotLossless s t) = j.not_lossless (ty_view s) (ty_view t)
wrong_view (W.NoField x t) = j.no_field x (ty_view t)
wrong_view (W.LiteralRange n t) = j.literal_range n (ty_view t)
wrong_view (W.WidthRange n) = j.width_range n
wrong_view (W.Gap n) = j.gap n
