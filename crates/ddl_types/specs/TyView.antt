-- The value that a type of the program stands for.
use Rattle.std.specs.Prelude.{map}
use Rattle.ddl_types.specs.declared.ty.Ty.{Ty, Ty-F, fold-Ty}
use Rattle.ddl_types.specs.Types as t
use Rattle.ddl_types.specs.Types.{tys_of}

-- one level, with each part already seen
abbrev pub ty_step : Ty-F t.Ty → t.Ty
ty_step (Ty-F.Var v) = t.var v
ty_step Ty-F.Int = t.con t.int t.none
ty_step (Ty-F.Uint w) = t.con (t.uint w) t.none
ty_step (Ty-F.Sint w) = t.con (t.sint w) t.none
ty_step Ty-F.Bool = t.con t.bool t.none
ty_step Ty-F.Unit = t.con t.unit t.none
ty_step Ty-F.Stream = t.con t.stream t.none
ty_step (Ty-F.Maybe x) = t.con t.maybe_of (t.more x.value t.none)
ty_step (Ty-F.Array x) = t.con t.array_of (t.more x.value t.none)
ty_step (Ty-F.Map k v) = t.con t.map_of (t.more k.value (t.more v.value t.none))
ty_step (Ty-F.Bits n) = t.con (t.bits n) t.none
ty_step (Ty-F.Place n ts) = t.con (t.place n) (tys_of ts.items)

-- the value of a type
unfoldable pub ty_view : Ty → t.Ty
ty_view = fold-Ty t.Ty ty_step

-- one level, in terms of `ty_view`
abbrev pub ty_layer : Ty-F Ty → t.Ty
ty_layer (Ty-F.Var v) = t.var v
ty_layer Ty-F.Int = t.con t.int t.none
ty_layer (Ty-F.Uint w) = t.con (t.uint w) t.none
ty_layer (Ty-F.Sint w) = t.con (t.sint w) t.none
ty_layer Ty-F.Bool = t.con t.bool t.none
ty_layer Ty-F.Unit = t.con t.unit t.none
ty_layer Ty-F.Stream = t.con t.stream t.none
ty_layer (Ty-F.Maybe x) = t.con t.maybe_of (t.more (ty_view x.value) t.none)
ty_layer (Ty-F.Array x) = t.con t.array_of (t.more (ty_view x.value) t.none)
ty_layer (Ty-F.Map k v) = t.con t.map_of (t.more (ty_view k.value) (t.more (ty_view v.value) t.none))
ty_layer (Ty-F.Bits n) = t.con (t.bits n) t.none
ty_layer (Ty-F.Place n ts) = t.con (t.place n) (tys_of (map ty_view ts.items))
