use Rattle.std.proofs.Common.{◌≡◌, ap, sym, ◌∙◌, map, arith}
use Rattle.ddl_types.specs.Types.{Head.place, Ty.con, tys_of}
use Rattle.ddl_types.specs.TyView.{ty_view}
use Rattle.ddl_types.proofs.TyLayers.{layers}
use Rattle.ddl_unify.specs.Heads.{alike}
use Rattle.ddl_unify.proofs.Parts.{long_both}
use Rattle.ddl_unify.proofs.heads.push_place.Goals as goal

pub push_all-requires : goal.push_all-requires
push_all-requires c =
    let e : ty_view c.args.right ≡ con (place c.in-Place.field-0) (tys_of (map ty_view c.in-Place.rs.items)) = grind (arith, layers) in
    long_both (place c.args.number) (place c.in-Place.field-0) c.args.ls.items c.in-Place.rs.items
    (ap (alike (con (place c.args.number) (tys_of (map ty_view c.args.ls.items)))) (sym e) ∙ c.requires)
