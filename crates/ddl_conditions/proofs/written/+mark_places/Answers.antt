use Rattle.std.proofs.Common.{◌≡◌, map, refl, arith}
use Rattle.ddl_types.specs.Types.{Ty.con, Tys.none, Tys.more, Head.maybe_of, Head.array_of, Head.map_of, Head.place, tys_of}
use Rattle.ddl_types.specs.TyView.{ty_view}
use Rattle.ddl_types.proofs.TyLayers.{layers}
use Rattle.ddl_conditions.proofs.Noting.{noted_one, noted_two, noted_place, noted_next}
use Rattle.ddl_conditions.proofs.written.+mark_places.Goals as goal

pub mark_all-loop-t-preserved : goal.mark_all-loop-t-preserved
mark_all-loop-t-preserved t c =
    noted_next c.args.ts.now c.loop-t.t-index c.t-item.result _ _ _ _ _ _ c.loop-t-test.true c.t-item.is c.loop-t.invariant c.in_ok-mark_places.ensures

pub mark_places-returns-in_ok-mark_places-in-Maybe : goal.mark_places-returns-in_ok-mark_places-in-Maybe
mark_places-returns-in_ok-mark_places-in-Maybe t c =
    let e : ty_view c.args.t.now ≡ con maybe_of (more (ty_view c.deref.result.now) none) = grind (arith, layers) in
    noted_one maybe_of (ty_view c.args.t.now) (ty_view c.deref.result.now) _ _ _ _ (λ p. refl) e c.in_ok-mark_places-in-Maybe.ensures

pub mark_places-returns-in_ok-mark_places-in-Array : goal.mark_places-returns-in_ok-mark_places-in-Array
mark_places-returns-in_ok-mark_places-in-Array t c =
    let e : ty_view c.args.t.now ≡ con array_of (more (ty_view c.deref-in-Array.result.now) none) = grind (arith, layers) in
    noted_one array_of (ty_view c.args.t.now) (ty_view c.deref-in-Array.result.now) _ _ _ _ (λ p. refl) e c.in_ok-mark_places-in-Array.ensures

pub mark_places-returns-in_ok-mark_places-in-Map-2 : goal.mark_places-returns-in_ok-mark_places-in-Map-2
mark_places-returns-in_ok-mark_places-in-Map-2 t c =
    let e : ty_view c.args.t.now ≡ con map_of (more (ty_view c.deref-in-Map.result.now) (more (ty_view c.deref-in-Map-2.result.now) none)) =
    grind (arith, layers) in
    noted_two map_of (ty_view c.args.t.now) (ty_view c.deref-in-Map.result.now) (ty_view c.deref-in-Map-2.result.now) _ _ _ _ _ _ (λ p.
    refl) e c.in_ok-mark_places-in-Map.ensures c.in_ok-mark_places-in-Map-2.ensures

pub mark_places-returns-in_ok-mark_all-in-Place : goal.mark_places-returns-in_ok-mark_all-in-Place
mark_places-returns-in_ok-mark_all-in-Place t c =
    let e : ty_view c.args.t.now ≡ con (place c.in-Place.number) (tys_of (map ty_view c.deref-in-Place.result.now)) = grind (arith, layers) in
    noted_place c.in-Place.number (ty_view c.args.t.now) (tys_of (map ty_view c.deref-in-Place.result.now)) _ _ _ _ _ _ e c.in_ok-note-in-Place.ensures
    c.in_ok-mark_all-in-Place.ensures
