use Rattle.std.proofs.Common.{◌≡◌, List, map, ap, sym, ◌∙◌, rules, arith}
use Rattle.ddl_types.specs.Types as t
use Rattle.ddl_types.specs.Types.{on, tys_of}
use Rattle.ddl_types.specs.TyView.{ty_view}
use Rattle.ddl_types.proofs.TyLayers.{layers}
use Rattle.ddl_unify.specs.Measures.{cost}
use Rattle.ddl_unify.specs.Trails.{bindings, solution}
use Rattle.ddl_unify.proofs.ReadingLemmas.{read_place, weighed_at}
use Rattle.ddl_unify.proofs.reading.+read.Goals as goal

pub read-returns-in_ok-read_all-in-Place : goal.read-returns-in_ok-read_all-in-Place
read-returns-in_ok-read_all-in-Place r c =
    let f : t.Sub = solution c.args.trail.now in
    let seen : ty_view c.args.t.now ≡ t.con (t.place c.in-Place.number) (tys_of (map ty_view c.deref-in-Place.result.now)) = grind (arith, layers) in
    let parts : map ty_view c.in_ok-read_all-in-Place.field-0.items ≡ map (λ x. on x f) (map ty_view c.deref-in-Place.result.now) = search rules in
    search (rules, layers) ∙ ap (λ (xs : List t.Ty). t.con (t.place c.in-Place.number) (tys_of xs)) parts
    ∙ sym (read_place (bindings c.args.trail.now) (t.place c.in-Place.number) (map ty_view c.deref-in-Place.result.now)) ∙ ap (λ x. on x f) (sym seen)

pub read_all-read-requires : goal.read_all-read-requires
read_all-read-requires r c = (
  omega (
    arith,
    c.decreases,
    weighed_at (cost (bindings c.args.trail.now)) c.args.ts.now c.loop-t.t-index c.t-item.result c.loop-t-test.true c.t-item.is,
  ),
  tt,
)
