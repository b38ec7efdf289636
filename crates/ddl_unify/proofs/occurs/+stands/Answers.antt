use Rattle.std.proofs.Common.{◌≡◌, ◌∙◌, map, ap, sym, arith}
use Rattle.ddl_types.specs.Types as t
use Rattle.ddl_types.specs.Types.{on, tys_of}
use Rattle.ddl_types.specs.TyView.{ty_view}
use Rattle.ddl_types.proofs.TyLayers.{layers}
use Rattle.ddl_unify.specs.Occurs.{has}
use Rattle.ddl_unify.specs.Measures.{cost}
use Rattle.ddl_unify.specs.Trails.{bindings, solution}
use Rattle.ddl_unify.proofs.ReadingLemmas.{leads_less, weighed_at}
use Rattle.ddl_unify.proofs.Marking.{has_list, list_next, list_found}
use Rattle.ddl_unify.proofs.occurs.+stands.Goals as goal

pub stands-returns-in_ok-found-in-Place-clause-found : goal.stands-returns-in_ok-found-in-Place-clause-found
stands-returns-in_ok-found-in-Place-clause-found r c =
    let f : t.Sub = solution c.args.trail.now in
    let seen : ty_view c.args.t.now ≡ t.con (t.place c.in-Place.field-0) (tys_of (map ty_view c.deref-in-Place.result.now)) = grind (arith, layers) in
    c.in_ok-found-in-Place.ensures.found ∙ sym (has_list (t.place c.in-Place.field-0) (map ty_view c.deref-in-Place.result.now) f c.args.v)
    ∙ ap (λ x. has (on x f) c.args.v) (sym seen)

pub stands_behind-stands-requires : goal.stands_behind-stands-requires
stands_behind-stands-requires r c =
    (omega (arith, c.decreases, leads_less c.args.trail.now c.args.n (ty_view c.in-Some.to.now) c.in-Some.ensures), c.requires)

pub stands_in-stands-requires : goal.stands_in-stands-requires
stands_in-stands-requires r c = (
  omega (arith, c.decreases, weighed_at (cost (bindings c.args.trail.now)) c.args.ts.now c.loop-t.t-index c.t-item.result c.loop-t-test.true c.t-item.is),
  c.loop-t.invariant.marks,
)

pub stands_in-returns-then-branch-clause-found : goal.stands_in-returns-then-branch-clause-found
stands_in-returns-then-branch-clause-found r c =
    sym (list_found c.args.ts.now c.loop-t.t-index c.t-item.result (solution c.args.trail.now) c.args.v c.loop-t-test.true c.t-item.is
    (sym c.in_ok-stands.ensures.found ∙ c.if-branch.true))

pub stands_in-loop-t-preserved : goal.stands_in-loop-t-preserved
stands_in-loop-t-preserved r c = record {
  marks = c.in_ok-stands.ensures.marks;
  before = list_next c.args.ts.now c.loop-t.t-index c.t-item.result (solution c.args.trail.now) c.args.v c.loop-t-test.true c.t-item.is
      (sym c.in_ok-stands.ensures.found ∙ c.if-branch.false) ∙ c.loop-t.invariant.before;
}
