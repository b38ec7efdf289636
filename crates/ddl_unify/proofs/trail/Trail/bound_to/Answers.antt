use Rattle.std.proofs.Common.{◌≡◌, ◌<◌, ◌-◌, ◌∙◌, List, ℕ, ap, get_or, length, rules, subst}
use Rattle.ddl_types.specs.TyView.{ty_view}
use Rattle.ddl_unify.specs.declared.trail.Trail.{Trail}
use Rattle.ddl_unify.specs.Trails.{LeadsTo}
use Rattle.ddl_unify.proofs.ReadingLemmas.{leads}
use Rattle.ddl_unify.proofs.Stored.{binds_at, from_below, from_place}
use Rattle.ddl_unify.proofs.trail.Trail.bound_to.Goals as goal

pub index-requires : goal.index-requires
index-requires c =
    let at : c.in-Some.at.now ≡ get_or c.self.inside.place.items c.args.v 0 = c.in-Some.ensures.lookup.3.1 0
    ∙ ap (λ (z : List ℕ). get_or z c.args.v 0) c.deref.ensures.value in
    let h : c.in-Some.at.now - 1 < length c.self.inside.bindings.items =
    from_below c.self.inside.bindings.items (c.in-Some.at.now - 1) c.args.v
    (from_place c.self.inside.place.items c.self.inside.bindings.items c.args.v c.in-Some.at.now c.self.invariant.0 at c.if-at-eq0.false) in
    search rules

pub returns-else-at-eq0 : goal.returns-else-at-eq0
returns-else-at-eq0 c =
    let at : c.in-Some.at.now ≡ get_or c.self.inside.place.items c.args.v 0 = c.in-Some.ensures.lookup.3.1 0
    ∙ ap (λ (z : List ℕ). get_or z c.args.v 0) c.deref.ensures.value in
    let from = from_place c.self.inside.place.items c.self.inside.bindings.items c.args.v c.in-Some.at.now c.self.invariant.0 at c.if-at-eq0.false in
    let P : Trail → Type 0 = λ z. LeadsTo z c.args.v (ty_view c.index.result.now.to) in
    subst P c.self.view_is (leads c.self.inside.place.items c.self.inside.bindings.items c.args.v (ty_view c.index.result.now.to) c.self.invariant.0
    (binds_at c.self.inside.bindings.items (c.in-Some.at.now - 1) c.args.v c.index.result.now from c.index.ensures))
