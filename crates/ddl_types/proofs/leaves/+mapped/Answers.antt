use Rattle.std.proofs.Common.{◌≡◌, List, map, ap, sym, ◌∙◌, rules, arith}
use Rattle.ddl_types.specs.Types as t
use Rattle.ddl_types.specs.Types.{on, tys_of}
use Rattle.ddl_types.specs.TyView.{ty_view}
use Rattle.ddl_types.proofs.TyLayers.{layers}
use Rattle.ddl_types.proofs.Mapping.{on_place}
use Rattle.ddl_types.proofs.leaves.+mapped.Goals as goal

pub mapped-returns-in_ok-mapped_all-in-Place : goal.mapped-returns-in_ok-mapped_all-in-Place
mapped-returns-in_ok-mapped_all-in-Place g r c =
    let f : t.Sub = g.L.Leaves.sub c.args.leaves.now in
    let h : t.Head = t.place c.in-Place.number in
    let ts : List t.Ty = map ty_view c.deref-in-Place.result.now in
    let seen : ty_view c.args.t.now ≡ t.con h (tys_of ts) = grind (arith, layers) in
    let parts : map ty_view c.in_ok-mapped_all-in-Place.field-0.items ≡ map (λ x. on x f) ts = search rules in
    search (rules, layers) ∙ ap (λ (xs : List t.Ty). t.con h (tys_of xs)) parts ∙ sym (on_place h ts f) ∙ ap (λ x. on x f) (sym seen)
