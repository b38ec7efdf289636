use Rattle.std.proofs.Common.{◌≡◌, ℕ, List, map, take, ◌+◌, get_or, ap, sym, refl, subst, Option}
use Rattle.ddl_base.specs.declared.span.Span.{Span}
use Rattle.ddl_types.specs.Types.{Sub}
use Rattle.ddl_unify.specs.State.{solution, variables}
use Rattle.ddl_conditions.specs.declared.closing.Fate.{Fate}
use Rattle.ddl_judging.specs.declared.demand.Asked.{Asked}
use Rattle.ddl_conditions.specs.Fates.{IsClosing, IsFate}
use Rattle.ddl_conditions.specs.Growing.{Group}
use Rattle.ddl_conditions.specs.GroupView.{group_view}
use Rattle.ddl_judging.specs.Views.{asked_view}
use Rattle.ddl_conditions.proofs.Closings.{below_at, closing_met, closing_kept, closing_left, closing_false}
use Rattle.ddl_conditions.proofs.closing.close_one.Goals as goal

pub fate_of-requires : goal.fate_of-requires
fate_of-requires c =
    let xs : List Asked = c.args.group.now.asked.now in
    let x : Asked = get_or xs c.args.place c.index-group-place.result in
    let at : x ≡ get_or xs c.args.place x = ap (λ (d : Asked). get_or xs c.args.place d) c.index-group-place.is in
    below_at (variables c.args.solver.now) xs c.args.place x c.requires.within at c.requires.below

pub returns-in-Met : goal.returns-in-Met
returns-in-Met c =
    let g : Group = group_view c.args.group.now in
    let f : Sub = solution c.args.solver.now in
    let xs : List Asked = c.args.group.now.asked.now in
    let x : Asked = get_or xs c.args.place c.index-group-place.result in
    let at : x ≡ get_or xs c.args.place x = ap (λ (d : Asked). get_or xs c.args.place d) c.index-group-place.is in
    let P : Fate → Type 0 = λ v. IsFate g f (asked_view x) v in
    closing_met g f xs c.args.place x c.requires.within at c.args.kept.now.items c.args.left.now c.requires.closing
    (subst P c.in-Met.is c.in_ok-fate_of.ensures)

pub returns-in-False : goal.returns-in-False
returns-in-False c =
    let g : Group = group_view c.args.group.now in
    let f : Sub = solution c.args.solver.now in
    let xs : List Asked = c.args.group.now.asked.now in
    let x : Asked = get_or xs c.args.place c.index-group-place.result in
    let at : x ≡ get_or xs c.args.place x = ap (λ (d : Asked). get_or xs c.args.place d) c.index-group-place.is in
    let P : Fate → Type 0 = λ v. IsFate g f (asked_view x) v in
    closing_false g f xs c.args.place x c.requires.within at c.args.kept.now.items c.args.left.now c.requires.closing refl c.in-False.why
    (subst P c.in-False.is c.in_ok-fate_of.ensures)

pub returns-in_ok-keep-in-Kept : goal.returns-in_ok-keep-in-Kept
returns-in_ok-keep-in-Kept c =
    let g : Group = group_view c.args.group.now in
    let f : Sub = solution c.args.solver.now in
    let xs : List Asked = c.args.group.now.asked.now in
    let x : Asked = get_or xs c.args.place c.index-group-place.result in
    let at : x ≡ get_or xs c.args.place x = ap (λ (d : Asked). get_or xs c.args.place d) c.index-group-place.is in
    let P : Fate → Type 0 = λ v. IsFate g f (asked_view x) v in
    let Q : List ℕ → Type 0 = λ ks. IsClosing g f (take (c.args.place + 1) (map asked_view xs)) ks c.args.left.now in
    subst Q (sym c.in_ok-keep-in-Kept.ensures) (closing_kept g f xs c.args.place x c.requires.within at c.args.kept.now.items c.args.left.now c.requires.closing
    (subst P c.in-Kept.is c.in_ok-fate_of.ensures))

pub returns-in-Left : goal.returns-in-Left
returns-in-Left c =
    let g : Group = group_view c.args.group.now in
    let f : Sub = solution c.args.solver.now in
    let xs : List Asked = c.args.group.now.asked.now in
    let x : Asked = get_or xs c.args.place c.index-group-place.result in
    let at : x ≡ get_or xs c.args.place x = ap (λ (d : Asked). get_or xs c.args.place d) c.index-group-place.is in
    let P : Fate → Type 0 = λ v. IsFate g f (asked_view x) v in
    let Q : Option Span → Type 0 = λ l. IsClosing g f (take (c.args.place + 1) (map asked_view xs)) c.args.kept.now.items l in
    subst Q (sym c.note_left.ensures) (closing_left g f xs c.args.place x c.requires.within at c.args.kept.now.items c.args.left.now c.requires.closing
    (subst P c.in-Left.is c.in_ok-fate_of.ensures))
