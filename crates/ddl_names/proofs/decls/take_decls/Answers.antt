use Rattle.std.proofs.Common.{◌≡◌, ◌+◌, List, ◌++◌, drop, map, ap, subst, sym, ◌∙◌, rules}
use Rattle.std.specs.Prelude.{flat_map}
use Rattle.ddl_tree.specs.ViewModule.{decl_view}
use Rattle.ddl_uses.specs.declared.outer.Outer.{Outer}
use Rattle.ddl_kinds.specs.Findings.{Finding, all_uses, first_refusal}
use Rattle.ddl_kinds.specs.Found.{IsFirst}
use Rattle.ddl_uses.specs.Walks.{IsOuter, site_view}
use Rattle.ddl_names.specs.Modules.{decl_findings}
use Rattle.ddl_names.proofs.Begins.{first_noted}
use Rattle.ddl_names.proofs.Declared.{next_decl}
use Rattle.ddl_uses.proofs.Done.{done, refused}
use Rattle.ddl_names.proofs.decls.take_decls.Goals as goal

pub returns-in_err-take_next-clause-found : goal.returns-in_err-take_next-clause-found
returns-in_err-take_next-clause-found c =
    let w = c.args.walk.now in
    let here = c.loop-decl.walk in
    let site = site_view w.outer in
    let ds = c.args.decls.now in
    let d = c.decl-item.result in
    let i = c.loop-decl.decl-index in
    let all : List Finding = flat_map (decl_findings site) (map decl_view ds) in
    let rest : List Finding = flat_map (decl_findings site) (map decl_view (drop (i + 1) ds)) in
    let left : List Finding = flat_map (decl_findings site) (map decl_view (drop i ds)) in
    let next : left ≡ decl_findings site (decl_view d) ++ rest = next_decl site ds i d c.decl-item.is c.loop-decl-test.true in
    let same : decl_findings (site_view here.outer) (decl_view d) ≡ decl_findings site (decl_view d) =
    ap (λ (o : Outer). decl_findings (site_view o) (decl_view d)) c.loop-decl.invariant.here in
    let first : IsFirst all c.in_err-take_next.field-0.0 =
    refused all (decl_findings site (decl_view d)) rest left w.uses.items here.uses.items c.in_err-take_next.field-0.0
    c.loop-decl.invariant.left next (subst (λ (fs : List Finding). IsFirst fs c.in_err-take_next.field-0.0) same c.in_err-take_next.ensures.found) in
    search (rules, first)

pub loop-decl-preserved : goal.loop-decl-preserved
loop-decl-preserved c =
    let w = c.args.walk.now in
    let here = c.loop-decl.walk in
    let site = site_view w.outer in
    let ds = c.args.decls.now in
    let d = c.decl-item.result in
    let i = c.loop-decl.decl-index in
    let all : List Finding = flat_map (decl_findings site) (map decl_view ds) in
    let rest : List Finding = flat_map (decl_findings site) (map decl_view (drop (i + 1) ds)) in
    let left : List Finding = flat_map (decl_findings site) (map decl_view (drop i ds)) in
    let next : left ≡ decl_findings site (decl_view d) ++ rest = next_decl site ds i d c.decl-item.is c.loop-decl-test.true in
    let same : decl_findings (site_view here.outer) (decl_view d) ≡ decl_findings site (decl_view d) =
    ap (λ (o : Outer). decl_findings (site_view o) (decl_view d)) c.loop-decl.invariant.here in
    let found = c.in_ok-take_next.ensures.found in
    let added : c.take_next.new.walk.uses.items ≡ here.uses.items ++ all_uses (decl_findings site (decl_view d)) = found.1
    ∙ ap (λ fs. here.uses.items ++ all_uses fs) same in
    record {
      left = done all (decl_findings site (decl_view d)) rest left w.uses.items here.uses.items c.take_next.new.walk.uses.items c.loop-decl.invariant.left next
          (ap first_refusal (sym same) ∙ found.0) added;
      firsts = first_noted site ds i d c.loop-decl.firsts.items c.take_next.new.firsts.items _ here.uses.items c.take_next.new.walk.uses.items
          c.decl-item.is c.loop-decl-test.true c.loop-decl.invariant.firsts added c.in_ok-take_next.ensures.first;
      here = c.in_ok-take_next.ensures.here ∙ c.loop-decl.invariant.here;
      known = subst (λ (o : Outer). IsOuter o) (sym c.in_ok-take_next.ensures.here) c.loop-decl.invariant.known;
    }
