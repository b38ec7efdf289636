use Rattle.std.proofs.Common.{◌+◌, List, [], ◌∷◌, ◌++◌, drop, map, subst, sym, rules}
use Rattle.ddl_tree.specs.declared.name.Name.{Name}
use Rattle.ddl_tree.specs.ViewModule.{con_view}
use Rattle.ddl_kinds.specs.Findings.{Finding, again}
use Rattle.ddl_kinds.specs.Found.{IsFirst}
use Rattle.ddl_uses.specs.Walks.{site_view}
use Rattle.ddl_uses.specs.Held.{seen_view}
use Rattle.ddl_names.specs.Modules.{bits_findings, con_findings}
use Rattle.ddl_names.proofs.Declared.{next_con}
use Rattle.ddl_uses.proofs.Done.{done, refused}
use Rattle.ddl_kinds.proofs.Finding.{Leaves}
use Rattle.ddl_names.proofs.layouts.take_cons.Goals as goal

pub returns-in_err-take_con : goal.returns-in_err-take_con
returns-in_err-take_con c =
    let site = site_view c.args.outer.now in
    let cs = c.args.cons.now in
    let k = c.con-item.result in
    let i = c.loop-con.con-index in
    let before = seen_view c.loop-con.seen in
    let x = (con_view k).name in
    let all : List Finding = con_findings site [] (map con_view cs) in
    let first : IsFirst all c.in_err-take_con.field-0.0 =
    refused all (again before x ++ bits_findings site (con_view k).bits) (con_findings site (before ++ x ∷ []) (map con_view (drop (i + 1) cs)))
    (con_findings site before (map con_view (drop i cs))) c.args.uses.now.items c.loop-con.uses.items c.in_err-take_con.field-0.0
    c.loop-con.invariant.0 (next_con site before cs i k c.con-item.is c.loop-con-test.true) c.in_err-take_con.ensures.found in
    search (rules, first)

pub loop-con-preserved : goal.loop-con-preserved
loop-con-preserved c =
    let site = site_view c.args.outer.now in
    let cs = c.args.cons.now in
    let k = c.con-item.result in
    let i = c.loop-con.con-index in
    let before = seen_view c.loop-con.seen in
    let x = (con_view k).name in
    let all : List Finding = con_findings site [] (map con_view cs) in
    let found = c.in_ok-take_con.ensures.found in
    let left : Leaves all c.args.uses.now.items (con_findings site (before ++ x ∷ []) (map con_view (drop (i + 1) cs))) c.take_con.new.uses.items =
    done all (again before x ++ bits_findings site (con_view k).bits) (con_findings site (before ++ x ∷ []) (map con_view (drop (i + 1) cs)))
    (con_findings site before (map con_view (drop i cs))) c.args.uses.now.items c.loop-con.uses.items c.take_con.new.uses.items
    c.loop-con.invariant.0 (next_con site before cs i k c.con-item.is c.loop-con-test.true) found.0 found.1 in (
      subst (λ (ns : List Name). Leaves all c.args.uses.now.items (con_findings site ns (map con_view (drop (i + 1) cs))) c.take_con.new.uses.items)
          (sym c.in_ok-take_con.ensures.seen) left,
      c.in_ok-take_con.ensures.sound,
    )
