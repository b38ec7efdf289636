use Rattle.std.proofs.Common.{◌≡◌, ◌+◌, List, [], ◌++◌, drop, map, refl, ap, subst, sym, ◌∙◌, rules}
use Rattle.std.proofs.lemmas.List.{append_assoc}
use Rattle.ddl_tree.specs.declared.name.Name.{Name}
use Rattle.ddl_tree.specs.ViewModule.{part_view}
use Rattle.ddl_kinds.specs.Findings.{Finding}
use Rattle.ddl_uses.specs.Forms.{once_again, typed_findings}
use Rattle.ddl_kinds.specs.Found.{IsFirst}
use Rattle.ddl_uses.specs.Walks.{site_view}
use Rattle.ddl_uses.specs.Held.{scope_view, seen_view}
use Rattle.ddl_names.specs.Modules.{part_findings, part_names, part_type}
use Rattle.ddl_uses.specs.Scope.{Scope}
use Rattle.ddl_names.proofs.Declared.{next_part}
use Rattle.ddl_uses.proofs.Done.{done, refused}
use Rattle.ddl_kinds.proofs.Finding.{Leaves}
use Rattle.ddl_names.proofs.layouts.take_parts.Goals as goal

pub returns-in_err-take_part_type : goal.returns-in_err-take_part_type
returns-in_err-take_part_type c =
    let site = site_view c.args.outer.now in
    let ps = c.args.parts.now in
    let p = part_view c.part-item.result in
    let i = c.loop-part.part-index in
    let before = seen_view c.loop-part.seen in
    let all : List Finding = part_findings site [] (map part_view ps) in
    let f : List Finding = once_again before (part_names p) in
    let g : List Finding = typed_findings site (part_type p) (scope_view c.new-scope.result) in
    let rest : List Finding = part_findings site (before ++ part_names p) (map part_view (drop (i + 1) ps)) in
    let left : List Finding = part_findings site before (map part_view (drop i ps)) in
    let next : left ≡ f ++ g ++ rest =
    next_part site before ps i c.part-item.result c.part-item.is c.loop-part-test.true
    ∙ ap (λ (t : Scope). f ++ typed_findings site (part_type p) t ++ rest) (sym c.new-scope.ensures.empty) in
    let once = c.in_ok-once_named.ensures.found in
    let mid : Leaves all c.args.uses.now.items (g ++ rest) c.loop-part.uses.items =
    done all f (g ++ rest) left c.args.uses.now.items c.loop-part.uses.items c.loop-part.uses.items c.loop-part.invariant.0 (next
    ∙ append_assoc f g rest) once.0 (search (rules, once.1)) in
    let first : IsFirst all c.in_err-take_part_type.field-0.0 =
    refused all g rest (g ++ rest) c.args.uses.now.items c.loop-part.uses.items c.in_err-take_part_type.field-0.0 mid refl c.in_err-take_part_type.ensures in
    search (rules, first)

pub loop-part-preserved : goal.loop-part-preserved
loop-part-preserved c =
    let site = site_view c.args.outer.now in
    let ps = c.args.parts.now in
    let p = part_view c.part-item.result in
    let i = c.loop-part.part-index in
    let before = seen_view c.loop-part.seen in
    let all : List Finding = part_findings site [] (map part_view ps) in
    let f : List Finding = once_again before (part_names p) in
    let g : List Finding = typed_findings site (part_type p) (scope_view c.new-scope.result) in
    let rest : List Finding = part_findings site (before ++ part_names p) (map part_view (drop (i + 1) ps)) in
    let left : List Finding = part_findings site before (map part_view (drop i ps)) in
    let next : left ≡ f ++ g ++ rest =
    next_part site before ps i c.part-item.result c.part-item.is c.loop-part-test.true
    ∙ ap (λ (t : Scope). f ++ typed_findings site (part_type p) t ++ rest) (sym c.new-scope.ensures.empty) in
    let once = c.in_ok-once_named.ensures.found in
    let typed = c.in_ok-take_part_type.ensures in
    let mid : Leaves all c.args.uses.now.items (g ++ rest) c.loop-part.uses.items =
    done all f (g ++ rest) left c.args.uses.now.items c.loop-part.uses.items c.loop-part.uses.items c.loop-part.invariant.0 (next
    ∙ append_assoc f g rest) once.0 (search (rules, once.1)) in
    let end : Leaves all c.args.uses.now.items rest c.take_part_type.new.uses.items =
    done all g rest (g ++ rest) c.args.uses.now.items c.loop-part.uses.items c.take_part_type.new.uses.items mid refl typed.0 typed.1 in (
      subst (λ (ns : List Name). Leaves all c.args.uses.now.items (part_findings site ns (map part_view (drop (i + 1) ps))) c.take_part_type.new.uses.items)
          (sym c.in_ok-once_named.ensures.seen) end,
      c.in_ok-once_named.ensures.sound,
    )
