use Rattle.std.proofs.Common.{◌+◌, List, [], ◌∷◌, ◌++◌, drop, map, subst, sym, rules}
use Rattle.ddl_tree.specs.declared.name.Name.{Name}
use Rattle.ddl_tree.specs.ViewModule.{param_view}
use Rattle.ddl_kinds.specs.declared.error.NameError.TheVariants.{WrongKind}
use Rattle.ddl_kinds.specs.Findings.{Finding, again, demand}
use Rattle.ddl_uses.specs.Forms.{typed_findings}
use Rattle.ddl_kinds.specs.Found.{IsFirst}
use Rattle.ddl_uses.specs.Walks.{site_view}
use Rattle.ddl_uses.specs.Held.{scope_view, seen_view}
use Rattle.ddl_names.specs.Modules.{may_take, param_findings, param_type}
use Rattle.ddl_uses.specs.Scope.{param_kind, param_name}
use Rattle.ddl_names.proofs.Declared.{next_param}
use Rattle.ddl_uses.proofs.Done.{done, refused}
use Rattle.ddl_kinds.proofs.Finding.{Leaves}
use Rattle.ddl_names.proofs.params.take_params.Goals as goal

pub returns-in_err-take_param : goal.returns-in_err-take_param
returns-in_err-take_param c =
    let site = site_view c.args.outer.now in
    let ps = c.args.params.now in
    let p = c.param-item.result in
    let i = c.loop-param.param-index in
    let s = scope_view c.args.scope.now in
    let before = seen_view c.loop-param.seen in
    let x = param_name (param_view p) in
    let all : List Finding = param_findings site c.args.kind [] s (map param_view ps) in
    let first : IsFirst all c.in_err-take_param.field-0.0 =
    refused all (again before x ++ demand (may_take c.args.kind (param_kind (param_view p))) (WrongKind x.span)
    ++ typed_findings site (param_type (param_view p)) s)
    (param_findings site c.args.kind (before ++ x ∷ []) s (map param_view (drop (i + 1) ps)))
    (param_findings site c.args.kind before s (map param_view (drop i ps))) c.args.uses.now.items c.loop-param.uses.items c.in_err-take_param.field-0.0
    c.loop-param.invariant.0 (next_param site c.args.kind before s ps i p c.param-item.is c.loop-param-test.true) c.in_err-take_param.ensures.found in
    search (rules, first)

pub loop-param-preserved : goal.loop-param-preserved
loop-param-preserved c =
    let site = site_view c.args.outer.now in
    let ps = c.args.params.now in
    let p = c.param-item.result in
    let i = c.loop-param.param-index in
    let s = scope_view c.args.scope.now in
    let before = seen_view c.loop-param.seen in
    let x = param_name (param_view p) in
    let all : List Finding = param_findings site c.args.kind [] s (map param_view ps) in
    let found = c.in_ok-take_param.ensures.found in
    let left : Leaves all c.args.uses.now.items (param_findings site c.args.kind (before ++ x ∷ []) s (map param_view (drop (i + 1) ps)))
    c.take_param.new.uses.items =
    done all (again before x ++ demand (may_take c.args.kind (param_kind (param_view p))) (WrongKind x.span)
    ++ typed_findings site (param_type (param_view p)) s)
    (param_findings site c.args.kind (before ++ x ∷ []) s (map param_view (drop (i + 1) ps)))
    (param_findings site c.args.kind before s (map param_view (drop i ps))) c.args.uses.now.items c.loop-param.uses.items c.take_param.new.uses.items
    c.loop-param.invariant.0 (next_param site c.args.kind before s ps i p c.param-item.is c.loop-param-test.true) found.0 found.1 in (
      subst (λ (ns : List Name). Leaves all c.args.uses.now.items (param_findings site c.args.kind ns s (map param_view (drop (i + 1) ps)))
          c.take_param.new.uses.items) (sym c.in_ok-take_param.ensures.seen) left,
      c.in_ok-take_param.ensures.sound,
    )
