use Rattle.std.proofs.Common.{◌≡◌, ◌+◌, List, ◌++◌, drop, ap, subst, sym, ◌∙◌, rules, [], ◌∷◌, arith, ◌≤◌, length, refl}
use Rattle.ddl_tree.specs.View.{exprs_view, view, bindings_view, alt_view, alts_view, item_view, items_view}
use Rattle.ddl_tree.specs.declared.expr.Binding.{out-Binding}
use Rattle.ddl_tree.specs.declared.name.Name.{Name}
use Rattle.ddl_tree.specs.ExprTree as ex
use Rattle.ddl_tree.proofs.Layers.{binding_view_out}
use Rattle.std.proofs.lemmas.List.{append_assoc}
use Rattle.ddl_uses.specs.declared.outer.Outer.{Outer}
use Rattle.ddl_kinds.specs.declared.want.Want.{Want}
use Rattle.ddl_kinds.specs.Findings.{Finding, again, all_uses, first_refusal}
use Rattle.ddl_uses.specs.Forms.{arguments, findings, bindings, branches, each, item_findings, items, once, once_again}
use Rattle.ddl_kinds.specs.Found.{IsFirst, wants_view}
use Rattle.ddl_uses.specs.Walks.{site_view}
use Rattle.ddl_uses.specs.Held.{scope_view, seen_view}
use Rattle.ddl_uses.specs.Scope.{Scope, after_pattern, after_item, outermost}
use Rattle.ddl_uses.proofs.Done.{done, refused, later}
use Rattle.ddl_kinds.proofs.Finding.{Leaves}
use Rattle.ddl_uses.proofs.Left.{item_left, item_longer}
use Rattle.ddl_uses.proofs.Staying.{done_there, kept_on, refused_there}
use Rattle.ddl_uses.proofs.Walking.{next_argument, next_binding, next_branch, next_expr, next_item}
use Rattle.ddl_uses.proofs.walk.Walk.+exprs.Goals as goal

pub take_args-returns-in_err-take_expr-clause-found : goal.take_args-returns-in_err-take_expr-clause-found
take_args-returns-in_err-take_expr-clause-found r c =
    let w = c.args.self.now in
    let here = c.loop-place.self in
    let site = site_view w.outer in
    let s = scope_view w.scope in
    let xs = c.args.args.now in
    let ws = wants_view c.args.wants in
    let x = c.index-args-place.result in
    let i = c.loop-place.place in
    let first : IsFirst (arguments site (exprs_view xs) ws s) c.in_err-take_expr.field-0.0 =
    refused_there (λ t q. findings t (view x) c.want.result q) w here (arguments site (exprs_view xs) ws s)
    (arguments site (exprs_view (drop (i + 1) xs)) (drop (i + 1) ws) s) (arguments site (exprs_view (drop i xs)) (drop i ws) s) w.uses.items here.uses.items
    c.in_err-take_expr.field-0.0
    c.loop-place.invariant.1 c.loop-place.invariant.0 (next_argument site xs i x ws s c.index-args-place.is c.loop-place-test.true
    ∙ ap (λ (v : Want). findings site (view x) v s ++ arguments site (exprs_view (drop (i + 1) xs)) (drop (i + 1) ws) s) (sym c.want.ensures))
    c.in_err-take_expr.ensures.found in
    search (rules, first)

pub take_args-loop-place-preserved : goal.take_args-loop-place-preserved
take_args-loop-place-preserved r c =
    let w = c.args.self.now in
    let here = c.loop-place.self in
    let site = site_view w.outer in
    let s = scope_view w.scope in
    let xs = c.args.args.now in
    let ws = wants_view c.args.wants in
    let x = c.index-args-place.result in
    let i = c.loop-place.place in
    let found = c.in_ok-take_expr.ensures.found in (
      done_there (λ t q. findings t (view x) c.want.result q) w here (arguments site (exprs_view xs) ws s)
          (arguments site (exprs_view (drop (i + 1) xs)) (drop (i + 1) ws) s) (arguments site (exprs_view (drop i xs)) (drop i ws) s) w.uses.items
          here.uses.items c.take_expr.new.self.uses.items
          c.loop-place.invariant.1 c.loop-place.invariant.0 (next_argument site xs i x ws s c.index-args-place.is c.loop-place-test.true
          ∙ ap (λ (v : Want). findings site (view x) v s ++ arguments site (exprs_view (drop (i + 1) xs)) (drop (i + 1) ws) s) (sym c.want.ensures)) found.0
          found.1,
      kept_on w here c.take_expr.new.self c.loop-place.invariant.1 c.in_ok-take_expr.ensures.kept,
    )

pub take_binding-returns-in_err-take_expr-clause-found : goal.take_binding-returns-in_err-take_expr-clause-found
take_binding-returns-in_err-take_expr-clause-found r c =
    let f = again (seen_view c.args.seen.now) c.args.name.now in
    let g = findings (site_view c.args.self.now.outer) (view c.args.value.now) c.args.want (scope_view c.args.self.now.scope) in
    let first : IsFirst (f ++ g) c.in_err-take_expr.field-0.0 =
    later f g c.in_err-take_expr.field-0.0 c.in_ok-once_named.ensures.found.0 c.in_err-take_expr.ensures.found in
    search (rules, first)

pub take_bindings-returns-in_err-take_binding-clause-found : goal.take_bindings-returns-in_err-take_binding-clause-found
take_bindings-returns-in_err-take_binding-clause-found r c =
    let w = c.args.self.now in
    let here = c.loop-binding.self in
    let site = site_view w.outer in
    let s = scope_view w.scope in
    let xs = c.args.of.now in
    let x = c.binding-item.result in
    let n = (out-Binding x).name in
    let i = c.loop-binding.binding-index in
    let before = seen_view c.loop-binding.seen in
    let all : List Finding = bindings site (bindings_view xs) c.args.want [] s in
    let rest : List Finding = bindings site (bindings_view (drop (i + 1) xs)) c.args.want (before ++ n ∷ []) s in
    let left : List Finding = bindings site (bindings_view (drop i xs)) c.args.want before s in
    let next : left ≡ (again before n ++ findings site (view (out-Binding x).value) c.args.want s) ++ rest =
    next_binding site xs i x c.args.want before s c.binding-item.is c.loop-binding-test.true
    ∙ ap (λ (b : ex.Binding). again before b.name ++ findings site b.value c.args.want s
    ++ bindings site (bindings_view (drop (i + 1) xs)) c.args.want (before ++ b.name ∷ []) s) (binding_view_out x) in
    let first : IsFirst all c.in_err-take_binding.field-0.0 =
    refused_there (λ t q. again before n ++ findings t (view (out-Binding x).value) c.args.want q) w here all rest left w.uses.items here.uses.items
    c.in_err-take_binding.field-0.0
    c.loop-binding.invariant.1 c.loop-binding.invariant.0 next c.in_err-take_binding.ensures.found in
    search (rules, first)

pub take_bindings-loop-binding-preserved : goal.take_bindings-loop-binding-preserved
take_bindings-loop-binding-preserved r c =
    let w = c.args.self.now in
    let here = c.loop-binding.self in
    let site = site_view w.outer in
    let s = scope_view w.scope in
    let xs = c.args.of.now in
    let x = c.binding-item.result in
    let n = (out-Binding x).name in
    let i = c.loop-binding.binding-index in
    let before = seen_view c.loop-binding.seen in
    let all : List Finding = bindings site (bindings_view xs) c.args.want [] s in
    let rest : List Finding = bindings site (bindings_view (drop (i + 1) xs)) c.args.want (before ++ n ∷ []) s in
    let left : List Finding = bindings site (bindings_view (drop i xs)) c.args.want before s in
    let next : left ≡ (again before n ++ findings site (view (out-Binding x).value) c.args.want s) ++ rest =
    next_binding site xs i x c.args.want before s c.binding-item.is c.loop-binding-test.true
    ∙ ap (λ (b : ex.Binding). again before b.name ++ findings site b.value c.args.want s
    ++ bindings site (bindings_view (drop (i + 1) xs)) c.args.want (before ++ b.name ∷ []) s) (binding_view_out x) in
    let found = c.in_ok-take_binding.ensures.found in
    let end : Leaves all w.uses.items rest c.take_binding.new.self.uses.items =
    done_there (λ t q. again before n ++ findings t (view (out-Binding x).value) c.args.want q) w here all rest left w.uses.items here.uses.items
    c.take_binding.new.self.uses.items
    c.loop-binding.invariant.1 c.loop-binding.invariant.0 next found.0 found.1 in (
      subst (λ (ns : List Name). Leaves all w.uses.items (bindings site (bindings_view (drop (i + 1) xs)) c.args.want ns s) c.take_binding.new.self.uses.items)
          (sym c.in_ok-take_binding.ensures.seen) end,
      kept_on w here c.take_binding.new.self c.loop-binding.invariant.1 c.in_ok-take_binding.ensures.kept,
      c.in_ok-take_binding.ensures.sound,
    )

pub take_branches-returns-in_err-take_branch-clause-found : goal.take_branches-returns-in_err-take_branch-clause-found
take_branches-returns-in_err-take_branch-clause-found r c =
    let w = c.args.self.now in
    let here = c.loop-alt.self in
    let site = site_view w.outer in
    let s = scope_view w.scope in
    let xs = c.args.alts.now in
    let x = c.alt-item.result in
    let i = c.loop-alt.alt-index in
    let first : IsFirst (branches site (alts_view xs) c.args.want s) c.in_err-take_branch.field-0.0 =
    refused_there (λ t q. findings t (alt_view x).body c.args.want (after_pattern (alt_view x).pattern q)) w here (branches site (alts_view xs) c.args.want s)
    (branches site (alts_view (drop (i + 1) xs)) c.args.want s) (branches site (alts_view (drop i xs)) c.args.want s) w.uses.items here.uses.items
    c.in_err-take_branch.field-0.0
    c.loop-alt.invariant.1 c.loop-alt.invariant.0 (next_branch site xs i x c.args.want s c.alt-item.is c.loop-alt-test.true) c.in_err-take_branch.ensures.found
    in
    search (rules, first)

pub take_branches-loop-alt-preserved : goal.take_branches-loop-alt-preserved
take_branches-loop-alt-preserved r c =
    let w = c.args.self.now in
    let here = c.loop-alt.self in
    let site = site_view w.outer in
    let s = scope_view w.scope in
    let xs = c.args.alts.now in
    let x = c.alt-item.result in
    let i = c.loop-alt.alt-index in
    let found = c.in_ok-take_branch.ensures.found in (
      done_there (λ t q. findings t (alt_view x).body c.args.want (after_pattern (alt_view x).pattern q)) w here (branches site (alts_view xs) c.args.want s)
          (branches site (alts_view (drop (i + 1) xs)) c.args.want s) (branches site (alts_view (drop i xs)) c.args.want s) w.uses.items here.uses.items
          c.take_branch.new.self.uses.items
          c.loop-alt.invariant.1 c.loop-alt.invariant.0 (next_branch site xs i x c.args.want s c.alt-item.is c.loop-alt-test.true) found.0 found.1,
      kept_on w here c.take_branch.new.self c.loop-alt.invariant.1 c.in_ok-take_branch.ensures.kept,
    )

pub take_exprs-returns-in_err-take_expr-clause-found : goal.take_exprs-returns-in_err-take_expr-clause-found
take_exprs-returns-in_err-take_expr-clause-found r c =
    let w = c.args.self.now in
    let here = c.loop-expr.self in
    let site = site_view w.outer in
    let s = scope_view w.scope in
    let xs = c.args.exprs.now in
    let x = c.expr-item.result in
    let i = c.loop-expr.expr-index in
    let first : IsFirst (each site (exprs_view xs) c.args.want s) c.in_err-take_expr.field-0.0 =
    refused_there (λ t q. findings t (view x) c.args.want q) w here (each site (exprs_view xs) c.args.want s)
    (each site (exprs_view (drop (i + 1) xs)) c.args.want s) (each site (exprs_view (drop i xs)) c.args.want s) w.uses.items here.uses.items
    c.in_err-take_expr.field-0.0
    c.loop-expr.invariant.1 c.loop-expr.invariant.0 (next_expr site xs i x c.args.want s c.expr-item.is c.loop-expr-test.true) c.in_err-take_expr.ensures.found
    in
    search (rules, first)

pub take_exprs-loop-expr-preserved : goal.take_exprs-loop-expr-preserved
take_exprs-loop-expr-preserved r c =
    let w = c.args.self.now in
    let here = c.loop-expr.self in
    let site = site_view w.outer in
    let s = scope_view w.scope in
    let xs = c.args.exprs.now in
    let x = c.expr-item.result in
    let i = c.loop-expr.expr-index in
    let found = c.in_ok-take_expr.ensures.found in (
      done_there (λ t q. findings t (view x) c.args.want q) w here (each site (exprs_view xs) c.args.want s)
          (each site (exprs_view (drop (i + 1) xs)) c.args.want s) (each site (exprs_view (drop i xs)) c.args.want s) w.uses.items here.uses.items
          c.take_expr.new.self.uses.items
          c.loop-expr.invariant.1 c.loop-expr.invariant.0 (next_expr site xs i x c.args.want s c.expr-item.is c.loop-expr-test.true) found.0 found.1,
      kept_on w here c.take_expr.new.self c.loop-expr.invariant.1 c.in_ok-take_expr.ensures.kept,
    )

pub take_items-returns-in_err-take_item-clause-found : goal.take_items-returns-in_err-take_item-clause-found
take_items-returns-in_err-take_item-clause-found r c =
    let w = c.args.self.now in
    let here = c.loop-item.self in
    let site = site_view w.outer in
    let s = scope_view here.scope in
    let xs = c.args.of.now in
    let x = item_view c.item-item.result in
    let i = c.loop-item.item-index in
    let before = seen_view c.loop-item.seen in
    let all : List Finding = items site (items_view xs) [] (scope_view w.scope) in
    let f : List Finding = once_again before (once x) in
    let g : List Finding = item_findings site x s in
    let rest : List Finding = items site (items_view (drop (i + 1) xs)) (before ++ once x) (after_item x s) in
    let left : List Finding = items site (items_view (drop i xs)) before s in
    let next : left ≡ f ++ g ++ rest = next_item site xs i c.item-item.result before s c.item-item.is c.loop-item-test.true in
    let new = c.in_ok-once.ensures.found in
    let mid : Leaves all w.uses.items (g ++ rest) here.uses.items =
    done all f (g ++ rest) left w.uses.items here.uses.items here.uses.items c.loop-item.invariant.0 (next
    ∙ append_assoc f g rest) new.0 (search (rules, new.1)) in
    let same : item_findings (site_view here.outer) x s ≡ g = ap (λ (o : Outer). item_findings (site_view o) x s) c.loop-item.invariant.3 in
    let first : IsFirst all c.in_err-take_item.field-0.0 =
    refused all g rest (g ++ rest) w.uses.items here.uses.items c.in_err-take_item.field-0.0 mid refl
    (subst (λ (fs : List Finding). IsFirst fs c.in_err-take_item.field-0.0) same c.in_err-take_item.ensures.found) in
    search (rules, first)

pub take_items-loop-item-preserved : goal.take_items-loop-item-preserved
take_items-loop-item-preserved r c =
    let w = c.args.self.now in
    let here = c.loop-item.self in
    let site = site_view w.outer in
    let s = scope_view here.scope in
    let xs = c.args.of.now in
    let x = item_view c.item-item.result in
    let i = c.loop-item.item-index in
    let before = seen_view c.loop-item.seen in
    let all : List Finding = items site (items_view xs) [] (scope_view w.scope) in
    let f : List Finding = once_again before (once x) in
    let g : List Finding = item_findings site x s in
    let rest : List Finding = items site (items_view (drop (i + 1) xs)) (before ++ once x) (after_item x s) in
    let left : List Finding = items site (items_view (drop i xs)) before s in
    let next : left ≡ f ++ g ++ rest = next_item site xs i c.item-item.result before s c.item-item.is c.loop-item-test.true in
    let new = c.in_ok-once.ensures.found in
    let mid : Leaves all w.uses.items (g ++ rest) here.uses.items =
    done all f (g ++ rest) left w.uses.items here.uses.items here.uses.items c.loop-item.invariant.0 (next
    ∙ append_assoc f g rest) new.0 (search (rules, new.1)) in
    let same : item_findings (site_view here.outer) x s ≡ g = ap (λ (o : Outer). item_findings (site_view o) x s) c.loop-item.invariant.3 in
    let n = length (scope_view w.scope) in
    let found = c.in_ok-take_item.ensures.found in
    let kept = c.in_ok-take_item.ensures.kept in
    let bound : scope_view c.bind_item.new.scope ≡ after_item x s = c.in_ok-bind_item.ensures.bound ∙ ap (after_item x) kept.1 in
    let end : Leaves all w.uses.items rest c.take_item.new.self.uses.items =
    done all g rest (g ++ rest) w.uses.items here.uses.items c.take_item.new.self.uses.items mid refl (ap first_refusal (sym same) ∙ found.0)
    (found.1 ∙ ap (λ fs. here.uses.items ++ all_uses fs) same) in
    let named : Leaves all w.uses.items (items site (items_view (drop (i + 1) xs)) (seen_view c.once.new.seen) (after_item x s))
    c.take_item.new.self.uses.items =
    subst (λ (ns : List Name). Leaves all w.uses.items (items site (items_view (drop (i + 1) xs)) ns (after_item x s)) c.take_item.new.self.uses.items)
    (sym c.in_ok-once.ensures.seen) end in
    let within : n ≤ length s = c.loop-item.invariant.2 in
    let longer : length s ≤ length (after_item x s) = item_longer x s in
    let more : n ≤ length (after_item x s) = omega arith in (
      subst (λ (t : Scope). Leaves all w.uses.items (items site (items_view (drop (i + 1) xs)) (seen_view c.once.new.seen) t) c.take_item.new.self.uses.items)
          (sym bound) named,
      ap (outermost n) bound ∙ item_left n x s within ∙ c.loop-item.invariant.1,
      subst (λ (t : Scope). n ≤ length t) (sym bound) more,
      kept.0 ∙ c.loop-item.invariant.3,
      (kept.2.0, c.in_ok-bind_item.ensures.sound),
      c.in_ok-once.ensures.sound,
    )
