use Rattle.std.proofs.Common.{◌≡◌, ◌≤◌, [], drop, length}
use Rattle.ddl_tree.specs.View.{alts_view, bindings_view, exprs_view, items_view}
use Rattle.ddl_uses.specs.Forms.{arguments, bindings, branches, each, items}
use Rattle.ddl_uses.specs.Walks.{IsKept, IsWalk, site_view}
use Rattle.ddl_kinds.specs.Found.{wants_view}
use Rattle.ddl_uses.specs.Held.{IsSeen, scope_view, seen_view}
use Rattle.ddl_uses.specs.Scope.{outermost}
use Rattle.ddl_kinds.proofs.Finding.{Leaves}
use Rattle.ddl_uses.proofs.walk.Walk.+exprs.Given as goal

abbrev pub invariant-take_args-loop-place : goal.invariant-take_args-loop-place
invariant-take_args-loop-place l =
    Leaves (arguments (site_view l.initial.self.outer) (exprs_view l.args) (wants_view l.wants) (scope_view l.initial.self.scope)) l.initial.self.uses.items
    (arguments (site_view l.initial.self.outer) (exprs_view (drop l.place l.args)) (drop l.place (wants_view l.wants)) (scope_view l.initial.self.scope))
    l.self.uses.items
    × IsKept l.initial.self l.self

abbrev pub invariant-take_bindings-loop-binding : goal.invariant-take_bindings-loop-binding
invariant-take_bindings-loop-binding l =
    Leaves (bindings (site_view l.initial.self.outer) (bindings_view l.of) l.want [] (scope_view l.initial.self.scope)) l.initial.self.uses.items
    (bindings (site_view l.initial.self.outer) (bindings_view (drop l.binding-index l.of)) l.want (seen_view l.seen) (scope_view l.initial.self.scope))
    l.self.uses.items
    × IsKept l.initial.self l.self × IsSeen l.seen

abbrev pub invariant-take_branches-loop-alt : goal.invariant-take_branches-loop-alt
invariant-take_branches-loop-alt l =
    Leaves (branches (site_view l.initial.self.outer) (alts_view l.alts) l.want (scope_view l.initial.self.scope)) l.initial.self.uses.items
    (branches (site_view l.initial.self.outer) (alts_view (drop l.alt-index l.alts)) l.want (scope_view l.initial.self.scope)) l.self.uses.items
    × IsKept l.initial.self l.self

abbrev pub invariant-take_exprs-loop-expr : goal.invariant-take_exprs-loop-expr
invariant-take_exprs-loop-expr l =
    Leaves (each (site_view l.initial.self.outer) (exprs_view l.exprs) l.want (scope_view l.initial.self.scope)) l.initial.self.uses.items
    (each (site_view l.initial.self.outer) (exprs_view (drop l.expr-index l.exprs)) l.want (scope_view l.initial.self.scope)) l.self.uses.items
    × IsKept l.initial.self l.self

abbrev pub invariant-take_items-loop-item : goal.invariant-take_items-loop-item
invariant-take_items-loop-item l =
    Leaves (items (site_view l.initial.self.outer) (items_view l.of) [] (scope_view l.initial.self.scope)) l.initial.self.uses.items
    (items (site_view l.initial.self.outer) (items_view (drop l.item-index l.of)) (seen_view l.seen) (scope_view l.self.scope)) l.self.uses.items
    × (outermost (length (scope_view l.initial.self.scope)) (scope_view l.self.scope) ≡ scope_view l.initial.self.scope)
    × (length (scope_view l.initial.self.scope) ≤ length (scope_view l.self.scope)) × (l.self.outer ≡ l.initial.self.outer) × IsWalk l.self × IsSeen l.seen
