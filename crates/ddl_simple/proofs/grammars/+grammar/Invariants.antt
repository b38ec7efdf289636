use Rattle.std.proofs.Common.{◌≡◌, drop, length, take}
use Rattle.ddl_tree.specs.View.{items_view}
use Rattle.ddl_simple.specs.Grammars.{items}
use Rattle.ddl_simple.specs.Views.{bound, scope_view}
use Rattle.ddl_simple.proofs.Items.{made_before}
use Rattle.ddl_simple.proofs.grammars.+grammar.Given as goal

abbrev pub invariant-typed_items-loop-item : goal.invariant-typed_items-loop-item
invariant-typed_items-loop-item l =
    (made_before l.made.items (items (items_view (drop l.item-index l.items)) (scope_view l.scope)) ≡ items (items_view l.items) (scope_view l.initial.scope))
    × (take (length (bound l.initial.scope)) (bound l.scope) ≡ bound l.initial.scope)
