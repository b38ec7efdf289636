use Rattle.std.proofs.Common.{◌≡◌, drop, length, take}
use Rattle.ddl_typed.specs.Blocks.{nothing_built}
use Rattle.ddl_typed.specs.Evaluated.{built_view, meant_items, scope_view}
use Rattle.ddl_typed.specs.Simple.{AreSimple}
use Rattle.ddl_typed.specs.View.{items_view}
use Rattle.ddl_typed.proofs.evaluate.+eval.Given as goal

abbrev pub invariant-eval_items-loop-item : goal.invariant-eval_items-loop-item
invariant-eval_items-loop-item l =
    (meant_items l.input (items_view (drop l.item-index l.items)) (scope_view l.scope.items) (built_view l.built) l.here
    ≡ meant_items l.input (items_view l.items) (scope_view l.initial.scope.items) nothing_built l.at)
    × AreSimple (items_view (drop l.item-index l.items)) (length l.scope.items)
    × (take (length l.initial.scope.items) l.scope.items ≡ l.initial.scope.items)
