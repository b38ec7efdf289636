use Rattle.std.proofs.Common.{◌≡◌, ◌+◌, ◌≤◌, drop}
use Rattle.ddl_tree.specs.View.{items_view}
use Rattle.ddl_simple.specs.Blocks.{results}
use Rattle.ddl_simple.proofs.blocks.results.Given as goal

abbrev pub invariant-loop-item : goal.invariant-loop-item
invariant-loop-item l = (l.count + results (items_view (drop l.item-index l.items)) ≡ results (items_view l.items)) × (l.count ≤ l.item-index)
