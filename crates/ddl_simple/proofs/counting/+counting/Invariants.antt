use Rattle.std.proofs.Common.{◌≡◌, ◌+◌, drop}
use Rattle.ddl_tree.specs.View.{items_view}
use Rattle.ddl_simple.specs.Blocks.{blocks_of_items}
use Rattle.ddl_simple.proofs.counting.+counting.Given as goal

abbrev pub invariant-left_after_items-loop-item : goal.invariant-left_after_items-loop-item
invariant-left_after_items-loop-item l = blocks_of_items (items_view l.items) + l.rest ≡ blocks_of_items (items_view (drop l.item-index l.items)) + l.left
