use Rattle.std.proofs.Common.{◌≡◌, drop}
use Rattle.ddl_typed.specs.View.{items_view}
use Rattle.ddl_simple.specs.Blocks.{has_field}
use Rattle.ddl_simple.proofs.blocks.has_field.Given as goal

abbrev pub invariant-loop-item : goal.invariant-loop-item
invariant-loop-item l = has_field (items_view (drop l.item-index l.items)) ≡ has_field (items_view l.items)
