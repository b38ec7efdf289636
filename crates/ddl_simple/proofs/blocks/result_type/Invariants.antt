use Rattle.std.proofs.Common.{◌≡◌, drop}
use Rattle.ddl_typed.specs.View.{items_view}
use Rattle.ddl_simple.specs.Blocks.{result_type}
use Rattle.ddl_simple.proofs.blocks.result_type.Given as goal

abbrev pub invariant-loop-item : goal.invariant-loop-item
invariant-loop-item l = result_type (items_view (drop l.item-index l.items)) ≡ result_type (items_view l.items)
