use Rattle.std.proofs.Common.{◌≡◌, drop}
use Rattle.ddl_tree.specs.View.{items_view}
use Rattle.ddl_simple.specs.Blocks.{all_different, field_names}
use Rattle.ddl_simple.specs.Views.{has_text}
use Rattle.ddl_simple.proofs.Fields.{are_new}
use Rattle.ddl_simple.proofs.blocks.has_different_fields.Given as goal

abbrev pub invariant-loop-item : goal.invariant-loop-item
invariant-loop-item l = are_new (has_text l.seen) (field_names (items_view (drop l.item-index l.items))) ≡ all_different (field_names (items_view l.items))
