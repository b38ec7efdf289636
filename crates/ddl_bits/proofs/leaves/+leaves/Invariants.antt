use Rattle.std.proofs.Common.{◌≡◌, min, ◌+◌, ◌-◌, ◌^◌, ◌<◌, drop}
use Rattle.ddl_bits.specs.Flows.{cons_leaves, parts_leaves}
use Rattle.ddl_bits.specs.View.{cons_view, parts_view, layout_view}
use Rattle.ddl_bits.proofs.leaves.+leaves.Given as goal

abbrev pub invariant-layout_leaves-loop-con : goal.invariant-layout_leaves-loop-con
invariant-layout_leaves-loop-con l =
    record {
      small : l.leaves < 2 ^ 64;
      whole : min (l.leaves + cons_leaves (cons_view (drop l.con-index l.con-items))) (2 ^ 64 - 1) ≡ min (cons_leaves (layout_view l.layout)) (2 ^ 64 - 1);
    }

abbrev pub invariant-parts_leaves-loop-part : goal.invariant-parts_leaves-loop-part
invariant-parts_leaves-loop-part l =
    record {
      small : l.leaves < 2 ^ 64;
      whole : min (l.leaves + parts_leaves (parts_view (drop l.part-index l.parts))) (2 ^ 64 - 1) ≡ min (parts_leaves (parts_view l.parts)) (2 ^ 64 - 1);
    }
