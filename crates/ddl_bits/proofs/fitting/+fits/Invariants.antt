use Rattle.std.proofs.Common.{◌≡◌, ◌≤◌, drop}
use Rattle.ddl_bits.specs.Tree.{cons_fit, parts_fit, parts_width, ConsSized, PartsSized}
use Rattle.ddl_bits.specs.View.{layout_view, cons_view, parts_view}
use Rattle.ddl_bits.proofs.fitting.+fits.Given as goal

abbrev pub invariant-layout_fits-loop-con : goal.invariant-layout_fits-loop-con
invariant-layout_fits-loop-con l =
    record {
      sized : ConsSized (cons_view (drop l.con-index l.con-items)) l.width;
      same : cons_fit (cons_view (drop l.con-index l.con-items)) l.number ≡ cons_fit (layout_view l.layout) l.number;
    }

abbrev pub invariant-parts_fit-loop-part : goal.invariant-parts_fit-loop-part
invariant-parts_fit-loop-part l =
    record {
      sized : PartsSized (parts_view (drop l.part-index l.parts));
      bits : parts_width (parts_view (drop l.part-index l.parts)) ≡ l.left;
      few : l.left ≤ 128;
      same : parts_fit (parts_view (drop l.part-index l.parts)) l.low ≡ parts_fit (parts_view l.parts) l.number;
    }
