use Rattle.std.proofs.Common.{◌≡◌, ◌≤◌, drop}
use Rattle.ddl_bits.specs.Cuts.{parts_cut}
use Rattle.ddl_bits.specs.Tree.{parts_width, PartsSized}
use Rattle.ddl_bits.specs.View.{parts_view}
use Rattle.ddl_bits.proofs.cuts.+cut.Given as goal

abbrev pub invariant-parts_cut-loop-part : goal.invariant-parts_cut-loop-part
invariant-parts_cut-loop-part l =
    record {
      sized : PartsSized (parts_view (drop l.part-index l.parts));
      bits : parts_width (parts_view (drop l.part-index l.parts)) ≡ l.left;
      few : l.left ≤ 128;
      same : parts_cut (parts_view (drop l.part-index l.parts)) l.place ≡ parts_cut (parts_view l.parts) l.place;
    }
