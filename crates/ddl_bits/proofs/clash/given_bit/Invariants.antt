use Rattle.std.proofs.Common.{◌≡◌, ◌<◌, ◌≤◌, drop}
use Rattle.ddl_bits.specs.FixedBits.{parts_bit}
use Rattle.ddl_bits.specs.Tree.{parts_width, PartsSized}
use Rattle.ddl_bits.specs.View.{parts_view}
use Rattle.ddl_bits.proofs.clash.given_bit.Given as goal

abbrev pub invariant-loop-part : goal.invariant-loop-part
invariant-loop-part l =
    record {
      sized : PartsSized (parts_view (drop l.part-index l.parts));
      bits : parts_width (parts_view (drop l.part-index l.parts)) ≡ l.left;
      few : l.left ≤ 128;
      inside : l.place < l.left;
      same : parts_bit (parts_view (drop l.part-index l.parts)) l.place ≡ parts_bit (parts_view l.parts) l.place;
    }
