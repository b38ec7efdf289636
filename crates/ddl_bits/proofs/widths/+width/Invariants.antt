use Rattle.std.proofs.Common.{◌≡◌, min, ◌+◌, ◌≤◌, drop}
use Rattle.ddl_bits.specs.Tree.{parts_width}
use Rattle.ddl_bits.specs.View.{parts_view}
use Rattle.ddl_bits.proofs.widths.+width.Given as goal

abbrev pub invariant-parts_bits-loop-part : goal.invariant-parts_bits-loop-part
invariant-parts_bits-loop-part l =
    record {
      small : l.bits ≤ 129;
      whole : min (l.bits + parts_width (parts_view (drop l.part-index l.parts))) 129 ≡ min (parts_width (parts_view l.parts)) 129;
    }
