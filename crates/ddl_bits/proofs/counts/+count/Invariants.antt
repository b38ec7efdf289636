use Rattle.std.proofs.Common.{◌≡◌, ◌+◌, ◌*◌, ◌^◌, ◌≤◌, drop}
use Rattle.ddl_bits.specs.Accepted.{ConsAccepted, PartsAccepted}
use Rattle.ddl_bits.specs.Counts.{tally, tally_each}
use Rattle.ddl_bits.specs.Tree.{parts_fit, parts_width}
use Rattle.ddl_bits.specs.View.{layout_view, cons_view, parts_view}
use Rattle.ddl_bits.proofs.counts.+count.Given as goal

abbrev pub invariant-layout_count-loop-con : goal.invariant-layout_count-loop-con
invariant-layout_count-loop-con l =
    record {
      accepted : ConsAccepted (cons_view (drop l.con-index l.con-items)) l.width;
      same : l.count + tally_each (cons_view (drop l.con-index l.con-items)) (2 ^ l.width) ≡ tally_each (layout_view l.layout) (2 ^ l.width);
    }

abbrev pub invariant-parts_count-loop-part : goal.invariant-parts_count-loop-part
invariant-parts_count-loop-part l =
    record {
      accepted : PartsAccepted (parts_view (drop l.part-index l.parts));
      few : parts_width (parts_view (drop l.part-index l.parts)) ≤ l.width;
      room : l.count * 2 ^ parts_width (parts_view (drop l.part-index l.parts)) ≤ 2 ^ l.width;
      same : l.count * tally (parts_fit (parts_view (drop l.part-index l.parts))) (2 ^ parts_width (parts_view (drop l.part-index l.parts)))
          ≡ tally (parts_fit (parts_view l.parts)) (2 ^ l.width);
    }
