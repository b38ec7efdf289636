use Rattle.std.proofs.Common.{◌≡◌, ◌+◌, ◌^◌, ◌<◌, ◌≤◌, drop}
use Rattle.ddl_bits.specs.Accepted.{ConsAccepted, PartsAccepted}
use Rattle.ddl_bits.specs.Counts.{tally, tally_each}
use Rattle.ddl_bits.specs.Tree.{parts_fit, parts_width}
use Rattle.ddl_bits.specs.View.{layout_view, cons_view, parts_view}
use Rattle.ddl_bits.proofs.below.+below.Given as goal

abbrev pub invariant-layout_below-loop-con : goal.invariant-layout_below-loop-con
invariant-layout_below-loop-con l =
    record {
      accepted : ConsAccepted (cons_view (drop l.con-index l.con-items)) l.width;
      same : l.below + tally_each (cons_view (drop l.con-index l.con-items)) l.number ≡ tally_each (layout_view l.layout) l.number;
    }

abbrev pub invariant-parts_below-loop-place : goal.invariant-parts_below-loop-place
invariant-parts_below-loop-place l =
    record {
      accepted : PartsAccepted (parts_view (drop l.place l.parts));
      bits : parts_width (parts_view (drop l.place l.parts)) ≡ l.left;
      few : l.left ≤ 128;
      within : l.low < 2 ^ l.left;
      same : l.below + tally (parts_fit (parts_view (drop l.place l.parts))) l.low ≡ tally (parts_fit (parts_view l.parts)) l.number;
    }
