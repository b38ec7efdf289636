use Rattle.std.proofs.Common.{◌≡◌, ◌+◌, ◌^◌, ◌≤◌}
use Rattle.ddl_bits.specs.Counts.{tally}
use Rattle.ddl_bits.specs.Tree.{cons_fit}
use Rattle.ddl_bits.specs.View.{layout_view}
use Rattle.ddl_bits.proofs.coverage.first_left_out.Given as goal

abbrev pub decreases-loop-bits : goal.decreases-loop-bits
decreases-loop-bits l = l.bits

abbrev pub invariant-loop-bits : goal.invariant-loop-bits
invariant-loop-bits l =
    record {
      fewer : l.bits ≤ l.width;
      within : l.number + 2 ^ l.bits ≤ 2 ^ l.width;
      full : tally (cons_fit (layout_view l.layout)) l.number ≡ l.number;
      last : tally (cons_fit (layout_view l.layout)) (l.number + 2 ^ l.bits) ≡ l.number + 2 ^ l.bits → l.number + 2 ^ l.bits ≡ 2 ^ l.width;
    }
