use Rattle.std.proofs.Common.{◌≡◌, ℕ, ◌<◌, false}
use Rattle.ddl_bits.specs.Overlaps.{fits_both}
use Rattle.ddl_bits.specs.View.{cons_view}
use Rattle.ddl_bits.proofs.overlap.overlap_with.Given as goal

abbrev pub invariant-loop-second : goal.invariant-loop-second
invariant-loop-second l = (j m : ℕ) → l.first < j → j < l.second → fits_both (cons_view l.cons) l.first j m ≡ false
