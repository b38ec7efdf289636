use Rattle.std.proofs.Common.{ℕ, ◌<◌}
use Rattle.ddl_bits.specs.Overlaps.{HasNoneWith}
use Rattle.ddl_bits.specs.View.{cons_view}
use Rattle.ddl_bits.proofs.overlap.first_overlap.Given as goal

abbrev pub invariant-loop-first : goal.invariant-loop-first
invariant-loop-first l = (i : ℕ) → i < l.first → HasNoneWith (cons_view l.cons) i
