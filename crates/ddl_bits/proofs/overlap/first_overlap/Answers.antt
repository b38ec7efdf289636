use Rattle.std.proofs.Common.{length, inl, inr, arith}
use Rattle.std.proofs.lemmas.Bool.{cases_lt}
use Rattle.ddl_bits.specs.Overlaps.{fits_at}
use Rattle.ddl_bits.specs.View.{cons_view}
use Rattle.ddl_bits.proofs.Pairs.{fits_at_over}
use Rattle.ddl_bits.proofs.Searching.{first_false}
use Rattle.ddl_bits.proofs.overlap.first_overlap.Goals as goal

pub returns : goal.returns
returns c =
    λ i j m above.
    elim (cases_lt i (length c.args.cons.now)) [
      | inl inside ↦ c.loop-first.invariant i (omega arith) j m above
      | inr outside ↦ first_false (fits_at (cons_view c.args.cons.now) i m) (fits_at (cons_view c.args.cons.now) j m) (fits_at_over c.args.cons.now i m outside)
    ]
