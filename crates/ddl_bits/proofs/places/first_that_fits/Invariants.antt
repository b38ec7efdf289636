use Rattle.std.proofs.Common.{◌≡◌, drop}
use Rattle.ddl_bits.specs.Tree.{place_from, place_of, ConsSized}
use Rattle.ddl_bits.specs.View.{cons_view}
use Rattle.ddl_bits.proofs.places.first_that_fits.Given as goal

abbrev pub invariant-loop-place : goal.invariant-loop-place
invariant-loop-place l =
    record {
      sized : ConsSized (cons_view (drop l.place l.cons)) l.width;
      same : place_from l.place (cons_view (drop l.place l.cons)) l.number ≡ place_of (cons_view l.cons) l.number;
    }
