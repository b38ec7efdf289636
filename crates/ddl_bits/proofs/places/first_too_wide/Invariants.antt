use Rattle.std.proofs.Common.{◌≡◌, drop}
use Rattle.ddl_bits.specs.Tree.{too_wide_from}
use Rattle.ddl_bits.specs.View.{cons_view}
use Rattle.ddl_bits.proofs.places.first_too_wide.Given as goal

abbrev pub invariant-loop-place : goal.invariant-loop-place
invariant-loop-place l = too_wide_from l.place (cons_view (drop l.place l.cons)) ≡ too_wide_from 0 (cons_view l.cons)
