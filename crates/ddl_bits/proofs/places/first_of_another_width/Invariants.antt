use Rattle.std.proofs.Common.{◌≡◌, drop}
use Rattle.ddl_bits.specs.Tree.{other_width_from}
use Rattle.ddl_bits.specs.View.{cons_view}
use Rattle.ddl_bits.proofs.places.first_of_another_width.Given as goal

abbrev pub invariant-loop-place : goal.invariant-loop-place
invariant-loop-place l = other_width_from l.width l.place (cons_view (drop l.place l.cons)) ≡ other_width_from l.width 0 (cons_view l.cons)
