use Rattle.std.proofs.Common.{set, ◌∙◌, arith}
use Rattle.ddl_bits.specs.View.{part_view}
use Rattle.ddl_bits.proofs.Runs.{leaf_left}
use Rattle.ddl_bits.proofs.Steps.{has_a_bit}
use Rattle.ddl_bits.proofs.stepping.leaf_step.Goals as goal
use Rattle.ddl_bits.proofs.stepping.leaf_step.Goals.{then-marks, else-marks}

-- a leaf that is not gone on with is not being read
pub returns-else-goes-2 : goal.returns-else-goes-2
returns-else-goes-2 c =
    λ n has runs before.
    let p = part_view c.args.leaf.now in
    leaf_left p c.args.low c.args.bit.place c.args.marks.now (set c.args.marks.now 0 c.if-goes.marks) n c.if-marks.goes (has_a_bit p c.requires.sized) runs
    (λ at. c.if-bit-low.false (omega (arith, at, c.part_bits.ensures)))
    (λ marked over under.
    elim c.if-marks.branch [
      | then-marks w ↦ w.goes-is ∙ w.goes_on-goes.ensures n has runs.0 over under
      | else-marks w ↦ w.goes-is ∙ marked
    ])
    c.if-goes-2.false
