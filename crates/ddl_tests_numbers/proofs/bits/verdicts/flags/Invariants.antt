use Rattle.ddl_bits.specs.Accepted.{PartsAccepted}
use Rattle.ddl_bits.specs.View.{parts_view}
use Rattle.ddl_tests_numbers.proofs.bits.verdicts.flags.Given as goal

abbrev pub invariant-loop-place : goal.invariant-loop-place
invariant-loop-place l = PartsAccepted (parts_view l.parts.items)
