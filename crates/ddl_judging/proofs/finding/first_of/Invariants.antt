use Rattle.ddl_judging.proofs.Found.{Differ}
use Rattle.ddl_judging.proofs.finding.first_of.Given as goal

abbrev pub invariant-loop-i : goal.invariant-loop-i
invariant-loop-i l = record { differ : Differ l.name l.names l.i }
