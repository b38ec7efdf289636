use Rattle.std.proofs.Common.{◌≡◌}
use Rattle.ddl_tests_run.proofs.modules.chain.Given as goal

abbrev pub invariant-loop-number : goal.invariant-loop-number
invariant-loop-number l = l.files.calls ≡ 0
