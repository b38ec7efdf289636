use Rattle.std.proofs.Common.{◌≡◌}
use Rattle.ddl_tests_run.proofs.top.modules.too_many_modules.Given as goal

abbrev pub invariant-loop-k : goal.invariant-loop-k
invariant-loop-k g l = l.files.calls ≡ 0
