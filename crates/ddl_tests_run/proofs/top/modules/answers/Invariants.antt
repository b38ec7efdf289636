use Rattle.std.proofs.Common.{◌≡◌}
use Rattle.ddl_tests_run.proofs.top.modules.answers.Given as goal

abbrev pub invariant-files : goal.invariant-files
invariant-files g l = l.files.calls ≡ 0
