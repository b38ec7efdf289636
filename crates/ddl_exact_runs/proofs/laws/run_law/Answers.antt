use Rattle.ddl_exact_runs.proofs.Runs.{one_answer, one_run}
use Rattle.ddl_exact_runs.proofs.laws.run_law.Goals as goal

pub returns-clause-answer : goal.returns-clause-answer
returns-clause-answer c = one_answer

pub returns-clause-run : goal.returns-clause-run
returns-clause-run c = one_run
