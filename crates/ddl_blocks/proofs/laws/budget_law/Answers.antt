use Rattle.ddl_types.proofs.Growing.{grown_is_same, grown_begins}
use Rattle.ddl_blocks.proofs.Law.{run_law, one_run, within}
use Rattle.ddl_blocks.proofs.laws.budget_law.Goals as goal

pub returns-clause-enough : goal.returns-clause-enough
returns-clause-enough c = λ n m code s le whole. grown_is_same (run_law n m code s le) whole

pub returns-clause-larger : goal.returns-clause-larger
returns-clause-larger c = λ n m code s le. grown_begins (run_law n m code s le)

pub returns-clause-one : goal.returns-clause-one
returns-clause-one c = one_run

pub returns-clause-within : goal.returns-clause-within
returns-clause-within c = within
