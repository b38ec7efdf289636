use Rattle.ddl_types.proofs.Growing.{grown_is_same, grown_begins}
use Rattle.ddl_core.proofs.Law.{run_law, one_outcome}
use Rattle.ddl_core.proofs.laws.depth_law.Goals as goal

pub returns-clause-enough : goal.returns-clause-enough
returns-clause-enough c = λ n m program s le whole. grown_is_same (run_law n m program s le) whole

pub returns-clause-larger : goal.returns-clause-larger
returns-clause-larger c = λ n m program s le. grown_begins (run_law n m program s le)

pub returns-clause-one : goal.returns-clause-one
returns-clause-one c = one_outcome
