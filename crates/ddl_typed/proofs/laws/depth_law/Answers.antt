use Rattle.ddl_types.proofs.Growing.{grown_is_same, grown_begins}
use Rattle.ddl_typed.proofs.Depths.{denoted_law, one_outcome}
use Rattle.ddl_typed.proofs.laws.depth_law.Goals as goal

pub returns-clause-enough : goal.returns-clause-enough
returns-clause-enough c = λ n m spec entry input le whole. grown_is_same (denoted_law n m spec entry input le) whole

pub returns-clause-larger : goal.returns-clause-larger
returns-clause-larger c = λ n m spec entry input le. grown_begins (denoted_law n m spec entry input le)

pub returns-clause-one : goal.returns-clause-one
returns-clause-one c = one_outcome
