use Rattle.ddl_exact.proofs.Sources.{one_source}
use Rattle.ddl_exact.proofs.Walks.{some_source}
use Rattle.ddl_exact.proofs.laws.source_law.Goals as goal

pub returns-clause-one : goal.returns-clause-one
returns-clause-one c = one_source

pub returns-clause-some : goal.returns-clause-some
returns-clause-some c = some_source
