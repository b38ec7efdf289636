use Rattle.ddl_core.proofs.Single.{single_performed, single_attempt}
use Rattle.ddl_core.proofs.laws.attempt_law.Goals as goal

pub returns-clause-operations : goal.returns-clause-operations
returns-clause-operations c = single_performed

pub returns-clause-choices : goal.returns-clause-choices
returns-clause-choices c = single_attempt
