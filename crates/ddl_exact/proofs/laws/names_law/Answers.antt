use Rattle.ddl_exact.proofs.Names.{one_names, one_resolved}
use Rattle.ddl_exact.proofs.laws.names_law.Goals as goal

pub returns-clause-one : goal.returns-clause-one
returns-clause-one c = one_names

pub returns-clause-kept : goal.returns-clause-kept
returns-clause-kept c = one_resolved
