use Rattle.ddl_source.proofs.ReadBack.{same_tree, there}
use Rattle.ddl_source.proofs.law.shown_modules_are_read_back.Goals as goal

pub returns-clause-there : goal.returns-clause-there
returns-clause-there c = there

pub returns-clause-same : goal.returns-clause-same
returns-clause-same c = same_tree
