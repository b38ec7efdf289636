use Rattle.ddl_slots.proofs.Entries.{entry_put, entry_other, trim_same}
use Rattle.ddl_slots.proofs.laws.map_law.Goals as goal

pub returns-clause-there : goal.returns-clause-there
returns-clause-there c = entry_put

pub returns-clause-others : goal.returns-clause-others
returns-clause-others c = entry_other

pub returns-clause-same : goal.returns-clause-same
returns-clause-same c = trim_same
