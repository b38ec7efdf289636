use Rattle.ddl_slots.proofs.Entries.{picks_vacant, picks_offered}
use Rattle.ddl_slots.proofs.laws.number_law.Goals as goal

pub returns-clause-vacant : goal.returns-clause-vacant
returns-clause-vacant c = picks_vacant

pub returns-clause-offered : goal.returns-clause-offered
returns-clause-offered c = picks_offered
