use Rattle.ddl_slots.proofs.Release.{release_keeps}
use Rattle.ddl_slots.proofs.laws.release_law.Goals as goal

pub returns : goal.returns
returns c = release_keeps
