use Rattle.ddl_rules.proofs.Guarding.{guards_stand_around}
use Rattle.ddl_rules.proofs.laws.guard_law.Goals as goal

pub returns : goal.returns
returns c = guards_stand_around
