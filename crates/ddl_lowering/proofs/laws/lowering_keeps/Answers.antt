use Rattle.ddl_lowering.proofs.Law as law
use Rattle.ddl_lowering.proofs.laws.lowering_keeps.Goals as goal

pub returns : goal.returns
returns c = law.lowering_keeps
