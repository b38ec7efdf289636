use Rattle.ddl_emission.proofs.Keeping as keeping
use Rattle.ddl_emission.proofs.laws.emission_keeps.Goals as goal

pub returns : goal.returns
returns c = keeping.code_keeps
