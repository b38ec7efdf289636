use Rattle.ddl_conditions.proofs.OneEnd.{one_end}
use Rattle.ddl_conditions.proofs.laws.growth_law.Goals as goal

pub returns : goal.returns
returns c = one_end
