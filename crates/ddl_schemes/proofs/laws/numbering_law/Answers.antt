use Rattle.ddl_schemes.proofs.OneWalk.{one_list}
use Rattle.ddl_schemes.proofs.laws.numbering_law.Goals as goal

pub returns : goal.returns
returns c = one_list
