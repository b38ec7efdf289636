use Rattle.ddl_stream.proofs.Inputs.{agrees_later}
use Rattle.ddl_stream.proofs.laws.agree_law.Goals as goal

pub returns : goal.returns
returns c = agrees_later
