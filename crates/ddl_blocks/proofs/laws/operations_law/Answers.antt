use Rattle.ddl_blocks.proofs.Allowed.{allowed}
use Rattle.ddl_blocks.proofs.laws.operations_law.Goals as goal

pub returns : goal.returns
returns c = allowed
