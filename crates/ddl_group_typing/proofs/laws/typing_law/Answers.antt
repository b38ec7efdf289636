use Rattle.ddl_group_typing.proofs.OneTable.{one_group, one_typing}
use Rattle.ddl_group_typing.proofs.laws.typing_law.Goals as goal

pub returns : goal.returns
returns c = record { group = one_group; whole = one_typing }
