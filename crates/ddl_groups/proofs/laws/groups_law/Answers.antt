use Rattle.ddl_groups.proofs.OneGrouping.{one_grouping}
use Rattle.ddl_groups.proofs.laws.groups_law.Goals as goal

pub returns : goal.returns
returns c = one_grouping
