use Rattle.ddl_groups.proofs.LabelLemmas.{labels_tell}
use Rattle.ddl_groups.proofs.laws.labels_law.Goals as goal

pub returns : goal.returns
returns c = labels_tell
