use Rattle.ddl_top.proofs.TableLemmas.{all_end}
use Rattle.ddl_top.proofs.laws.table_law.Goals as goal

pub returns : goal.returns
returns c = all_end
