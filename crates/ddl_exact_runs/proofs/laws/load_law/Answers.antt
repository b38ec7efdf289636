use Rattle.ddl_exact_runs.proofs.Loadings.{one_loading}
use Rattle.ddl_exact_runs.proofs.laws.load_law.Goals as goal

pub returns : goal.returns
returns c = one_loading
