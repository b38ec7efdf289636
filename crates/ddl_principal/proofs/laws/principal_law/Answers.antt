use Rattle.ddl_principal.proofs.Principal.{group_fits, principal}
use Rattle.ddl_principal.proofs.laws.principal_law.Goals as goal

pub returns : goal.returns
returns c = record { typing = group_fits; principal = principal }
