use Rattle.ddl_conditions.proofs.Gave.{has_given}
use Rattle.ddl_conditions.proofs.Shown.{met_ready}
use Rattle.ddl_conditions.proofs.laws.given_law.Goals as goal

pub returns-clause-given : goal.returns-clause-given
returns-clause-given c = has_given

pub returns-clause-ready : goal.returns-clause-ready
returns-clause-ready c = met_ready
