use Rattle.ddl_reader.proofs.Within.{begins_within, too_nested, depth_at_end}
use Rattle.ddl_reader.proofs.law.machine_knows_the_least_depth.Goals as goal

pub returns-clause-within : goal.returns-clause-within
returns-clause-within c = begins_within

pub returns-clause-beyond : goal.returns-clause-beyond
returns-clause-beyond c = too_nested

pub returns-clause-depth : goal.returns-clause-depth
returns-clause-depth c = depth_at_end
