use Rattle.ddl_reader.proofs.Exact.{reads_modules, reads_each, begins_at, unexpected}
use Rattle.ddl_reader.proofs.law.machine_reads_modules_exactly.Goals as goal

pub returns-clause-sound : goal.returns-clause-sound
returns-clause-sound c = reads_modules

pub returns-clause-complete : goal.returns-clause-complete
returns-clause-complete c = reads_each

pub returns-clause-begins : goal.returns-clause-begins
returns-clause-begins c = begins_at

pub returns-clause-stops : goal.returns-clause-stops
returns-clause-stops c = unexpected
