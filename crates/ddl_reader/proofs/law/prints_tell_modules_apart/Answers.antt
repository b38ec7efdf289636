use Rattle.ddl_reader.proofs.ReadsModule.{one_module}
use Rattle.ddl_reader.proofs.law.prints_tell_modules_apart.Goals as goal

pub returns : goal.returns
returns c = one_module
