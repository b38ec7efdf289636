use Rattle.std.proofs.Common.{sym}
use Rattle.ddl_states.proofs.OneName.{unnamed}
use Rattle.ddl_read_forms.proofs.list_step.name_of.Goals as goal

pub returns-in_default : goal.returns-in_default
returns-in_default c = sym (unnamed c.args.expr c.in_default.not-Lower)
