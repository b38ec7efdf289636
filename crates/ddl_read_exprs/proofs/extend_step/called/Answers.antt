use Rattle.std.proofs.Common.{sym}
use Rattle.ddl_states.proofs.OneName.{uncalled}
use Rattle.ddl_read_exprs.proofs.extend_step.called.Goals as goal

pub returns-in_default : goal.returns-in_default
returns-in_default c = sym (uncalled c.args.expr c.in_default.not-Upper c.in_default.not-Lower)
