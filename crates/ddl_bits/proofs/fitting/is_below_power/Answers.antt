use Rattle.ddl_bits.proofs.Steps.{below_power}
use Rattle.ddl_bits.proofs.fitting.is_below_power.Goals as goal

pub returns-else-width-eq128 : goal.returns-else-width-eq128
returns-else-width-eq128 c = below_power c.args.number c.args.width
