use Rattle.std.proofs.Common.{arith}
use Rattle.ddl_arith.proofs.Powers.{by_mask}
use Rattle.ddl_arith.proofs.bits.lowest_bits.Goals as goal

pub returns-else-width-eq128 : goal.returns-else-width-eq128
returns-else-width-eq128 c = by_mask c.args.n c.args.width (omega arith)
