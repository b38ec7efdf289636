use Rattle.std.proofs.Math.Facts.{Fits-lt-pow}
use Rattle.ddl_judging.proofs.Powers.{below_large, below_quotient}
use Rattle.ddl_judging.proofs.numeric.is_below_power.Goals as goal

pub returns-then-exponent-ge128 : goal.returns-then-exponent-ge128
returns-then-exponent-ge128 c = below_large c.args.number c.args.exponent (Fits-lt-pow c.ranges.number) c.if-exponent-ge128.true

pub returns : goal.returns
returns c = below_quotient c.args.number c.args.exponent
