use Rattle.std.proofs.Common.{arith}
use Rattle.ddl_judging.proofs.Meeting.{below_next, below_whole}
use Rattle.ddl_judging.proofs.equality.+above.Goals as goal

pub above_all-loop-t-preserved : goal.above_all-loop-t-preserved
above_all-loop-t-preserved t c = record {
  below = below_next c.args.ts.now c.loop-t.t-index c.t-item.result c.loop-t.bound c.above-bound.result c.loop-t-test.true c.t-item.is
      c.above-bound.ensures.least c.loop-t.invariant.below c.above-bound.ensures.below;
  least = omega (arith, c.loop-t.invariant.least, c.above-bound.ensures.least);
}

pub above_all-returns-clause-below : goal.above_all-returns-clause-below
above_all-returns-clause-below t c = below_whole c.args.ts.now c.loop-t.t-index c.loop-t.bound c.loop-t-test.false c.loop-t.invariant.below
