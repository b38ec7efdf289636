use Rattle.std.proofs.Common.{[], arith}
use Rattle.ddl_reader.specs.Depths.{low}
use Rattle.ddl_states.specs.StackView.{stack_view}
use Rattle.ddl_depths.proofs.Limits.{deep_already, one_out}
use Rattle.ddl_depths.proofs.limit.passes.Goals as goal

pub returns-then-deep-gt-DEEPEST : goal.returns-then-deep-gt-DEEPEST
returns-then-deep-gt-DEEPEST c = deep_already c.loop-frame.rest.now c.loop-frame.deep (low (stack_view c.args.frames.now []) c.args.need)
    (omega (arith, c.if-deep-gt-DEEPEST.true)) c.loop-frame.invariant

pub loop-frame-preserved : goal.loop-frame-preserved
loop-frame-preserved c =
    one_out c.loop-frame.rest.now c.in-Some.outer.now c.in-Some.frame.now c.loop-frame.deep c.around_within-deep.result
    (low (stack_view c.args.frames.now []) c.args.need) c.in-Some.ensures.cases.0 c.around_within-deep.ensures c.loop-frame.invariant
