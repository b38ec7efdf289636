use Rattle.std.proofs.Common.{length}
use Rattle.ddl_types.proofs.Arguments.{condition_at}
use Rattle.ddl_types.proofs.substitution.apply_conds.Goals as goal

pub apply_cond-requires : goal.apply_cond-requires
apply_cond-requires c =
    record {
      below = condition_at c.args.conds.now c.loop-cond.cond-index c.cond-item.result (length c.args.args.now) c.loop-cond-test.true c.cond-item.is
          c.requires.below;
    }
