use Rattle.std.proofs.Common.{ap, sym, ◌∙◌}
use Rattle.ddl_depths.specs.Limit as limit
use Rattle.ddl_depths.proofs.Limits.{view-split}
use Rattle.ddl_depths.proofs.limit.opens_free_many.Goals as goal

pub returns-in-Some : goal.returns-in-Some
returns-in-Some c = c.is_free_many.ensures ∙ sym (ap limit.opens_free_many
    (view-split c.args.frames.now c.in-Some.frame.now c.in-Some._outer.now c.in-Some.ensures.cases.0))
