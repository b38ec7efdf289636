use Rattle.std.proofs.Common.{◌<◌, List, Contains, subst, arith}
use Rattle.ddl_groups.specs.declared.marks.Step.{Step}
use Rattle.ddl_groups.proofs.closing.close_from.Goals as goal

pub close_last-requires-clause-before : goal.close_last-requires-clause-before
close_last-requires-clause-before c s m =
    let h : s.from < c.args.least = c.requires.before s (subst (λ (xs : List Step). Contains xs s) c.loop-search.invariant.pending m) in
    omega (arith, c.if-head-least.false)
