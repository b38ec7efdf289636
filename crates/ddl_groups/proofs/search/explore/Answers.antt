use Rattle.std.proofs.Common.{List, length, ap, ◌∙◌}
use Rattle.ddl_groups.specs.declared.marks.Step.{Step}
use Rattle.ddl_groups.specs.Placing.{lists_of}
use Rattle.ddl_groups.proofs.Idle.{end_idle}
use Rattle.ddl_groups.proofs.search.explore.Goals as goal

pub returns-clause-idle : goal.returns-clause-idle
returns-clause-idle c =
    end_idle (lists_of c.args.needs.now) c.close_from.new.search c.close_from.ensures.holds c.close_from.ensures.below
    (ap (λ (xs : List Step). length xs) c.close_from.ensures.pending ∙ c.in_default.ensures.next.1)
