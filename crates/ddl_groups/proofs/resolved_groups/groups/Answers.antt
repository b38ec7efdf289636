use Rattle.ddl_groups.proofs.Needing.{needs_declared}
use Rattle.ddl_groups.proofs.resolved_groups.groups.Goals as goal

pub ordered-requires-clause-known : goal.ordered-requires-clause-known
ordered-requires-clause-known c = rw (c.deref-3.ensures.value, c.in_ok-needs.ensures) (needs_declared c.deref.result.now c.deref-2.result.now)
