use Rattle.std.proofs.Common.{ap, ◌∙◌}
use Rattle.std.specs.Prelude.{find}
use Rattle.ddl_rules.specs.Asks.{same_span}
use Rattle.ddl_rules.proofs.Scoping.{local_seen}
use Rattle.ddl_rules.specs.Views.{asks_of, state_of, env_of}
use Rattle.ddl_rules.proofs.elaboration.Elaboration.local.Goals as goal

pub returns : goal.returns
unfolding asks_of state_of env_of
returns c = local_seen c.found.result c.args.self.now.locals.items c.args.at (c.found.ensures
    ∙ ap (λ xs. find (λ l. same_span l.at c.args.at) xs) c.deref.ensures.value)
