use Rattle.ddl_groups.proofs.ReadyLemmas.{none_left, takes}
use Rattle.ddl_groups.proofs.ready.take_least.Goals as goal

pub returns : goal.returns
returns c =
    takes c.args.ready.now.keys c.pop_first.result c.pop_first.new.self.keys c.pop_first.ensures.removal c.pop_first.ensures.all_above
    (none_left c.args.ready.now.keys c.pop_first.result c.pop_first.ensures.variant)
