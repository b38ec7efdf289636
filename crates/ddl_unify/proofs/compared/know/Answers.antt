use Rattle.std.specs.HashSet.{contains}
use Rattle.ddl_unify.specs.Comparing.{same_pair}
use Rattle.ddl_unify.proofs.Comparing.{known_one}
use Rattle.ddl_unify.proofs.compared.know.Goals as goal

pub returns : goal.returns
returns c = known_one (contains same_pair c.args.known.now) (contains same_pair c.insert.new.self) (c.args.left, c.args.right) c.in_ok-insert.ensures.updates.0
