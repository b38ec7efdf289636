use Rattle.std.proofs.Common.{ap}
use Rattle.ddl_unify.proofs.Comparing.{knows_is}
use Rattle.ddl_unify.proofs.compared.Compared.knows.Goals as goal

pub returns-then-left-right : goal.returns-then-left-right
returns-then-left-right c = λ xs es h f a. ap f c.if-left-right.true

pub returns : goal.returns
returns c = knows_is c.contains.result c.args.self.now c.args.left c.args.right c.contains.ensures
