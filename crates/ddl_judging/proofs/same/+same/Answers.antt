use Rattle.std.proofs.Common.{sym}
use Rattle.ddl_judging.proofs.Alike.{same_long}
use Rattle.ddl_judging.proofs.same.+same.Goals as goal

pub same_all-returns-then-lefts-rights : goal.same_all-returns-then-lefts-rights
same_all-returns-then-lefts-rights t c = sym (same_long c.args.lefts.now c.args.rights.now c.if-lefts-rights.true)
