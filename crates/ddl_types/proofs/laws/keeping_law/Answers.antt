use Rattle.ddl_types.proofs.KeptCut.{keeps_cut}
use Rattle.ddl_types.proofs.KeptSame.{keeps_itself}
use Rattle.ddl_types.proofs.KeptTwice.{keeps_twice}
use Rattle.ddl_types.proofs.laws.keeping_law.Goals as goal

pub returns-clause-itself : goal.returns-clause-itself
returns-clause-itself c = keeps_itself

pub returns-clause-twice : goal.returns-clause-twice
returns-clause-twice c = keeps_twice

pub returns-clause-cut : goal.returns-clause-cut
returns-clause-cut c = keeps_cut
