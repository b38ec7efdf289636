use Rattle.ddl_copies.proofs.Closing as closing
use Rattle.ddl_copies.proofs.ValidMade as valid_made
use Rattle.ddl_copies.proofs.laws.specialised_keeps.Goals as goal

pub returns-clause-copies : goal.returns-clause-copies
returns-clause-copies c = closing.specialised_keeps

pub returns-clause-made : goal.returns-clause-made
returns-clause-made c = valid_made.specialised_means
