use Rattle.ddl_copies.proofs.ValidMade as valid_made
use Rattle.ddl_copies.proofs.laws.copied_is_mono.Goals as goal

pub returns : goal.returns
returns c = valid_made.copies_are_mono
