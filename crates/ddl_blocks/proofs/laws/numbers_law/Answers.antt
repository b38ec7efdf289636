use Rattle.ddl_blocks.proofs.SlotLaw.{more_numbers, within_numbers}
use Rattle.ddl_blocks.proofs.laws.numbers_law.Goals as goal

pub returns-clause-more : goal.returns-clause-more
returns-clause-more c = more_numbers

pub returns-clause-within : goal.returns-clause-within
returns-clause-within c = within_numbers
