use Rattle.ddl_typed.proofs.Telling.{den_says_why, denoted_says_why}
use Rattle.ddl_typed.proofs.laws.answer_law.Goals as goal

pub returns-clause-forms : goal.returns-clause-forms
returns-clause-forms c = den_says_why

pub returns-clause-entries : goal.returns-clause-entries
returns-clause-entries c = denoted_says_why
