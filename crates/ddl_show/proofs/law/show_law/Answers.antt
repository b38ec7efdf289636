-- The laws are proved of the definitions.
use Rattle.ddl_show.proofs.ReadsBack.{reads_back}
use Rattle.ddl_show.proofs.TokenForms.{cut_forms}
use Rattle.ddl_show.proofs.law.show_law.Goals as goal

pub returns-clause-reads_back : goal.returns-clause-reads_back
returns-clause-reads_back c = reads_back

pub returns-clause-forms : goal.returns-clause-forms
returns-clause-forms c = λ text tokens at bytes cut. cut_forms cut bytes
