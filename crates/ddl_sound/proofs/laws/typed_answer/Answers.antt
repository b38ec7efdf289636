use Rattle.ddl_sound.proofs.Answers.{typed_answers, kept_answers}
use Rattle.ddl_sound.proofs.laws.typed_answer.Goals as goal

pub returns-clause-typed : goal.returns-clause-typed
returns-clause-typed c = typed_answers

pub returns-clause-kept : goal.returns-clause-kept
returns-clause-kept c = kept_answers
