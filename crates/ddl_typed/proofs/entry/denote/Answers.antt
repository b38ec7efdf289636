use Rattle.ddl_typed.specs.AnswerView.{answer_view}
use Rattle.ddl_typed.specs.View.{view}
use Rattle.ddl_typed.proofs.Answering.{simple_answer}
use Rattle.ddl_typed.proofs.Paired.{answer_paired}
use Rattle.ddl_typed.proofs.entry.denote.Goals as goal

pub returns-clause-answer : goal.returns-clause-answer
returns-clause-answer c = simple_answer c.args.entry.now.span (view c.args.entry.now.body) c.args.input.now (answer_view c.in_ok-answer.answer) c.requires
    c.in_ok-answer.ensures.told

pub returns-clause-paired : goal.returns-clause-paired
returns-clause-paired c =
    answer_paired _ _ _ c.in_ok-answer.answer (simple_answer c.args.entry.now.span (view c.args.entry.now.body) c.args.input.now
    (answer_view c.in_ok-answer.answer) c.requires c.in_ok-answer.ensures.told)
