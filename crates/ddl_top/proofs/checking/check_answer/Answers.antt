use Rattle.std.proofs.Common.{◌≡◌, ◌≤◌, rules}
use Rattle.ddl_top.specs.Run.{declarations}
use Rattle.ddl_top.proofs.CheckLemmas.{IfOk-check_refused, few}
use Rattle.ddl_top.proofs.checking.check_answer.Goals as goal

pub count_answer-requires : goal.count_answer-requires
count_answer-requires g c = rw c.deref.ensures.value (few c.in-Ok.units.items c.in-Ok.ensures.bound.1.4)

pub returns-in-Err-clause-answer : goal.returns-in-Err-clause-answer
returns-in-Err-clause-answer g c =
    IfOk-check_refused c.args.root.now (g.F.Files.state c.args.files.now) (g.F.Files.state c.bound_modules.new.files) c.in-Err.refusal c.refusal_answer.result
    c.in-Err.ensures.refused c.refusal_answer.ensures
