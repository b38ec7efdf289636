use Rattle.std.proofs.Common.{◌≡◌, sym}
use Rattle.std.specs.Prelude.{Some}
use Rattle.ddl_simple.specs.Modules.{declared_view}
use Rattle.ddl_top.specs.Run.{specified_in}
use Rattle.ddl_top.proofs.RunLemmas.{IfOk-units}
use Rattle.ddl_top.proofs.running.units_answer.Goals as goal

pub returns-in-Some-clause-answer : goal.returns-in-Some-clause-answer
returns-in-Some-clause-answer g c =
    let found : Some (declared_view c.in-Some.spec) ≡ specified_in c.args.units.now = rw c.in-Some.is at c.in_ok-spec.ensures.value in
    IfOk-units c.args.root.now c.args.input.now (g.F.Files.state c.args.files.now) (g.F.Files.state c.spec_answer.new.files) c.args.units.now
    (declared_view c.in-Some.spec) c.spec_answer.result (sym found) c.spec_answer.ensures.answer
