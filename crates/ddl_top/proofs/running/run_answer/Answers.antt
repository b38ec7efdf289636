use Rattle.std.proofs.Common.{◌≡◌}
use Rattle.std.specs.Prelude.{IfOk}
use Rattle.ddl_outside.proofs.FilesLemmas.{Later-trans}
use Rattle.ddl_top.specs.Reading.{TouchesInput}
use Rattle.ddl_top.proofs.RunLemmas.{IfOk-run, IfOk-run_refused, UnitsAnswer, runs_in_order}
use Rattle.ddl_top.proofs.running.run_answer.Goals as goal

pub returns-in-Ok-clause-later : goal.returns-in-Ok-clause-later
returns-in-Ok-clause-later g c =
    Later-trans (g.F.Files.state c.args.files.now) (g.F.Files.state c.bound_modules.new.files) (g.F.Files.state c.units_answer.new.files) c.in-Ok.ensures.later
    c.units_answer.ensures.later

pub returns-in-Ok-clause-order : goal.returns-in-Ok-clause-order
returns-in-Ok-clause-order g c =
    let order : TouchesInput c.in-Ok.units.items c.args.input.now (g.F.Files.state c.bound_modules.new.files) (g.F.Files.state c.units_answer.new.files) =
    rw c.deref.ensures.value at c.units_answer.ensures.order in
    runs_in_order c.args.root.now c.args.input.now (g.F.Files.state c.args.files.now) (g.F.Files.state c.bound_modules.new.files)
    (g.F.Files.state c.units_answer.new.files) c.in-Ok.units.items
    c.units_answer.ensures.later c.in-Ok.ensures.bound order

pub returns-in-Ok-clause-answer : goal.returns-in-Ok-clause-answer
returns-in-Ok-clause-answer g c =
    let answer : IfOk c.units_answer.result (UnitsAnswer c.args.root.now c.args.input.now (g.F.Files.state c.bound_modules.new.files)
    (g.F.Files.state c.units_answer.new.files) c.in-Ok.units.items) =
    rw c.deref.ensures.value at c.units_answer.ensures.answer in
    IfOk-run c.args.root.now c.args.input.now (g.F.Files.state c.args.files.now) (g.F.Files.state c.bound_modules.new.files)
    (g.F.Files.state c.units_answer.new.files) c.in-Ok.units.items c.units_answer.result
    c.in-Ok.ensures.later c.units_answer.ensures.later c.in-Ok.ensures.bound answer

pub returns-in-Err-clause-answer : goal.returns-in-Err-clause-answer
returns-in-Err-clause-answer g c =
    IfOk-run_refused c.args.root.now c.args.input.now (g.F.Files.state c.args.files.now) (g.F.Files.state c.bound_modules.new.files) c.in-Err.refusal
    c.refusal_answer.result c.in-Err.ensures.order c.in-Err.ensures.refused c.refusal_answer.ensures
