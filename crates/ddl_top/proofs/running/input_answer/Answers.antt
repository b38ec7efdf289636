use Rattle.std.proofs.Common.{◌≡◌, ◌∙◌, List, ℕ, ap, rules}
use Rattle.std.specs.Prelude.{IfOk}
use Rattle.ddl_modules.specs.Files.{module_name}
use Rattle.ddl_simple.specs.Modules.{declared_view}
use Rattle.ddl_top.specs.Reading.{IsAnswered}
use Rattle.ddl_top.proofs.RunLemmas.{IfOk-absent, IfOk-failed, IfOk-input, IfOk-large}
use Rattle.ddl_top.proofs.running.input_answer.Goals as goal

pub returns-in-Bytes-clause-answer : goal.returns-in-Bytes-clause-answer
returns-in-Bytes-clause-answer g c =
    let whole = rw c.in-Bytes.is at c.in_ok-content.ensures.answer in
    let answered : IfOk c.denoted_answer.result (λ a. IsAnswered (module_name c.args.root.now) (declared_view c.args.spec.now) c.in-Bytes.content.items a.status
    a.lines.items) =
    rw c.deref.ensures.value at (rw (c.module_name.ensures.name ∙ ap module_name c.as_bytes.ensures.value) at c.denoted_answer.ensures) in
    IfOk-input c.args.root.now c.args.input.now (g.F.Files.state c.args.files.now) (g.F.Files.state c.read_whole.new.files) (declared_view c.args.spec.now)
    c.in-Bytes.content.items c.denoted_answer.result
    c.in_ok-content.ensures.later whole.0 whole.1 answered

pub returns-in-Longer-clause-answer : goal.returns-in-Longer-clause-answer
returns-in-Longer-clause-answer g c =
    let longer = rw c.in-Longer.is at c.in_ok-content.ensures.answer in
    IfOk-large c.args.root.now c.args.input.now (g.F.Files.state c.args.files.now) (g.F.Files.state c.read_whole.new.files) (declared_view c.args.spec.now)
    c.in-Longer.field-0 c.closing_answer.result
    c.in_ok-content.ensures.later longer.0 longer.1 (ap (λ (r : List ℕ → ℕ). r c.args.input.now) longer.2) c.closing_answer.ensures

pub returns-in-Absent-clause-answer : goal.returns-in-Absent-clause-answer
returns-in-Absent-clause-answer g c =
    let absent = rw c.in-Absent.is at c.in_ok-content.ensures.answer in
    IfOk-absent c.args.root.now c.args.input.now (g.F.Files.state c.args.files.now) (g.F.Files.state c.read_whole.new.files) (declared_view c.args.spec.now)
    c.missing_answer.result
    c.in_ok-content.ensures.later absent (rw c.as_bytes-in-Absent.ensures.value at c.missing_answer.ensures)

pub returns-in-Failed-clause-answer : goal.returns-in-Failed-clause-answer
returns-in-Failed-clause-answer g c =
    let failed = rw c.in-Failed.is at c.in_ok-content.ensures.answer in
    IfOk-failed c.args.root.now c.args.input.now (g.F.Files.state c.args.files.now) (g.F.Files.state c.read_whole.new.files) (declared_view c.args.spec.now)
    c.closing_answer-in-Failed.result
    c.in_ok-content.ensures.later failed c.closing_answer-in-Failed.ensures
