use Rattle.std.proofs.Common.{◌≡◌, map, string_bytes, subst}
use Rattle.std.specs.Prelude.{MatchOption, Some}
use Rattle.ddl_top.specs.Run.{CommandTouches}
use Rattle.ddl_top.specs.Words.{command_of, run_of}
use Rattle.ddl_top.proofs.command.answer_to.Goals as goal

pub returns-in-Some-Run-clause-order : goal.returns-in-Some-Run-clause-order
returns-in-Some-Run-clause-order g c =
    let old = g.F.Files.state c.args.files.now in
    let new = g.F.Files.state c.run_answer.new.files in
    let command : Some (run_of c.in-Some-Run.root.now c.in-Some-Run.input.now) ≡ command_of (map string_bytes c.args.words.now) =
    rw c.in-Some-Run.field-0-is at c.in-Some-Run.ensures in
    subst (λ o. MatchOption o (new ≡ old) (λ w. CommandTouches w old new)) command c.run_answer.ensures.order
