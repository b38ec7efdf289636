use Rattle.std.proofs.Common.{◌≡◌, map, string_bytes}
use Rattle.ddl_outside.specs.Writing.{IsWriteLines}
use Rattle.ddl_outside.specs.declared.writing.Written.TheVariants as written_of
use Rattle.ddl_top.specs.Run.{IsWordsAnswer}
use Rattle.ddl_top.proofs.CompleteLemmas.{words_own}
use Rattle.ddl_top.proofs.WrittenLemmas.{whole_run}
use Rattle.ddl_top.proofs.command.run.Goals as goal

pub returns-in-Whole-clause-answer : goal.returns-in-Whole-clause-answer
returns-in-Whole-clause-answer g c =
    let answered : IsWordsAnswer (map string_bytes c.args.words.now.items) (g.F.Files.state c.args.files.now) (g.F.Files.state c.answer_to.new.files)
    c.in-Ok.answer.status c.in-Ok.answer.lines.items =
    rw c.deref.ensures.value at c.in-Ok.ensures.answer in
    let wrote : IsWriteLines (g.S.Sink.state c.args.out.now) (g.S.Sink.state c.write_lines.new.out) c.in-Ok.answer.lines.items written_of.Whole =
    rw c.deref-in-Ok.ensures.value at c.in-Whole.ensures in
    whole_run (map string_bytes c.args.words.now.items) (g.F.Files.state c.args.files.now) (g.F.Files.state c.answer_to.new.files)
    (g.S.Sink.state c.args.out.now) (g.S.Sink.state c.write_lines.new.out) c.in-Ok.answer.status c.in-Ok.answer.lines.items answered wrote.0 wrote.1

pub returns-in-Whole-clause-complete : goal.returns-in-Whole-clause-complete
returns-in-Whole-clause-complete g c = λ nothing.
    let answered : IsWordsAnswer (map string_bytes c.args.words.now.items) (g.F.Files.state c.args.files.now) (g.F.Files.state c.answer_to.new.files)
    c.in-Ok.answer.status c.in-Ok.answer.lines.items =
    rw c.deref.ensures.value at c.in-Ok.ensures.answer in
    words_own (map string_bytes c.args.words.now.items) (g.F.Files.state c.args.files.now) (g.F.Files.state c.answer_to.new.files)
    (g.S.Sink.state c.args.out.now) (g.S.Sink.state c.write_lines.new.out) c.in-Ok.answer.status c.in-Ok.answer.lines.items nothing answered

pub returns-in-Whole-clause-lengths : goal.returns-in-Whole-clause-lengths
returns-in-Whole-clause-lengths g c = g.met.F.Files.told_is_held c.answer_to.new.files
