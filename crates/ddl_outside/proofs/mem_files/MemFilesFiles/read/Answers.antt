use Rattle.std.proofs.Common.{length, ap, ◌∙◌}
use Rattle.ddl_outside.specs.Counts.{one_more}
use Rattle.ddl_outside.specs.MemFiles.{MemState, files_state, told_in}
use Rattle.ddl_outside.proofs.FilesLemmas.{Later-trans, IsPiece-earlier}
use Rattle.ddl_outside.proofs.MemFilesLemmas.{Later-asked, TouchesOnly-asked, IsTold-asked, told_in-asked, reach_in-asked}
use Rattle.ddl_outside.proofs.mem_files.MemFilesFiles.read.Goals as goal

pub piece-requires-clause-told : goal.piece-requires-clause-told
piece-requires-clause-told c = IsTold-asked c.args.self.now c.asked.new.self c.args.at (length c.args.into.now) c.args.name.now c.asked.ensures c.requires.told

pub returns-clause-later : goal.returns-clause-later
returns-clause-later c = Later-trans _ _ _ (Later-asked c.args.self.now c.asked.new.self c.args.at _ c.args.name.now c.asked.ensures) c.piece.ensures.later

pub returns-clause-only : goal.returns-clause-only
returns-clause-only c =
    TouchesOnly-asked c.args.self.now c.piece.new.self c.args.at (length c.args.into.now) c.args.name.now (c.piece.ensures.files
    ∙ ap (λ (m : MemState). m.files) c.asked.ensures)

pub returns-clause-told : goal.returns-clause-told
returns-clause-told c =
    ap told_in (c.piece.ensures.files ∙ ap (λ (m : MemState). m.files) c.asked.ensures)
    ∙ told_in-asked c.args.at (length c.args.into.now) c.args.self.now.files c.args.name.now

pub returns-clause-reach : goal.returns-clause-reach
returns-clause-reach c =
    rw (c.piece.ensures.files ∙ ap (λ (m : MemState). m.files) c.asked.ensures)
    (reach_in-asked c.args.at (length c.args.into.now) c.args.self.now.files c.args.name.now c.requires.told)

pub returns-clause-answer : goal.returns-clause-answer
returns-clause-answer c =
    IsPiece-earlier (files_state c.args.self.now) (files_state c.asked.new.self) (files_state c.piece.new.self) c.args.name.now c.args.at c.piece.new.into
    c.piece.result
    (Later-asked c.args.self.now c.asked.new.self c.args.at (length c.args.into.now) c.args.name.now c.asked.ensures) c.piece.ensures.answer

pub returns-clause-named : goal.returns-clause-named
returns-clause-named c = rw c.asked.ensures at c.piece.ensures.named

pub returns-clause-calls : goal.returns-clause-calls
returns-clause-calls c = (
  c.piece.ensures.calls ∙ ap (λ (m : MemState). one_more m.calls) c.asked.ensures,
  c.piece.ensures.failing ∙ ap (λ (m : MemState). m.failing) c.asked.ensures,
)
