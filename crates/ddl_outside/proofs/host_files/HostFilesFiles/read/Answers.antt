use Rattle.std.proofs.Common.{length, ap, ◌∙◌}
use Rattle.ddl_outside.specs.HostFiles.{HostState, host_files_state, lengths_of}
use Rattle.ddl_outside.proofs.FilesLemmas.{Later-trans, IsPiece-earlier}
use Rattle.ddl_outside.proofs.HostFilesLemmas.{Later-asked, TouchesOnly-asked, IsTold-asked, lengths_of-asked, reaches_of-asked}
use Rattle.ddl_outside.proofs.host_files.HostFilesFiles.read.Goals as goal

pub piece-requires-clause-told : goal.piece-requires-clause-told
piece-requires-clause-told g c = IsTold-asked c.args.self.now c.asked.new.self c.args.at (length c.args.into.now) c.args.name.now c.asked.ensures
    c.requires.told

pub returns-clause-later : goal.returns-clause-later
returns-clause-later g c =
    Later-trans (host_files_state c.args.self.now) (host_files_state c.asked.new.self) (host_files_state c.piece.new.self)
    (Later-asked c.args.self.now c.asked.new.self c.args.at _ c.args.name.now c.asked.ensures) c.piece.ensures.later

pub returns-clause-only : goal.returns-clause-only
returns-clause-only g c =
    TouchesOnly-asked c.args.self.now c.piece.new.self c.args.at (length c.args.into.now) c.args.name.now (c.piece.ensures.seen
    ∙ ap (λ (h : HostState). h.seen) c.asked.ensures)

pub returns-clause-told : goal.returns-clause-told
returns-clause-told g c =
    ap lengths_of (c.piece.ensures.seen ∙ ap (λ (h : HostState). h.seen) c.asked.ensures)
    ∙ lengths_of-asked c.args.at (length c.args.into.now) c.args.self.now.seen c.args.name.now

pub returns-clause-reach : goal.returns-clause-reach
returns-clause-reach g c =
    rw (c.piece.ensures.seen ∙ ap (λ (h : HostState). h.seen) c.asked.ensures)
    (reaches_of-asked c.args.at (length c.args.into.now) c.args.self.now.seen c.args.name.now c.requires.told)

pub returns-clause-answer : goal.returns-clause-answer
returns-clause-answer g c =
    IsPiece-earlier (host_files_state c.args.self.now) (host_files_state c.asked.new.self) (host_files_state c.piece.new.self) c.args.name.now c.args.at
    c.piece.new.into c.piece.result
    (Later-asked c.args.self.now c.asked.new.self c.args.at (length c.args.into.now) c.args.name.now c.asked.ensures) c.piece.ensures.answer
