use Rattle.std.proofs.Common.{◌∙◌, sym}
use Rattle.ddl_conditions.proofs.Noting.{noted_new}
use Rattle.ddl_conditions.proofs.written.note.Goals as goal

pub returns : goal.returns
returns c = noted_new c.args.place c.args.seen.now c.args.pending.now.items c.push.new.self.items (sym c.is_marked.ensures
    ∙ c.if-is_marked.false) c.in_ok-push.ensures.items
