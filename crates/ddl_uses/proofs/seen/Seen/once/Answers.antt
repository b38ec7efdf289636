use Rattle.std.proofs.Common.{rules}
use Rattle.ddl_uses.proofs.Placed.{placed_more}
use Rattle.ddl_uses.proofs.seen.Seen.once.Goals as goal

-- src/seen.rt:40:5
pub returns-clause-sound : goal.returns-clause-sound
returns-clause-sound c =
    placed_more c.push.new.self.items c.args.self.now.names.items (record { text = c.args.text; span = c.args.span }) c.args.self.now.places
    c.before-2.new.places c.requires (search rules) (search rules)
