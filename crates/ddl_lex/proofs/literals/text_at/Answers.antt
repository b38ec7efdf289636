use Rattle.std.proofs.Common.{rules, ◌≡◌, ◌+◌, [], ◌∷◌, ◌++◌}
use Rattle.ddl_lex.proofs.Elements.{element_more}
use Rattle.ddl_lex.proofs.literals.text_at.Goals as goal

pub loop-n-preserved : goal.loop-n-preserved
loop-n-preserved c =
    let more : c.push.new.self.items ≡ c.loop-n.bytes.items ++ c.in-Means.byte ∷ [] = search rules in
    let step = element_more 34 c.args.start (c.args.start + 1) c.loop-n.n c.in-Means.taken c.in-Means.byte c.args.inside.now _ c.loop-n.bytes.items
    c.push.new.self.items
    c.loop-n.invariant.read c.loop-n.invariant.within c.split_at.ensures.back c.in-Means.ensures.value c.in-Means.ensures.takes more in
    record { within = step.0; read = step.1 }
