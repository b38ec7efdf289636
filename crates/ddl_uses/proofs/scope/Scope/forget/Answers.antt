use Rattle.std.proofs.Common.{rules}
use Rattle.ddl_uses.proofs.Scoped.{forgotten_latest}
use Rattle.ddl_uses.proofs.scope.Scope.forget.Goals as goal

-- src/scope.rt:100:5
pub returns-in_ok-put_back-clause-sound : goal.returns-in_ok-put_back-clause-sound
returns-in_ok-put_back-clause-sound c =
    forgotten_latest c.args.self.now.locals.items c.pop.new.self.items c.in-Some.local c.args.self.now.latest c.put_back.new.latest c.requires (search rules)
    (search rules)
