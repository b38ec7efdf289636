use Rattle.std.proofs.Common.{refl}
use Rattle.ddl_unify.proofs.Comparing.{remembers_more}
use Rattle.ddl_unify.proofs.compared.Compared.expect.Goals as goal

pub returns : goal.returns
returns c = λ xs es h w.
    remembers_more c.args.self.now (record { known = c.args.self.now.known; pending = c.push.new.self })
    (record { left = c.args.left; right = c.args.right; above = c.args.above }) xs es refl c.in_ok-push.ensures.items h w
