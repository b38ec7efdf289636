use Rattle.std.proofs.Common.{◌≡◌, refl}
use Rattle.ddl_unify.proofs.Comparing.{remembers_settled, remembers_like, none_clause}
use Rattle.ddl_unify.proofs.compared.Compared.settle.Goals as goal

pub loop-last-preserved : goal.loop-last-preserved
loop-last-preserved c = λ xs es n h.
    remembers_settled c.loop-last.self (record { known = c.know.new.known; pending = c.pop_settled.new.pending }) c.in-Some.last c.args.n xs es
    c.in-Some.ensures.0 c.in_ok-know.ensures c.in-Some.ensures.1 n (c.loop-last.invariant xs es n h)

pub returns : goal.returns
returns c = λ xs es n h.
    let e : c.pop_settled.new.pending.items ≡ c.loop-last.self.pending.items = none_clause c.pop_settled.result _ _ c.pop_settled.ensures c.in_default.not-Some
    in
    remembers_like c.loop-last.self (record { known = c.loop-last.self.known; pending = c.pop_settled.new.pending }) xs es refl e
    (c.loop-last.invariant xs es n h)
