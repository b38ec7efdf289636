use Rattle.std.proofs.Common.{arith, sym}
use Rattle.std.proofs.lemmas.List.Sums.{prefix_len_is}
use Rattle.ddl_class.specs.Class.{contains}
use Rattle.ddl_class.proofs.class.Class.run_length.Goals as goal

pub returns-then-not-has : goal.returns-then-not-has
returns-then-not-has c =
    sym (prefix_len_is (contains c.args.self.now) c.args.bytes.now c.loop-place.place 0 (omega arith) c.loop-place.invariant (λ _. sym c.if-not-has.ensures))

pub returns : goal.returns
returns c =
    sym (prefix_len_is (contains c.args.self.now) c.args.bytes.now _ 0 (omega arith) (λ k h. c.loop-place.invariant k (omega arith)) (λ h.
    absurd (omega arith)))
