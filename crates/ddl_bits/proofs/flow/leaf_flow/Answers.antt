use Rattle.std.proofs.Common.{◌≡◌, ℕ, ◌+◌, ◌-◌, subst, sym, ◌∙◌, arith}
use Rattle.ddl_bits.specs.Flows.{RunsWhole}
use Rattle.ddl_bits.specs.View.{parts_view}
use Rattle.ddl_bits.proofs.Flowing.{shared_told}
use Rattle.ddl_bits.proofs.flow.leaf_flow.Goals as goal

pub loop-place-preserved : goal.loop-place-preserved
loop-place-preserved c =
    λ n inside has runs.
    let below = c.loop-place.place - 1 in
    let place = c.args.low + below in
    let At : ℕ → Type 0 = λ k. RunsWhole (parts_view c.args.other.now) c.loop-place.marks k n in
    let next : c.args.low + c.loop-place.place ≡ place + 1 = omega arith in
    c.whole_step.ensures n (
      λ b given. has.bits below b (omega arith) (sym c.part_bit_at.ensures ∙ given),
      λ b given.
          shared_told c.args.range.from c.args.range.bits place n b inside (sym c.shared_bit.ensures ∙ given),
    )
    (subst At next (c.loop-place.invariant n inside has runs))
