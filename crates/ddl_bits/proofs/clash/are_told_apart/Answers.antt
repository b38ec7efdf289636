use Rattle.std.proofs.Common.{ap, sym, ◌∙◌}
use Rattle.ddl_bits.specs.FixedBits.{differ, parts_bit}
use Rattle.ddl_bits.specs.View.{parts_view}
use Rattle.ddl_bits.proofs.GivenBits.{told_apart}
use Rattle.ddl_bits.proofs.clash.are_told_apart.Goals as goal

pub returns-then-are_different : goal.returns-then-are_different
returns-then-are_different c =
    λ _ n.
    told_apart (parts_view c.args.a.now) (parts_view c.args.b.now) c.loop-place.place
    (sym (c.if-are_different.ensures ∙ ap (λ o. differ o c.given_bit-in-loop-place.result) c.given_bit.ensures
    ∙ ap (λ o. differ (parts_bit (parts_view c.args.a.now) c.loop-place.place) o) c.given_bit-in-loop-place.ensures))
    n
