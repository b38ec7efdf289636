use Rattle.std.proofs.Common.{Some, ap, sym, ◌∙◌}
use Rattle.std.proofs.lemmas.Nat.Bits.{shr_and_one}
use Rattle.ddl_bits.specs.FixedBits.{part_bit}
use Rattle.ddl_bits.specs.View.{part_view}
use Rattle.ddl_bits.proofs.Layers.{view_fixed}
use Rattle.ddl_bits.proofs.clash.part_bit_at.Goals as goal

pub returns-in-Fixed : goal.returns-in-Fixed
returns-in-Fixed c =
    ap Some (shr_and_one c.in-Fixed.bits c.args.place)
    ∙ sym (ap (λ p. part_bit p c.args.place) (ap part_view c.in-Fixed.is ∙ view_fixed c.in-Fixed.bits c.in-Fixed.width))
