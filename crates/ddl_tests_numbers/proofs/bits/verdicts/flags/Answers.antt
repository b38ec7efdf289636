use Rattle.std.proofs.Common.{List, subst, sym}
use Rattle.ddl_bits.specs.declared.layout.LayoutPart.{LayoutPart}
use Rattle.ddl_bits.specs.Accepted.{PartsAccepted}
use Rattle.ddl_bits.specs.View.{parts_view}
use Rattle.ddl_bits.proofs.Built.{part_pushed}
use Rattle.ddl_tests_numbers.proofs.bits.verdicts.flags.Goals as goal

pub loop-place-preserved : goal.loop-place-preserved
loop-place-preserved c =
    let P : List LayoutPart → Type 0 = λ ps. PartsAccepted (parts_view ps) in
    subst P (sym c.in_ok-push.ensures.items) (part_pushed c.loop-place.parts.items c.flag-part.result c.loop-place.invariant c.flag-part.ensures)
