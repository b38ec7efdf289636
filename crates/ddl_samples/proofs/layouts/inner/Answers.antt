use Rattle.std.proofs.Common.{ap, ◌∙◌, arith}
use Rattle.ddl_bits.specs.View.{layout_view}
use Rattle.ddl_bits.specs.Widths.{one_width_of}
use Rattle.ddl_bits.proofs.Built.{inner_accepted}
use Rattle.ddl_samples.proofs.layouts.inner.Goals as goal

pub holding-requires : goal.holding-requires
holding-requires c =
    let checked = c.in-Ok.checked in
    inner_accepted (layout_view checked.layout) checked.width (ap (λ l. one_width_of (layout_view l)) c.in-Ok.ensures.0
    ∙ c.in-Ok.ensures.1) checked.accepted (omega arith)
