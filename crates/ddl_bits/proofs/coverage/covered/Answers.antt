use Rattle.ddl_bits.specs.View.{layout_view}
use Rattle.ddl_bits.proofs.Sized.{cons_sized}
use Rattle.ddl_bits.proofs.coverage.covered.Goals as goal

pub layout_fits-requires-clause-sized : goal.layout_fits-requires-clause-sized
layout_fits-requires-clause-sized c =
    let layout = c.args.checked.now.layout in
    cons_sized (layout_view layout) c.args.checked.now.width c.args.checked.now.accepted.2
