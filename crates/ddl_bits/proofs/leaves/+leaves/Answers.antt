use Rattle.std.proofs.Common.{ap, sym, ◌∙◌, arith}
use Rattle.ddl_bits.specs.Flows.{cons_leaves, parts_leaves}
use Rattle.ddl_bits.specs.View.{parts_view}
use Rattle.ddl_bits.proofs.Layers.{con_view_out}
use Rattle.ddl_bits.proofs.Steps.{at_con}
use Rattle.ddl_bits.proofs.leaves.+leaves.Goals as goal

pub layout_leaves-loop-con-preserved : goal.layout_leaves-loop-con-preserved
layout_leaves-loop-con-preserved t c =
    let at = ap cons_leaves (at_con c.deref-con-items.result.now c.loop-con.con-index c.con-item.result c.loop-con-test.true c.con-item.is) in
    let seen = ap parts_leaves (con_view_out c.con-item.result ∙ ap parts_view (sym c.deref.ensures.value)) in
    record {
      small = omega arith;
      whole = omega (arith, at, seen, c.parts_leaves.ensures, c.saturating_add-leaves.ensures, c.loop-con.invariant.whole);
    }
