use Rattle.std.proofs.Common.{◌≡◌, min, ap, sym, ◌∙◌}
use Rattle.ddl_bits.specs.Tree.{cons_width, parts_width}
use Rattle.ddl_bits.specs.View.{layout_view, cons_view, parts_view}
use Rattle.ddl_bits.proofs.Layers.{layout_view_out, con_view_out, width_of_none, width_of_first}
use Rattle.ddl_bits.proofs.widths.+width.Goals as goal

pub layout_bits-returns-in-empty : goal.layout_bits-returns-in-empty
layout_bits-returns-in-empty t c =
    let width : cons_width (layout_view c.args.layout.now) ≡ 0 =
    ap cons_width (layout_view_out c.args.layout.now)
    ∙ ap (λ xs. cons_width (cons_view xs)) (sym c.as_slice.ensures.value)
    ∙ width_of_none c.as_slice.result.now c.in-empty.len_below in
    sym (ap (λ n. min n 129) width)

pub layout_bits-returns-in-len1-up : goal.layout_bits-returns-in-len1-up
layout_bits-returns-in-len1-up t c =
    let con = c.con-item.result in
    let width : parts_width (parts_view c.deref.result.now) ≡ cons_width (layout_view c.args.layout.now) =
    ap (λ ps. parts_width (parts_view ps)) c.deref.ensures.value
    ∙ ap parts_width (sym (con_view_out con))
    ∙ sym (width_of_first c.as_slice.result.now con c.in-len1-up.len_at_least c.con-item.is)
    ∙ ap (λ xs. cons_width (cons_view xs)) c.as_slice.ensures.value
    ∙ ap cons_width (sym (layout_view_out c.args.layout.now)) in
    c.parts_bits.ensures ∙ ap (λ n. min n 129) width
