-- One level of a layout, as the meaning sees it.
use Rattle.std.proofs.Common.{◌≡◌, ap, sym, ◌∙◌, rules}
use Rattle.ddl_bits.specs.declared.layout.Layout.{Layout, Layout-F, out-Layout, roll-Layout, roll-out-Layout, the_lemmas}
use Rattle.ddl_bits.specs.declared.layout.LayoutCon.{LayoutCon, LayoutCon-F, out-LayoutCon, roll-LayoutCon, roll-out-LayoutCon}
use Rattle.ddl_bits.specs.declared.layout.LayoutPart.{LayoutPart, LayoutPart-F, out-LayoutPart, roll-LayoutPart, roll-out-LayoutPart}
use Rattle.ddl_ops.specs.LayoutView.{part_view, layout_view, con_view, part_layer, con_layer, layout_layer}

part_view_roll : (p : LayoutPart-F LayoutPart Layout LayoutCon) → part_view (roll-LayoutPart p) ≡ part_layer p
unfolding part_view layout_view con_view
part_view_roll (LayoutPart-F.Fixed bits width) = search (rules, the_lemmas)
part_view_roll (LayoutPart-F.Any name width) = search (rules, the_lemmas)
part_view_roll (LayoutPart-F.Inner name layout) = search (rules, the_lemmas)

pub part_view_out : (p : LayoutPart) → part_view p ≡ part_layer (out-LayoutPart p)
part_view_out p = ap part_view (sym (roll-out-LayoutPart p)) ∙ part_view_roll (out-LayoutPart p)

con_view_roll : (c : LayoutCon-F LayoutPart Layout LayoutCon) → con_view (roll-LayoutCon c) ≡ con_layer c
unfolding part_view layout_view con_view
con_view_roll c = search (rules, the_lemmas)

pub con_view_out : (c : LayoutCon) → con_view c ≡ con_layer (out-LayoutCon c)
con_view_out c = ap con_view (sym (roll-out-LayoutCon c)) ∙ con_view_roll (out-LayoutCon c)

layout_view_roll : (l : Layout-F LayoutPart Layout LayoutCon) → layout_view (roll-Layout l) ≡ layout_layer l
unfolding part_view layout_view con_view
layout_view_roll l = search (rules, the_lemmas)

pub layout_view_out : (l : Layout) → layout_view l ≡ layout_layer (out-Layout l)
layout_view_out l = ap layout_view (sym (roll-out-Layout l)) ∙ layout_view_roll (out-Layout l)
