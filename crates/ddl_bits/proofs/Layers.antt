-- Each view at one level of a layout.
use Rattle.std.proofs.Common.{◌≡◌, ℕ, ◌<◌, ◌≤◌, List, [], ◌∷◌, length, get_or, refl, ap, sym, ◌∙◌, arith, rules}
use Rattle.ddl_bits.specs.Tree.{fixed, any, inner, cons_width, parts_width}
use Rattle.ddl_bits.specs.declared.layout.Layout.{Layout, out-Layout, the_lemmas}
use Rattle.ddl_bits.specs.declared.layout.LayoutCon.{LayoutCon, out-LayoutCon}
use Rattle.ddl_bits.specs.declared.layout.LayoutPart.{LayoutPart, LayoutPart-F, out-LayoutPart, roll-LayoutPart, roll-out-LayoutPart}
use Rattle.ddl_bits.specs.declared.layout.LayoutPart.TheVariants as part_of
use Rattle.ddl_bits.specs.View.{part_view, layout_view, con_view, part_layer, parts_view, cons_view}

part_view_roll : (l : LayoutPart-F LayoutPart Layout LayoutCon) → part_view (roll-LayoutPart l) ≡ part_layer l
unfolding part_view layout_view con_view
part_view_roll (LayoutPart-F.Fixed bits width) = search (rules, the_lemmas)
part_view_roll (LayoutPart-F.Any name width) = search (rules, the_lemmas)
part_view_roll (LayoutPart-F.Inner name layout) = search (rules, the_lemmas)

pub part_view_out : (p : LayoutPart) → part_view p ≡ part_layer (out-LayoutPart p)
part_view_out p = ap part_view (sym (roll-out-LayoutPart p)) ∙ part_view_roll (out-LayoutPart p)

pub con_view_out : (c : LayoutCon) → con_view c ≡ parts_view (out-LayoutCon c).parts.items
unfolding part_view layout_view con_view
con_view_out c = search (rules, the_lemmas)

pub layout_view_out : (l : Layout) → layout_view l ≡ cons_view (out-Layout l).cons.items
unfolding part_view layout_view con_view
layout_view_out l = search (rules, the_lemmas)

-- a part of each kind
pub view_fixed : (bits width : ℕ) → part_view (part_of.Fixed bits width) ≡ fixed bits width
unfolding part_view layout_view con_view
view_fixed bits width = search (rules, the_lemmas)

pub view_any : (name : _) (width : ℕ) → part_view (part_of.Any name width) ≡ any width
unfolding part_view layout_view con_view
view_any name width = search (rules, the_lemmas)

pub view_inner : (name : _) (layout : _) → part_view (part_of.Inner name layout) ≡ inner (layout_view layout.value)
unfolding part_view layout_view con_view
view_inner name layout = search (rules, the_lemmas)

pub ruleset layers = (part_view_out, con_view_out, layout_view_out, the_lemmas)

-- the width of a layout is that of its first constructor
pub width_of_none : (xs : List LayoutCon) → length xs < 1 → cons_width (cons_view xs) ≡ 0
width_of_none [] h = refl
width_of_none (c ∷ cs) h = absurd (omega arith)

pub width_of_first : (xs : List LayoutCon) (c : LayoutCon) → 1 ≤ length xs → c ≡ get_or xs 0 c → cons_width (cons_view xs) ≡ parts_width (con_view c)
width_of_first [] c h is = absurd (omega arith)
width_of_first (x ∷ xs) c h is = ap (λ y. parts_width (con_view y)) (sym is)
