-- The two views of a layout of the program are the same but for names.
use Rattle.std.proofs.Common.{◌≡◌, ℕ, zero, suc, ◌+◌, ◌≤◌, le_refl, List, [], ◌∷◌, refl, ap, ap₂, subst, sym, ◌∙◌, arith}
use Rattle.ddl_bits.specs.declared.checked.Checked.{Checked}
use Rattle.ddl_bits.specs.declared.layout.Layout.{Layout, out-Layout}
use Rattle.ddl_bits.specs.declared.layout.LayoutCon.{LayoutCon, out-LayoutCon}
use Rattle.ddl_bits.specs.declared.layout.LayoutPart.{LayoutPart, LayoutPart-F, out-LayoutPart}
use Rattle.ddl_bits.specs.Accepted.{IsAccepted}
use Rattle.ddl_bits.specs.Tree as tree
use Rattle.ddl_bits.specs.View as bare
use Rattle.ddl_bits.proofs.Layers as bare_layers
use Rattle.ddl_ops.specs.LayoutView as named
use Rattle.ddl_typed.specs.Nameless.{nameless, con_nameless, parts_nameless, part_nameless}
use Rattle.ddl_ops.proofs.LayoutLayers as named_layers

abbrev SameLayout : Layout → Type 0
SameLayout l = nameless (named.layout_view l) ≡ bare.layout_view l

-- how many layouts lie inside
abbrev mutual
  inside_part : tree.Part → ℕ
  inside_part (tree.fixed bits width) = 0
  inside_part (tree.any width) = 0
  inside_part (tree.inner cons) = suc (inside cons)

  inside_parts : tree.Parts → ℕ
  inside_parts tree.no_parts = 0
  inside_parts (tree.part p ps) = inside_part p + inside_parts ps

  inside : tree.Cons → ℕ
  inside tree.no_cons = 0
  inside (tree.con ps cons) = inside_parts ps + inside cons

-- layouts that hold fewer than n are the same by both views
abbrev SameBelow : ℕ → Type 0
SameBelow n = (l : Layout) → suc (inside (bare.layout_view l)) ≤ n → SameLayout l

part_layer_same : (n : ℕ) → SameBelow n → (p : LayoutPart-F LayoutPart Layout LayoutCon) → inside_part (bare.part_layer p) ≤ n
    → part_nameless (named.part_layer p) ≡ bare.part_layer p
part_layer_same n below (LayoutPart-F.Fixed bits width) h = refl
part_layer_same n below (LayoutPart-F.Any name width) h = refl
part_layer_same n below (LayoutPart-F.Inner name l) h = ap tree.inner (below l.value h)

part_same : (n : ℕ) → SameBelow n → (p : LayoutPart) → inside_part (bare.part_view p) ≤ n → part_nameless (named.part_view p) ≡ bare.part_view p
part_same n below p h =
    ap part_nameless (named_layers.part_view_out p)
    ∙ part_layer_same n below (out-LayoutPart p) (subst (λ t. inside_part t ≤ n) (bare_layers.part_view_out p) h)
    ∙ sym (bare_layers.part_view_out p)

parts_same : (n : ℕ) → SameBelow n → (ps : List LayoutPart) → inside_parts (bare.parts_view ps) ≤ n → parts_nameless (named.parts_view ps) ≡ bare.parts_view ps
parts_same n below [] h = refl
parts_same n below (p ∷ ps) h = ap₂ tree.part (part_same n below p (omega (arith, h))) (parts_same n below ps (omega (arith, h)))

con_same : (n : ℕ) → SameBelow n → (c : LayoutCon) → inside_parts (bare.con_view c) ≤ n → con_nameless (named.con_view c) ≡ bare.con_view c
con_same n below c h =
    ap con_nameless (named_layers.con_view_out c)
    ∙ parts_same n below (out-LayoutCon c).parts.items (subst (λ t. inside_parts t ≤ n) (bare_layers.con_view_out c) h)
    ∙ sym (bare_layers.con_view_out c)

cons_same : (n : ℕ) → SameBelow n → (cs : List LayoutCon) → inside (bare.cons_view cs) ≤ n → nameless (named.cons_view cs) ≡ bare.cons_view cs
cons_same n below [] h = refl
cons_same n below (c ∷ cs) h = ap₂ tree.con (con_same n below c (omega (arith, h))) (cons_same n below cs (omega (arith, h)))

one_layout : (n : ℕ) → SameBelow n → (l : Layout) → inside (bare.layout_view l) ≤ n → SameLayout l
one_layout n below l h =
    ap nameless (named_layers.layout_view_out l)
    ∙ cons_same n below (out-Layout l).cons.items (subst (λ t. inside t ≤ n) (bare_layers.layout_view_out l) h)
    ∙ sym (bare_layers.layout_view_out l)

layout_up_to : (n : ℕ) (l : Layout) → inside (bare.layout_view l) ≤ n → SameLayout l
layout_up_to zero l h = one_layout zero (λ k g. absurd (omega (arith, g))) l h
layout_up_to (suc n) l h = one_layout (suc n) (λ k g. layout_up_to n k (omega (arith, g))) l h

pub layout_same : (l : Layout) → SameLayout l
layout_same l = layout_up_to (inside (bare.layout_view l)) l (le_refl (inside (bare.layout_view l)))

-- so what is kept of a checked layout is so of it with its names
pub layout_kept : (c : Checked) → IsAccepted (nameless (named.layout_view c.layout)) c.width
layout_kept c = subst (λ t. IsAccepted t c.width) (sym (layout_same c.layout)) c.accepted
