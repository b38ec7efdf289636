-- The laws of layouts: those of the meaning and those of the crate of bit layouts are the same but for names.
use Rattle.std.specs.Prelude.{◌≡◌, ℕ}
use Rattle.ddl_bits.specs.declared.checked.Checked.{Checked}
use Rattle.ddl_bits.specs.declared.layout.Layout as program
use Rattle.ddl_bits.specs.Accepted.{IsAccepted}
use Rattle.ddl_bits.specs.Tree.{cons_width, cons_fit, place_of}
use Rattle.ddl_bits.specs.View as bare
use Rattle.ddl_types.specs.Layout.{Layout, width, fits, con_of}
use Rattle.ddl_ops.specs.LayoutView.{layout_view}
use Rattle.ddl_typed.specs.Nameless.{nameless, con_at_place}

-- as many bits
abbrev pub SameWidths : Type 0
SameWidths = (l : Layout) → width l ≡ cons_width (nameless l)

-- the same numbers fit
abbrev pub SameNumbers : Type 0
SameNumbers = (l : Layout) (n : ℕ) → fits l n ≡ cons_fit (nameless l) n

-- the constructor that a number fits stands at the place that it fits
abbrev pub SameConstructors : Type 0
SameConstructors = (l : Layout) (n : ℕ) → con_of l n ≡ con_at_place l (place_of (nameless l) n)

-- a layout of the program, seen with its names, is without them the one that is seen without names
abbrev pub SameLayouts : Type 0
SameLayouts = (l : program.Layout) → nameless (layout_view l) ≡ bare.layout_view l

-- a checked layout has one width, and no number fits two of its constructors, as the meaning sees it too
abbrev pub KeptLayouts : Type 0
KeptLayouts = (c : Checked) → IsAccepted (nameless (layout_view c.layout)) c.width
