-- Whether a layout is one, or what is wrong with it.
use Rattle.std.specs.Prelude.{◌≡◌, ℕ, Result, Ok, Err}
use Rattle.ddl_bits.specs.declared.checked.Checked.{Checked}
use Rattle.ddl_bits.specs.declared.error.BitError.{BitError}
use Rattle.ddl_bits.specs.declared.error.BitError.TheVariants.{Widths, Overlap, TooWide}
use Rattle.ddl_bits.specs.declared.layout.Layout.{Layout}
use Rattle.ddl_bits.specs.Accepted.{PartsAccepted}
use Rattle.ddl_bits.specs.Overlaps.{IsFirstOverlap}
use Rattle.ddl_bits.specs.Tree.{Cons, no_cons, con}
use Rattle.ddl_bits.specs.View.{layout_view}
use Rattle.ddl_bits.specs.Widths.{one_width_of}

-- the parts of each constructor have a bit at least, and their inner layouts are accepted
abbrev pub HasAcceptedParts : Cons → Type 0
HasAcceptedParts no_cons = Unit {0}
HasAcceptedParts (con ps cons) = PartsAccepted ps × HasAcceptedParts cons

-- the layout is kept with its one width; or it has no one width; or it has, and this is the first overlap
abbrev pub IsVerdict : Layout → Result Checked BitError → Type 0
IsVerdict layout (Ok checked) = (checked.layout ≡ layout) × (one_width_of (layout_view layout) ≡ Ok checked.width)
IsVerdict layout (Err (Widths a b)) = one_width_of (layout_view layout) ≡ Err (Widths a b)
IsVerdict layout (Err (TooWide a)) = one_width_of (layout_view layout) ≡ Err (TooWide a)
IsVerdict layout (Err (Overlap a b n)) = ((width : ℕ) × (one_width_of (layout_view layout) ≡ Ok width)) × IsFirstOverlap (layout_view layout) a b n
