-- What is built of accepted parts and layouts is accepted.
use Rattle.std.proofs.Common.{◌≡◌, ℕ, ◌≤◌, List, [], ◌∷◌, ◌++◌, Ok, refl, subst, sym, arith}
use Rattle.ddl_bits.specs.declared.layout.LayoutPart.{LayoutPart}
use Rattle.ddl_bits.specs.Accepted.{PartAccepted, PartsAccepted, ConsAccepted, IsAccepted}
use Rattle.ddl_bits.specs.Tree.{inner, Cons, cons_width, too_wide_from}
use Rattle.ddl_bits.specs.View.{part_view, parts_view}
use Rattle.ddl_bits.specs.Widths.{one_width_of}
use Rattle.ddl_bits.proofs.Verdicts.{none_wide}

pub part_pushed : (xs : List LayoutPart) (x : LayoutPart) → PartsAccepted (parts_view xs) → PartAccepted (part_view x)
    → PartsAccepted (parts_view (xs ++ (x ∷ [])))
part_pushed [] x all here = (here, tt)
part_pushed (y ∷ ys) x all here = (all.0, part_pushed ys x all.1 here)

width_is : (cons : Cons) (width : ℕ) → one_width_of cons ≡ Ok width → cons_width cons ≡ width
width_is cons width is = (none_wide cons width (too_wide_from 0 cons) refl is).2

-- an accepted layout of a bit or more may stand inside another
pub inner_accepted : (cons : Cons) (width : ℕ) → one_width_of cons ≡ Ok width → IsAccepted cons width → 1 ≤ width → PartAccepted (inner cons)
inner_accepted cons width is accepted some =
    let same = width_is cons width is in
    (omega (arith, same), omega (arith, same, accepted.0), accepted.1, subst (ConsAccepted cons) (sym same) accepted.2)
