-- What the one width of a layout tells of its constructors.
use Rattle.std.proofs.Common.{◌≡◌, ℕ, ◌+◌, ◌≤◌, Bool, true, false, eqb, if◌then◌else◌, Option, Some, None, Ok, refl, subst, arith}
use Rattle.std.proofs.lemmas.Bool.{eqb-true}
use Rattle.ddl_bits.specs.Accepted.{ConsAccepted}
use Rattle.ddl_bits.specs.Tree.{Cons, no_cons, con, cons_width, parts_width, too_wide_from, other_width_from}
use Rattle.ddl_bits.specs.Verdict.{HasAcceptedParts}
use Rattle.ddl_bits.specs.Widths.{width_unless_other, width_unless_too_wide, one_width_of}
use Rattle.ddl_bits.proofs.Steps.{few_bits}

none_other : (w width : ℕ) (other : Option ℕ) → width_unless_other w other ≡ Ok width → (other ≡ None) × (w ≡ width)
none_other w width (Some place) e = absurd cc
none_other w width None e = (refl, (cc))

pub none_wide : (cons : Cons) (width : ℕ) (wide : Option ℕ) → too_wide_from 0 cons ≡ wide → width_unless_too_wide cons wide ≡ Ok width
    → (cons_width cons ≤ 128) × (other_width_from (cons_width cons) 0 cons ≡ None) × (cons_width cons ≡ width)
none_wide cons width (Some place) is e = absurd cc
none_wide cons width None is e =
    let other = none_other (cons_width cons) width (other_width_from (cons_width cons) 0 cons) e in
    (few_bits 0 cons is, other.0, other.1)

same_here : (k : ℕ) (rest : Option ℕ) (b : Bool) → (if b then rest else Some k) ≡ None → (b ≡ true) × (rest ≡ None)
same_here k rest true e = (refl, e)
same_here k rest false e = absurd cc

accepted_of : (k width : ℕ) (cons : Cons) → other_width_from width k cons ≡ None → HasAcceptedParts cons → ConsAccepted cons width
accepted_of k width no_cons none parts = tt
accepted_of k width (con ps cons) none parts =
    let here = same_here k (other_width_from width (k + 1) cons) (eqb (parts_width ps) width) none in
    (eqb-true (parts_width ps) width here.0, parts.0, accepted_of (k + 1) width cons here.1 parts.1)

pub one_width_accepted : (cons : Cons) (width : ℕ) → one_width_of cons ≡ Ok width → HasAcceptedParts cons → (width ≤ 128) × ConsAccepted cons width
one_width_accepted cons width e parts =
    let found = none_wide cons width (too_wide_from 0 cons) refl e in
    (omega (arith, found.0, found.2), subst (ConsAccepted cons) found.2 (accepted_of 0 (cons_width cons) cons found.1 parts))
