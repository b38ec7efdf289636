-- Constructors by their places, and pairs of them.
use Rattle.std.proofs.Common.{◌≡◌, ℕ, zero, suc, ◌+◌, ◌<◌, ◌≤◌, Bool, true, false, ◌&&◌, if◌then◌else◌, List, [], ◌∷◌, length, get_or, refl, ◌∙◌, sym, ap}
use Rattle.std.proofs.Common.{subst, arith}
use Rattle.ddl_bits.specs.declared.layout.LayoutCon.{LayoutCon}
use Rattle.ddl_bits.specs.Accepted.{PartsAccepted, ConsAccepted}
use Rattle.ddl_bits.specs.Overlaps.{fits_at, fits_both, parts_both, HasNoOverlap}
use Rattle.ddl_bits.specs.Tree.{Cons, no_cons, con, parts_width, parts_fit, fit_count, IsUnambiguous, IsLeast}
use Rattle.ddl_bits.specs.View.{con_view, cons_view}

pub fits_at_is : (xs : List LayoutCon) (i : ℕ) (x : LayoutCon) (n : ℕ) → i < length xs → x ≡ get_or xs i x
    → fits_at (cons_view xs) i n ≡ parts_fit (con_view x) n
fits_at_is [] i x n h is = absurd (omega arith)
fits_at_is (y ∷ ys) zero x n h is = ap (λ c. parts_fit (con_view c) n) (sym is)
fits_at_is (y ∷ ys) (suc i) x n h is = fits_at_is ys i x n (omega arith) is

pub fits_at_over : (xs : List LayoutCon) (i n : ℕ) → length xs ≤ i → fits_at (cons_view xs) i n ≡ false
fits_at_over [] i n h = refl
fits_at_over (y ∷ ys) zero n h = absurd (omega arith)
fits_at_over (y ∷ ys) (suc i) n h = fits_at_over ys i n (omega arith)

pub accepted_at : (xs : List LayoutCon) (i : ℕ) (x : LayoutCon) (width : ℕ) → i < length xs → x ≡ get_or xs i x → ConsAccepted (cons_view xs) width
    → (parts_width (con_view x) ≡ width) × PartsAccepted (con_view x)
accepted_at [] i x width h is accepted = absurd (omega arith)
accepted_at (y ∷ ys) zero x width h is accepted =
    let P : LayoutCon → Type 0 = λ c. (parts_width (con_view c) ≡ width) × PartsAccepted (con_view c) in
    subst P (sym is) (accepted.0, accepted.1)
accepted_at (y ∷ ys) (suc i) x width h is accepted = accepted_at ys i x width (omega arith) is accepted.2

pub both_are : (xs : List LayoutCon) (i j : ℕ) (x y : LayoutCon) (n : ℕ) → i < length xs → x ≡ get_or xs i x → j < length xs → y ≡ get_or xs j y
    → fits_both (cons_view xs) i j n ≡ parts_both (con_view x) (con_view y) n
both_are xs i j x y n h is g at =
    ap (λ b. b && fits_at (cons_view xs) j n) (fits_at_is xs i x n h is)
    ∙ ap (λ b. parts_fit (con_view x) n && b) (fits_at_is xs j y n g at)

-- tests that agree have one least number
pub least_same : (f g : ℕ → Bool) (n : ℕ) → ((k : ℕ) → f k ≡ g k) → IsLeast g n → IsLeast f n
least_same f g n same found = record { holds = same n ∙ found.holds; least = λ k h. same k ∙ found.least k h }

fit_none : (cons : Cons) (n : ℕ) → ((j : ℕ) → fits_at cons j n ≡ false) → fit_count cons n ≡ 0
fit_none no_cons n none = refl
fit_none (con ps cons) n none =
    let here : (if parts_fit ps n then 1 else 0) ≡ 0 = ap {B = ℕ} (λ b. if b then 1 else 0) (none 0) in
    omega (arith, here, fit_none cons n (λ j. none (suc j)))

other_false : (a b : Bool) → a ≡ true → (a && b) ≡ false → b ≡ false
other_false true b h e = e
other_false false b h e = absurd cc

few_here : (b : Bool) (rest : ℕ) → rest ≤ 1 → (b ≡ true → rest ≡ 0) → (if b then 1 else 0) + rest ≤ 1
few_here true rest few none = omega (arith, none refl)
few_here false rest few none = omega (arith, few)

-- where no pair has a number in common, each number fits one constructor at most
pub unambiguous_of : (cons : Cons) → HasNoOverlap cons → IsUnambiguous cons
unambiguous_of no_cons none n = omega arith
unambiguous_of (con ps cons) none n =
    few_here (parts_fit ps n) (fit_count cons n)
    (unambiguous_of cons (λ i j m h. none (suc i) (suc j) m (omega arith)) n)
    (λ fits. fit_none cons n (λ j. other_false (parts_fit ps n) (fits_at cons j n) fits (none 0 (suc j) n (omega arith))))
