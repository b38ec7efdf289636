-- Ranges of the signed types, beside that of 128 bits.
use Rattle.std.proofs.Common.{◌≡◌, ℕ, zero, suc, ◌+◌, ◌-◌, ◌*◌, ◌%◌, ◌^◌, ◌<◌, ◌≤◌, Bool, true, false, ◌&&◌, ℤ, pos, negsuc, ◌*ℤ◌, neg_ℤ, ltb, Option, Some}
use Rattle.std.proofs.Common.{None, Result, Ok, Err, mod-eq_of_lt, refl, sym, ◌∙◌, ap, inl, inr, arith, if◌then◌else◌}
use Rattle.std.specs.Prelude.{int_le, int_lt, FitsSigned}
use Rattle.std.specs.Option.{SomeIff, IfNone, IfSome}
use Rattle.std.specs.Result.{OkIff, result_ok}
use Rattle.std.specs.Int.{w128, cast_unsigned, cast_signed}
use Rattle.std.specs.Int.Signed.{mag}
use Rattle.std.proofs.lemmas.Int.{to_z-of_z, to_z_pos}
use Rattle.std.proofs.lemmas.Nat.{pow_pos, mul-le, mod-mul-add}
use Rattle.std.proofs.lemmas.Bool.{cases_lt, lt-ltb, le-ltb, le-leb, lt-leb, ltb-true, ne_eqb}
use Rattle.ddl_types.specs.declared.num.Num.{Num}
use Rattle.ddl_types.specs.declared.num.Num.TheVariants.{Sint}
use Rattle.ddl_types.specs.declared.num.NumType.{NumType}
use Rattle.ddl_types.specs.declared.num.NumType.TheVariants as Ty
use Rattle.ddl_types.specs.declared.fault.Fault.{Fault}
use Rattle.ddl_types.specs.declared.fault.Fault.TheVariants.{Overflow, Shift, DivZero}
use Rattle.ddl_types.specs.Num.{in_range, width_of}
use Rattle.ddl_arith.specs.Exact.{settled, kept, is_zero, shifted, divided}
use Rattle.ddl_arith.proofs.Powers.{pow_le}

-- from -half to half - 1: the part without a sign is below half
range_by_size : (half : ℕ) (z : ℤ) → 0 < half → (int_le (neg_ℤ (pos half)) z && int_lt z (pos half)) ≡ ltb (mag z) half
range_by_size zero z h = absurd (omega arith)
range_by_size (suc half) (pos n) h = refl
range_by_size (suc half) (negsuc n) h =
    elim (cases_lt n (suc half)) [
      | inl below ↦ ap (λ b. b && true) (le-leb n half (omega arith)) ∙ sym (lt-ltb n (suc half) below)
      | inr above ↦ ap (λ b. b && true) (lt-leb n half (omega arith)) ∙ sym (le-ltb n (suc half) above)
    ]

pub sint_by_size : (width : ℕ) (z : ℤ) → in_range (Ty.Sint width) z ≡ ltb (mag z) (2 ^ (width - 1))
sint_by_size width z = range_by_size (2 ^ (width - 1)) z (pow_pos (width - 1))

-- what is in a signed type's range fits 128 bits
fits_wide : (width : ℕ) (z : ℤ) → width ≤ 128 → in_range (Ty.Sint width) z ≡ true → FitsSigned w128 z
fits_wide width z within inside =
    let small = ltb-true (mag z) (2 ^ (width - 1)) (sym (sint_by_size width z) ∙ inside) in
    let bound = pow_le (width - 1) 127 (omega arith) in
    record { sfits = omega arith }

over_wide : (width : ℕ) (z : ℤ) (b : Bool) → in_range (Ty.Sint width) z ≡ b → width ≤ 128 → (FitsSigned w128 z → ⊥) → settled (Ty.Sint width) z ≡ Err Overflow
over_wide width z true is within over = absurd (over (fits_wide width z within is))
over_wide width z false is within over = ap (λ inside. if inside then Ok (Sint z) else Err Overflow) is

over_kept : (width : ℕ) (z : ℤ) (b : Bool) → in_range (Ty.Sint width) z ≡ b → width ≤ 128 → (FitsSigned w128 z → ⊥) → kept (Ty.Sint width) z ≡ None
over_kept width z true is within over = absurd (over (fits_wide width z within is))
over_kept width z false is within over = ap (λ inside. if inside then Some (Sint z) else None) is

-- what does not fit 128 bits is not kept
pub not_kept : (E : Type 0) (width : ℕ) (z : ℤ) (wide : Result ℤ E) → width ≤ 128 → OkIff wide (FitsSigned w128 z) z → result_ok wide ≡ None
    → kept (Ty.Sint width) z ≡ None
not_kept E width z (Ok y) within iff none = absurd cc
not_kept E width z (Err e) within iff none = over_kept width z _ refl within iff

-- an answer that is settled where z fits 128 bits, and else an overflow
pub settled_sint : (width : ℕ) (exact : Option ℤ) (z : ℤ) (answer : Result Num Fault) → width ≤ 128 → SomeIff exact (FitsSigned w128 z) z
    → IfNone exact (answer ≡ Err Overflow) → IfSome exact (λ y. answer ≡ settled (Ty.Sint width) y) → answer ≡ settled (Ty.Sint width) z
settled_sint width None z answer within iff none some = none ∙ sym (over_wide width z _ refl within iff)
settled_sint width (Some y) z answer within iff none some = some ∙ ap (settled (Ty.Sint width)) iff.1

-- two numbers of 128 bits, as a callee is given them
pub as_given : {A : Type 0} (f : ℤ → ℤ → A) (x y : ℤ) → FitsSigned w128 x → FitsSigned w128 y
    → f (cast_signed w128 (cast_unsigned w128 x)) (cast_signed w128 (cast_unsigned w128 y)) ≡ f x y
as_given f x y p q = ap (λ a. f a (cast_signed w128 (cast_unsigned w128 y))) (to_z-of_z w128 x p) ∙ ap (f x) (to_z-of_z w128 y q)

pub not_zero : (y : ℤ) → (cast_unsigned w128 y ≡ 0 → ⊥) → is_zero y ≡ false
not_zero (pos zero) h = absurd (h refl)
not_zero (pos (suc n)) h = ne_eqb (suc n) 0 h
not_zero (negsuc n) h = ne_eqb (suc n) 0 (λ e. omega (arith, e))

pub given_first : (P Q : Type 0) (exact : Option ℤ) (z : ℤ) → P → SomeIff exact (P × Q) z → SomeIff exact Q z
given_first P Q None z p iff = λ q. iff (p, q)
given_first P Q (Some y) z p iff = (iff.0.1, iff.1)

-- a shift by less than the width, and a division by another number than 0
pub near_enough : (ty : NumType) (places : ℕ) (z : ℤ) → places < width_of ty → shifted ty places z ≡ settled ty z
near_enough ty places z h = ap (λ far. if far then Err Shift else settled ty z) (lt-leb (width_of ty) places h)

pub by_other_than_zero : (ty : NumType) (divisor z : ℤ) → (cast_unsigned w128 divisor ≡ 0 → ⊥) → divided ty divisor z ≡ settled ty z
by_other_than_zero ty divisor z h = ap (λ zero. if zero then Err DivZero else settled ty z) (not_zero divisor h)

-- ---- times a power of two, where half * times is 2 ^ 127

-- the part without a sign of z times a number above 0
size_times : (z : ℤ) (times : ℕ) → 0 < times → (mag z * times ≤ mag (z *ℤ pos times)) × (mag (z *ℤ pos times) < (mag z + 1) * times)
size_times (pos n) times h = (omega arith, omega arith)
size_times (negsuc n) zero h = absurd (omega arith)
size_times (negsuc n) (suc times) h =
    let e : suc n * suc times ≡ suc (n * suc times + times) = omega arith in
    rw e (omega arith, omega arith)

pub product_fits : (z : ℤ) (half times : ℕ) → 0 < times → half * times ≡ 2 ^ 127 → mag z < half → FitsSigned w128 (z *ℤ pos times)
product_fits z half times h e small =
    let size = size_times z times h in
    let below = mul-le (mag z + 1) times half times (omega arith) (omega arith) in
    record { sfits = omega arith }

pub product_over : (z : ℤ) (half times : ℕ) → 0 < times → half * times ≡ 2 ^ 127 → half ≤ mag z → FitsSigned w128 (z *ℤ pos times) → ⊥
product_over z half times h e large fits =
    let size = size_times z times h in
    let above = mul-le half times (mag z) times large (omega arith) in
    let over = fits.sfits in
    omega arith

-- the bits of a negative product
negative_bits : (n times m : ℕ) → suc n ≤ 2 ^ 128 → suc n * suc times ≡ suc m → suc m ≤ 2 ^ 128 → (2 ^ 128 - suc n) * suc times % 2 ^ 128 ≡ 2 ^ 128 - suc m
negative_bits n times m small e fits =
    let whole : (2 ^ 128 - suc n) + suc n ≡ 2 ^ 128 = omega arith in
    let product : ((2 ^ 128 - suc n) + suc n) * suc times ≡ 2 ^ 128 * suc times = ap (λ k. k * suc times) whole in
    let parts : (2 ^ 128 - suc n) * suc times ≡ times * 2 ^ 128 + (2 ^ 128 - suc m) = omega arith in
    ap (λ k. k % 2 ^ 128) parts ∙ mod-mul-add times (2 ^ 128) (2 ^ 128 - suc m) (omega arith)

pub product_bits : (z : ℤ) (times : ℕ) → 0 < times → FitsSigned w128 z → FitsSigned w128 (z *ℤ pos times)
    → cast_signed w128 (cast_unsigned w128 z * times % 2 ^ 128) ≡ z *ℤ pos times
product_bits (pos n) times h small fits =
    let below = fits.sfits in
    let e : n * times % 2 ^ 128 ≡ n * times = mod-eq_of_lt (omega arith) in
    ap (cast_signed w128) e ∙ to_z_pos w128 (n * times) below
product_bits (negsuc n) zero h small fits = absurd (omega arith)
product_bits (negsuc n) (suc times) h small fits =
    let m = n * suc times + times in
    let e : suc n * suc times ≡ suc m = omega arith in
    let below : m < 2 ^ 127 = (rw e at fits).sfits in
    let given = small.sfits in
    ap (cast_signed w128) (negative_bits n times m (omega arith) e (omega arith))
    ∙ to_z-of_z w128 (negsuc m) (record { sfits = below })
    ∙ sym (ap (λ k. neg_ℤ (pos k)) e)
