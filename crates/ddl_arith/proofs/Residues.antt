-- The whole number of a type that is equal to another modulo the type's power of two.
use Rattle.std.proofs.Common.{◌≡◌, ℕ, ◌+◌, ◌-◌, ◌*◌, ◌/◌, ◌%◌, ◌^◌, ◌<◌, ◌≤◌, ℤ, pos, negsuc, ◌+ℤ◌, ◌-ℤ◌, neg_ℤ, ltb, Ok, ◌⊎◌, refl, sym, ◌∙◌, ap, inl, inr}
use Rattle.std.proofs.Common.{arith, if◌then◌else◌}
use Rattle.std.specs.Int.RustNames.{unsigned_abs}
use Rattle.std.proofs.lemmas.Int.{int_rem_euclid_is, ints}
use Rattle.std.proofs.lemmas.Nat.{pow_pos, mod-mul-add, div-add-mod', mod_below}
use Rattle.std.proofs.lemmas.Bool.{cases_lt, lt-ltb, le-ltb}
use Rattle.ddl_types.specs.declared.num.Num.TheVariants.{Uint}
use Rattle.ddl_types.specs.declared.num.NumType.TheVariants as Ty
use Rattle.ddl_types.specs.Num.{modulo_width}
use Rattle.ddl_arith.specs.Exact.{settled}
use Rattle.ddl_arith.proofs.Powers.{pow_times, pow_half, mod_twice}

minus_zero : (z : ℤ) → z -ℤ pos 0 ≡ z
minus_zero z = omega (arith, ints)

zero_plus : (z : ℤ) → pos 0 +ℤ z ≡ z
zero_plus z = omega (arith, ints)

-- of `uint width`: where z and some multiples of 2 ^ width make the natural number m
pub modulo_uint : (width : ℕ) (z : ℤ) (k m : ℕ) → z +ℤ pos (k * 2 ^ width) ≡ pos m → modulo_width (Ty.Uint width) z ≡ pos (m % 2 ^ width)
modulo_uint width z k m is =
    zero_plus _ ∙ int_rem_euclid_is (z -ℤ pos 0) (pos (2 ^ width)) (2 ^ width) k m (pow_pos width) refl (ap (λ n. n +ℤ pos (k * 2 ^ width)) (minus_zero z) ∙ is)

-- a natural number is settled at `uint width` by its lowest bits
pub settled_uint : (width n : ℕ) → settled (Ty.Uint width) (pos n) ≡ Ok (Uint (n % 2 ^ width))
settled_uint width n =
    ap (λ z. Ok (Uint (unsigned_abs z))) (modulo_uint width (pos n) 0 n (ap pos (omega arith)))

-- what z is modulo 2 ^ 128 settles it at `uint width`
pub settled_uint_wide : (width : ℕ) (z : ℤ) (m n : ℕ) → width ≤ 128 → n ≡ m % 2 ^ 128 → z +ℤ pos (2 ^ 128) ≡ pos m
    → settled (Ty.Uint width) (pos n) ≡ settled (Ty.Uint width) z
settled_uint_wide width z m n within is wide =
    settled_uint width n
    ∙ ap (λ k. Ok (Uint k)) (ap (λ k. k % 2 ^ width) is ∙ mod_twice m width within)
    ∙ sym (ap (λ y. Ok (Uint (unsigned_abs y))) (modulo_uint width z (2 ^ (128 - width)) m (ap (λ k. z +ℤ pos k) (pow_times width within) ∙ wide)))

-- the same of a natural number
pub settled_uint_low : (width m n : ℕ) → width ≤ 128 → n ≡ m % 2 ^ 128 → settled (Ty.Uint width) (pos n) ≡ settled (Ty.Uint width) (pos m)
settled_uint_low width m n within is =
    settled_uint width n
    ∙ ap (λ k. Ok (Uint k)) (ap (λ k. k % 2 ^ width) is ∙ mod_twice m width within)
    ∙ sym (settled_uint width m)

-- the bits m of z, from which it is cut: z itself, or 2 ^ 128 more
pub cut_uint : (width : ℕ) (z : ℤ) (m : ℕ) → width ≤ 128 → (z ≡ pos m) ⊎ (z +ℤ pos (2 ^ 128) ≡ pos m) → modulo_width (Ty.Uint width) z ≡ pos (m % 2 ^ width)
cut_uint width z m within (inl is) = modulo_uint width z 0 m (omega (arith, ints))
cut_uint width z m within (inr is) =
    modulo_uint width z (2 ^ (128 - width)) m (ap (λ k. z +ℤ pos k) (pow_times width within) ∙ is)

-- half of a modulus more: the residue is half more or half less
half_more : (m half whole : ℕ) → 0 < half → whole ≡ 2 * half → ((m % whole < half) × ((m + half) % whole ≡ m % whole + half))
    ⊎ ((half ≤ m % whole) × ((m + half) % whole + half ≡ m % whole))
half_more m half whole positive twice =
    let d = m / whole in
    let q = m % whole in
    let parts : d * whole + q ≡ m = div-add-mod' m whole in
    let below : q < whole = mod_below m whole (omega arith) in
    elim (cases_lt q half) [
      | inl low ↦
          let e : m + half ≡ d * whole + (q + half) = omega arith in
          inl (low, ap (λ n. n % whole) e ∙ mod-mul-add d whole (q + half) (omega arith))
      | inr high ↦
          let e : m + half ≡ (d + 1) * whole + (q - half) = omega arith in
          let r : (m + half) % whole ≡ q - half = ap (λ n. n % whole) e ∙ mod-mul-add (d + 1) whole (q - half) (omega arith) in
          inr (high, omega arith)
    ]

-- the residue from -half on
signed_residue : (m half whole : ℕ) → 0 < half → whole ≡ 2 * half
    → neg_ℤ (pos half) +ℤ pos ((m + half) % whole) ≡ (if ltb (m % whole) half then pos (m % whole) else negsuc (whole - 1 - m % whole))
signed_residue m half whole positive twice =
    let below : m % whole < whole = mod_below m whole (omega arith) in
    elim (half_more m half whole positive twice) [
      | inl low ↦
          let e : neg_ℤ (pos half) +ℤ pos ((m + half) % whole) ≡ pos (m % whole) = omega (arith, ints, low.0, low.1) in
          e ∙ sym (ap (λ t. if t then pos (m % whole) else negsuc (whole - 1 - m % whole)) (lt-ltb (m % whole) half low.0))
      | inr high ↦
          let e : neg_ℤ (pos half) +ℤ pos ((m + half) % whole) ≡ negsuc (whole - 1 - m % whole) = omega (arith, ints, high.0, high.1) in
          e ∙ sym (ap (λ t. if t then pos (m % whole) else negsuc (whole - 1 - m % whole)) (le-ltb (m % whole) half high.0))
    ]

-- of `sint width`: where z and some multiples of 2 ^ width make the natural number m
modulo_sint : (width : ℕ) (z : ℤ) (k m : ℕ) → 1 ≤ width → z +ℤ pos (k * 2 ^ width) ≡ pos m
    → modulo_width (Ty.Sint width) z ≡ (if ltb (m % 2 ^ width) (2 ^ (width - 1)) then pos (m % 2 ^ width) else negsuc (2 ^ width - 1 - m % 2 ^ width))
modulo_sint width z k m positive is =
    let half = 2 ^ (width - 1) in
    let moved : (z -ℤ neg_ℤ (pos half)) +ℤ pos (k * 2 ^ width) ≡ pos (m + half) = omega (arith, ints) in
    ap (λ r. neg_ℤ (pos half) +ℤ r) (int_rem_euclid_is (z -ℤ neg_ℤ (pos half)) (pos (2 ^ width)) (2 ^ width) k (m + half) (pow_pos width) refl moved)
    ∙ signed_residue m half (2 ^ width) (pow_pos (width - 1)) (pow_half width positive)

pub cut_sint : (width : ℕ) (z : ℤ) (m : ℕ) → 1 ≤ width → width ≤ 128 → (z ≡ pos m) ⊎ (z +ℤ pos (2 ^ 128) ≡ pos m)
    → modulo_width (Ty.Sint width) z ≡ (if ltb (m % 2 ^ width) (2 ^ (width - 1)) then pos (m % 2 ^ width) else negsuc (2 ^ width - 1 - m % 2 ^ width))
cut_sint width z m positive within (inl is) = modulo_sint width z 0 m positive (omega (arith, ints))
cut_sint width z m positive within (inr is) =
    modulo_sint width z (2 ^ (128 - width)) m positive (ap (λ k. z +ℤ pos k) (pow_times width within) ∙ is)
