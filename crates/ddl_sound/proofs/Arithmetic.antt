-- Numbers that operations give are in the range of their type.
use Rattle.std.proofs.Common.{List, inl, inr, ◌≡◌, ℕ, zero, suc, ◌+◌, ◌-◌, ◌*◌, ◌%◌, ◌^◌, ◌<◌, ◌≤◌, ◌==◌, ◌&&◌, Bool, true, false, if◌then◌else◌, ℤ, pos}
use Rattle.std.proofs.Common.{negsuc, ◌+ℤ◌, ◌-ℤ◌, neg_ℤ, ltb, Some, Ok, Err, refl, sym, subst, ◌∙◌, ap, arith}
use Rattle.std.specs.Prelude.{nat_le, unsigned_abs, int_le, int_lt}
use Rattle.std.specs.Int.{int_rem_euclid}
use Rattle.std.proofs.lemmas.Int.{ints}
use Rattle.std.proofs.lemmas.Nat.{pow_pos, pow-add, mod_below, mul-le}
use Rattle.std.proofs.Math.Nat.{two-pow-succ}
use Rattle.std.proofs.lemmas.Bool.{lt-ltb, ltb-true, le-leb, and_from, cases_lt}
use Rattle.ddl_base.specs.declared.span.Span.{Span}
use Rattle.ddl_types.specs.declared.fault.Fault.TheVariants.{Overflow, DivZero, Shift}
use Rattle.ddl_types.specs.declared.num.Num.TheVariants.{Sint}
use Rattle.ddl_types.specs.declared.num.NumType.{NumType}
use Rattle.ddl_types.specs.declared.num.NumType.TheVariants as num
use Rattle.ddl_types.specs.Num.{in_range, whole, number_of, modulo_width, width_of}
use Rattle.ddl_types.specs.Layout.{Layout}
use Rattle.ddl_types.specs.Types.{Ty}
use Rattle.ddl_types.specs.Value.{Value, number}
use Rattle.ddl_arith.specs.declared.operation.Op.{Op}
use Rattle.ddl_arith.specs.declared.operation.Op.TheVariants.{Add, Sub, Mul, Div, Rem, Shl, Shr, And, Or, Xor}
use Rattle.ddl_arith.specs.Exact.{settled, is_zero, op_of, kept, cut_of, has_op, right_type}
use Rattle.ddl_ops.specs.Numbers.{number_type, settled_at, same_type, arithmetic_value, negated, complement_of, bits_beside, bits_appended, count_value}
use Rattle.ddl_ops.specs.Valued.{Valued}
use Rattle.ddl_typed.specs.Specification.{Place}
use Rattle.ddl_sound.specs.HasType.{HasType}
use Rattle.ddl_sound.specs.Sound.{Gives}
use Rattle.ddl_sound.proofs.Reading.{false_true}

and_right_true : (a b : Bool) → (a && b) ≡ true → b ≡ true
and_right_true true b e = e
and_right_true false b e = absurd (false_true e)

equal_self : (x : ℕ) → (x == x) ≡ true
equal_self x = grind arith

pub uint_in : (w n : ℕ) → n < 2 ^ w → in_range (num.Uint w) (pos n) ≡ true
uint_in w n h = and_from _ _ (le-leb 0 n (omega arith)) (lt-ltb n (2 ^ w) h)

pub uint_below : (w n : ℕ) → in_range (num.Uint w) (pos n) ≡ true → n < 2 ^ w
uint_below w n h = ltb-true n (2 ^ w) (and_right_true _ _ h)

record Rest (z : ℤ) (d : ℕ) : Type 0 where
  rest : ℕ
  is : int_rem_euclid z (pos d) ≡ pos rest
  below : rest < d

rest_of : (z : ℤ) (d : ℕ) → 0 < d → Rest z d
rest_of (pos a) d h = record { rest = a % d; is = refl; below = mod_below a d h }
rest_of (negsuc a) d h = record { rest = d - 1 - a % d; is = refl; below = omega arith }

uint_modulo : (w : ℕ) (z : ℤ) → in_range (num.Uint w) (pos (unsigned_abs (modulo_width (num.Uint w) z))) ≡ true
uint_modulo w z =
    let r = rest_of (z -ℤ pos 0) (2 ^ w) (pow_pos w) in
    let e : modulo_width (num.Uint w) z ≡ pos r.rest = ap (λ y. pos 0 +ℤ y) r.is ∙ omega (arith, ints) in
    subst (λ y. in_range (num.Uint w) (pos (unsigned_abs y)) ≡ true) (sym e) (uint_in w r.rest r.below)

-- ---- what settles

pub same_number : (s : NumType) → same_type s s ≡ true
same_number num.Int = refl
same_number (num.Uint w) = equal_self w
same_number (num.Sint w) = equal_self w

module _ (places : List Place) (layouts : List Layout) where
  abbrev Has : Value → Ty → Type 0
  Has w ty = HasType places layouts w ty

  abbrev Of : Ty → Valued → Type 0
  Of ty o = Gives (λ w. Has w ty) o

  in_test : (ty : Ty) (s : NumType) (z : ℤ) (span : Span) (b : Bool) → number_type ty ≡ Some s → in_range s z ≡ b →
      Of ty (settled_at s span (if b then Ok (Sint z) else Err Overflow))
  in_test ty s z span true e is = (e, is)
  in_test ty s z span false e is = tt

  settles : (ty : Ty) (s : NumType) (z : ℤ) (span : Span) → number_type ty ≡ Some s → Of ty (settled_at s span (settled s z))
  settles ty (num.Uint w) z span e = (e, uint_modulo w z)
  settles ty (num.Sint w) z span e = in_test ty (num.Sint w) z span _ e refl
  settles ty num.Int z span e = in_test ty num.Int z span _ e refl

  test_divided : (ty : Ty) (s : NumType) (z : ℤ) (span : Span) (b : Bool) → number_type ty ≡ Some s →
      Of ty (settled_at s span (if b then Err DivZero else settled s z))
  test_divided ty s z span true e = tt
  test_divided ty s z span false e = settles ty s z span e

  test_shifted : (ty : Ty) (s : NumType) (z : ℤ) (span : Span) (b : Bool) → number_type ty ≡ Some s →
      Of ty (settled_at s span (if b then Err Shift else settled s z))
  test_shifted ty s z span true e = tt
  test_shifted ty s z span false e = settles ty s z span e

  operates : (op : Op) (ty : Ty) (s : NumType) (x y : ℤ) (span : Span) → number_type ty ≡ Some s → Of ty (settled_at s span (op_of op s x y))
  operates Add ty s x y span e = settles ty s _ span e
  operates Sub ty s x y span e = settles ty s _ span e
  operates Mul ty s x y span e = settles ty s _ span e
  operates Div ty s x y span e = test_divided ty s _ span (is_zero y) e
  operates Rem ty s x y span e = test_divided ty s _ span (is_zero y) e
  operates Shl ty s x y span e = test_shifted ty s _ span (nat_le (width_of s) (unsigned_abs y)) e
  operates Shr ty s x y span e = test_shifted ty s _ span (nat_le (width_of s) (unsigned_abs y)) e
  operates And ty s x y span e = settles ty s _ span e
  operates Or ty s x y span e = settles ty s _ span e
  operates Xor ty s x y span e = settles ty s _ span e

  pub arithmetic_of : (op : Op) (ty : Ty) (s : NumType) (x y : ℤ) (span : Span) → number_type ty ≡ Some s → has_op s op ≡ true →
      Of ty (arithmetic_value op span (number s x) (number (right_type op s) y))
  arithmetic_of op ty s x y span e has = rw (same_number (right_type op s), has) (operates op ty s x y span e)

  pub negated_of : (ty : Ty) (s : NumType) (z : ℤ) (span : Span) → number_type ty ≡ Some s → Of ty (negated span (number s z))
  negated_of ty s z span e = settles ty s _ span e

  pub complement_is : (ty : Ty) (w n : ℕ) → number_type ty ≡ Some (num.Uint w) → Of ty (complement_of (number (num.Uint w) (pos n)))
  complement_is ty w n e = let p = pow_pos w in (e, uint_in w (2 ^ w - 1 - n) (omega arith))

  pub beside_is : (ty : Ty) (m n x y : ℕ) → m + n ≤ 128 → number_type ty ≡ Some (num.Uint (m + n)) → in_range (num.Uint m) (pos x) ≡ true →
      in_range (num.Uint n) (pos y) ≡ true → Of ty (bits_beside (number (num.Uint m) (pos x)) (number (num.Uint n) (pos y)))
  beside_is ty m n x y le e h k =
      let a = uint_below m x h in
      let b = uint_below n y k in
      let c = mul-le (x + 1) (2 ^ n) (2 ^ m) (2 ^ n) (omega arith) (omega arith) in
      let d : 2 ^ (m + n) ≡ 2 ^ m * 2 ^ n = pow-add 2 m n in
      rw (le-leb (m + n) 128 le) (e, uint_in (m + n) (x * 2 ^ n + y) (omega arith))

  pub append_is : (ty : Ty) (m n x y : ℕ) → number_type ty ≡ Some (num.Uint m) →
      Of ty (bits_appended (number (num.Uint m) (pos x)) (number (num.Uint n) (pos y)))
  append_is ty m n x y e = (e, uint_in m ((x * 2 ^ n + y) % 2 ^ m) (mod_below _ (2 ^ m) (pow_pos m)))

  -- a count is a number of 64 bits
  pub count_is : (ty : Ty) (n : ℕ) → number_type ty ≡ Some (num.Uint 64) → Has (count_value n) ty
  count_is ty n e = (e, uint_in 64 (n % 2 ^ 64) (mod_below n (2 ^ 64) (pow_pos 64)))

-- ---- casts

pub whole_is : (s : NumType) (z : ℤ) → in_range s z ≡ true → whole (number_of s z) ≡ z
whole_is num.Int z h = refl
whole_is (num.Sint w) z h = refl
whole_is (num.Uint w) (pos n) h = refl
whole_is (num.Uint w) (negsuc n) h = absurd (false_true h)

pub kept_is : (s : NumType) (z : ℤ) → in_range s z ≡ true → kept s z ≡ Some (number_of s z)
kept_is s z h = rw h refl

pow_half : (w : ℕ) → 1 ≤ w → 2 ^ w ≡ 2 * 2 ^ (w - 1)
pow_half zero h = absurd (omega arith)
pow_half (suc w) h = let e : suc w - 1 ≡ w = omega arith in rw (e, two-pow-succ) (omega arith)

-- from -half on, less than twice half
signed_in : (half r : ℕ) → r < 2 * half → (int_le (neg_ℤ (pos half)) (neg_ℤ (pos half) +ℤ pos r) && int_lt (neg_ℤ (pos half) +ℤ pos r) (pos half)) ≡ true
signed_in half r h =
    elim (cases_lt r half) [
      | inl low ↦
          let e : neg_ℤ (pos half) +ℤ pos r ≡ negsuc (half - 1 - r) = omega (arith, ints) in
          rw e (below_is half (half - 1 - r) (omega arith))
      | inr high ↦
          let e : neg_ℤ (pos half) +ℤ pos r ≡ pos (r - half) = omega (arith, ints) in
          rw e (above_is half (r - half) (omega arith))
    ]
  where
    below_is : (half n : ℕ) → n < half → (int_le (neg_ℤ (pos half)) (negsuc n) && int_lt (negsuc n) (pos half)) ≡ true
    below_is zero n h = absurd (omega arith)
    below_is (suc k) n h = and_from _ _ (le-leb n k (omega arith)) refl

    above_is : (half n : ℕ) → n < half → (int_le (neg_ℤ (pos half)) (pos n) && int_lt (pos n) (pos half)) ≡ true
    above_is zero n h = absurd (omega arith)
    above_is (suc k) n h = and_from _ _ refl (lt-ltb n (suc k) h)

pub cut_in : (s : NumType) (z : ℤ) → 1 ≤ width_of s → in_range s (whole (cut_of s z)) ≡ true
cut_in (num.Uint w) z h = uint_modulo w z
cut_in (num.Sint w) z h =
    let half = 2 ^ (w - 1) in
    let r = rest_of (z -ℤ neg_ℤ (pos half)) (2 ^ w) (pow_pos w) in
    let twice = pow_half w h in
    rw r.is (signed_in half r.rest (omega (arith, r.below)))
cut_in num.Int z h =
    let half = 2 ^ 127 in
    let r = rest_of (z -ℤ neg_ℤ (pos half)) (2 ^ 128) (pow_pos 128) in
    let twice = pow_half 128 (omega arith) in
    rw r.is (signed_in half r.rest (omega (arith, r.below)))
