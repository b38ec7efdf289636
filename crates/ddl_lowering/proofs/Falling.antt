-- Counts that fall: 0 or not, and the tests of the limits that they stand for.
use Rattle.std.proofs.Common.{◌≡◌, ℕ, zero, suc, true, false, refl, ap, subst, sym, arith}
use Rattle.std.specs.Prelude.{nat_lt, nat_le, ◌-◌, max, pos}
use Rattle.std.specs.Ordering.{int_eq}
use Rattle.ddl_types.specs.Value.{Value, Values, no_values, value}
use Rattle.ddl_ops.specs.Arrays.{snoc, size}

above_zero : (m : ℕ) → int_eq (pos (suc m)) (pos 0) ≡ false
above_zero m = grind arith

-- a count is 0, or it is not
pub data Count : ℕ → Type 0 where
  at_none : Count 0
  at_some : {m : ℕ} → int_eq (pos m) (pos 0) ≡ false → (m ≡ 0 → ⊥) → Count m

pub count_is : (m : ℕ) → Count m
count_is zero = at_none
count_is (suc m) = at_some (above_zero m) (λ e. cc)

pub size_on : (xs : Values) (w : Value) → size (snoc xs w) ≡ suc (size xs)
size_on no_values w = refl
size_on (value v xs) w = ap suc (size_on xs w)

pub falls : (n m : ℕ) (xs : Values) (w : Value) → m ≡ n - size xs → m - 1 ≡ n - size (snoc xs w)
falls n m xs w e = subst (λ z. m - 1 ≡ n - z) (sym (size_on xs w)) (omega (arith, e))

pub wanted : (n s m : ℕ) → m ≡ n - s → (m ≡ 0 → ⊥) → nat_lt s n ≡ true
wanted n s m e f = grind (arith, e, f)

pub unwanted : (n s : ℕ) → 0 ≡ n - s → nat_lt s n ≡ false
unwanted n s e = grind (arith, e)

pub allowed : (n s m : ℕ) → m ≡ n - s → (m ≡ 0 → ⊥) → nat_le n s ≡ false
allowed n s m e f = grind (arith, e, f)

pub forbidden : (n s : ℕ) → 0 ≡ n - s → nat_le n s ≡ true
forbidden n s e = grind (arith, e)

pub top_wanted : (low high s : ℕ) → 0 ≡ max high low - s → nat_lt s low ≡ false
top_wanted low high s e = grind (arith, e)

pub top_forbidden : (low high s : ℕ) → 0 ≡ max high low - s → nat_le high s ≡ true
top_forbidden low high s e = grind (arith, e)

pub top_allowed : (low high s m : ℕ) → m ≡ max high low - s → (m ≡ 0 → ⊥) → 0 ≡ low - s → nat_le high s ≡ false
top_allowed low high s m e f g = grind (arith, e, f, g)

pub below_none : (n : ℕ) → nat_lt n 0 ≡ false
below_none n = grind arith

pub none_less : (n : ℕ) → n ≡ n - 0
none_less n = omega arith
