-- Which constructors have a number in common, and which numbers are left out.
use Rattle.std.specs.Prelude.{◌≡◌, ℕ, zero, suc, ◌<◌, ◌≤◌, Bool, true, false, ◌&&◌, not, Option, Some, None, refl}
use Rattle.ddl_bits.specs.declared.common.Search.{Search}
use Rattle.ddl_bits.specs.declared.common.Search.TheVariants.{Number, NoneHere, NoneAtAll}
use Rattle.ddl_bits.specs.Tree.{Parts, part, no_parts, fixed, any, Cons, no_cons, con, parts_fit, cons_fit, IsLeast}

-- whether a number fits the constructor at this place, counted from 0
abbrev pub fits_at : Cons → ℕ → ℕ → Bool
fits_at no_cons place n = false
fits_at (con ps cons) zero n = parts_fit ps n
fits_at (con ps cons) (suc place) n = fits_at cons place n

-- whether a number fits the constructors at both places
abbrev pub fits_both : Cons → ℕ → ℕ → ℕ → Bool
fits_both cons a b n = fits_at cons a n && fits_at cons b n

-- no later constructor has a number in common with a
abbrev pub HasNoneWith : Cons → ℕ → Type 0
HasNoneWith cons a = (j m : ℕ) → a < j → fits_both cons a j m ≡ false

-- no number fits two constructors
abbrev pub HasNoOverlap : Cons → Type 0
HasNoOverlap cons = (i : ℕ) → HasNoneWith cons i

-- b is the first constructor behind a that has a number in common with it, and n is the least such number
pub record IsFirstWith (cons : Cons) (a b n : ℕ) : Type 0 where
  pub order : a < b
  pub number : IsLeast (fits_both cons a b) n
  pub none_before : (j m : ℕ) → a < j → j < b → fits_both cons a j m ≡ false

-- a and b are the first pair of constructors that a number fits, and n is the least such number
pub record IsFirstOverlap (cons : Cons) (a b n : ℕ) : Type 0 where
  pub pair : IsFirstWith cons a b n
  pub none_before : (i : ℕ) → i < a → HasNoneWith cons i

-- the least number for which the test holds, if there is one
abbrev pub IsLeastIfAny : (ℕ → Bool) → Option ℕ → Type 0
IsLeastIfAny test None = (n : ℕ) → test n ≡ false
IsLeastIfAny test (Some n) = IsLeast test n

-- the same from a number on, up to and with another
abbrev pub IsLeastBetween : (ℕ → Bool) → ℕ → ℕ → Option ℕ → Type 0
IsLeastBetween test from to None = (n : ℕ) → from ≤ n → n < to → test n ≡ false
IsLeastBetween test from to (Some n) = (from ≤ n) × (n < to) × (test n ≡ true) × ((k : ℕ) → from ≤ k → k < n → test k ≡ false)

-- the answer is the least number of such a range, or says that it has none, or that there is none at all
abbrev pub IsSearched : (ℕ → Bool) → ℕ → ℕ → Search → Type 0
IsSearched test from to (Number n) = IsLeastBetween test from to (Some n)
IsSearched test from to NoneHere = IsLeastBetween test from to None
IsSearched test from to NoneAtAll = (n : ℕ) → test n ≡ false

-- the answer says whether the test holds for no number from one on, up to another
abbrev pub HasNone : (ℕ → Bool) → ℕ → ℕ → Bool → Type 0
HasNone test from to true = (n : ℕ) → from ≤ n → n < to → test n ≡ false
HasNone test from to false = (n : ℕ) × (from ≤ n) × (n < to) × (test n ≡ true)

-- a number that fits both lists of parts
abbrev pub parts_both : Parts → Parts → ℕ → Bool
parts_both a b n = parts_fit a n && parts_fit b n

-- whether a number fits none
abbrev pub left_out : Cons → ℕ → Bool
left_out cons n = not (cons_fit cons n)

-- ---- worked

-- a = { 0b0, _ : uint 1 }; b = 0b00: both have the number 0, and 1 fits a alone
shared_number : (fits_both (con (part (fixed 0 1) (part (any 1) no_parts)) (con (part (fixed 0 2) no_parts) no_cons)) 0 1 0 ≡ true)
    × (fits_both (con (part (fixed 0 1) (part (any 1) no_parts)) (con (part (fixed 0 2) no_parts) no_cons)) 0 1 1 ≡ false)
shared_number = (refl, refl)
