-- A layout without its names, and the numbers that fit it.
use Rattle.std.specs.Prelude.{◌≡◌, ℕ, ◌+◌, ◌/◌, ◌%◌, ◌^◌, ◌<◌, ◌≤◌, Bool, true, false, if◌then◌else◌, ◌&&◌, ◌||◌, ◌==◌, nat_lt, Option, Some, None, refl}

mutual
  -- given bits and their width, any bits of a width, or the bits of another layout
  pub data Part : Type 0 where
    fixed : ℕ → ℕ → Part
    any : ℕ → Part
    inner : Cons → Part

  -- the parts of a constructor, the most significant first
  pub data Parts : Type 0 where
    no_parts : Parts
    part : Part → Parts → Parts

  -- the constructors of a layout
  pub data Cons : Type 0 where
    no_cons : Cons
    con : Parts → Cons → Cons

-- how many bits there are: of a layout as many as of its first constructor
abbrev mutual
  pub part_width : Part → ℕ
  part_width (fixed bits width) = width
  part_width (any width) = width
  part_width (inner cons) = cons_width cons

  pub parts_width : Parts → ℕ
  parts_width no_parts = 0
  parts_width (part p ps) = part_width p + parts_width ps

  pub cons_width : Cons → ℕ
  cons_width no_cons = 0
  cons_width (con ps cons) = parts_width ps

-- the widths are as a layout's are to be: each part has a bit at least, and the constructors of a layout have one width
abbrev mutual
  pub PartSized : Part → Type 0
  PartSized (fixed bits width) = 1 ≤ width
  PartSized (any width) = 1 ≤ width
  PartSized (inner cons) = (1 ≤ cons_width cons) × ConsSized cons (cons_width cons)

  pub PartsSized : Parts → Type 0
  PartsSized no_parts = Unit {0}
  PartsSized (part p ps) = PartSized p × PartsSized ps

  pub ConsSized : Cons → ℕ → Type 0
  ConsSized no_cons width = Unit {0}
  ConsSized (con ps cons) width = (parts_width ps ≡ width) × PartsSized ps × ConsSized cons width

-- whether a number fits: it is below 2 ^ width, has the given bits, and its bits fit the inner layouts
abbrev mutual
  pub part_fits : Part → ℕ → Bool
  part_fits (fixed bits width) n = n == bits && nat_lt n (2 ^ width)
  part_fits (any width) n = nat_lt n (2 ^ width)
  part_fits (inner cons) n = cons_fit cons n

  pub parts_fit : Parts → ℕ → Bool
  parts_fit no_parts n = n == 0
  parts_fit (part p ps) n = part_fits p (n / 2 ^ parts_width ps) && parts_fit ps (n % 2 ^ parts_width ps)

  pub cons_fit : Cons → ℕ → Bool
  cons_fit no_cons n = false
  cons_fit (con ps cons) n = parts_fit ps n || cons_fit cons n

-- the place, counted from k, of the first constructor that a number fits
abbrev pub place_from : ℕ → Cons → ℕ → Option ℕ
place_from k no_cons n = None
place_from k (con ps cons) n = if parts_fit ps n then Some k else place_from (k + 1) cons n

abbrev pub place_of : Cons → ℕ → Option ℕ
place_of cons n = place_from 0 cons n

-- the place, counted from k, of the first constructor of more than 128 bits
abbrev pub too_wide_from : ℕ → Cons → Option ℕ
too_wide_from k no_cons = None
too_wide_from k (con ps cons) = if nat_lt 128 (parts_width ps) then Some k else too_wide_from (k + 1) cons

-- the place, counted from k, of the first constructor of another width
abbrev pub other_width_from : ℕ → ℕ → Cons → Option ℕ
other_width_from width k no_cons = None
other_width_from width k (con ps cons) = if parts_width ps == width then other_width_from width (k + 1) cons else Some k

-- how many constructors a number fits
abbrev pub fit_count : Cons → ℕ → ℕ
fit_count no_cons n = 0
fit_count (con ps cons) n = (if parts_fit ps n then 1 else 0) + fit_count cons n

-- no number fits two constructors
abbrev pub IsUnambiguous : Cons → Type 0
IsUnambiguous cons = (n : ℕ) → fit_count cons n ≤ 1

-- each number below 2 ^ width fits a constructor
abbrev pub IsCovered : Cons → ℕ → Type 0
IsCovered cons width = (n : ℕ) → n < 2 ^ width → cons_fit cons n ≡ true

-- n is the least number for which the test holds
pub record IsLeast (test : ℕ → Bool) (n : ℕ) : Type 0 where
  pub holds : test n ≡ true
  pub least : (k : ℕ) → k < n → test k ≡ false

-- ---- worked

-- a = { 0b0, _ : uint 1 }; b = 0b00: both have the number 0, and none has 2
shared : Cons
shared = con (part (fixed 0 1) (part (any 1) no_parts)) (con (part (fixed 0 2) no_parts) no_cons)

shared_fits : (fit_count shared 0 ≡ 2) × (fit_count shared 1 ≡ 1) × (fit_count shared 2 ≡ 0) × (place_of shared 1 ≡ Some 0) × (place_of shared 2 ≡ None)
unfolding shared
shared_fits = (refl, refl, refl, refl, refl)

-- a = 0b00; b = 0b01; c = 0b10: 3 fits none
three : Cons
three = con (part (fixed 0 2) no_parts) (con (part (fixed 1 2) no_parts) (con (part (fixed 2 2) no_parts) no_cons))

three_fits : (place_of three 2 ≡ Some 2) × (cons_fit three 3 ≡ false) × (cons_fit three 4 ≡ false)
unfolding three
three_fits = (refl, refl, refl)

-- { x : three, 0b1 } of three bits: the inner bits are the upper two
nested : Cons
nested = con (part (inner three) (part (fixed 1 1) no_parts)) no_cons

nested_fits : (cons_fit nested 5 ≡ true) × (cons_fit nested 4 ≡ false) × (cons_fit nested 7 ≡ false)
unfolding nested three
nested_fits = (refl, refl, refl)

-- bits that are 2 ^ width or more fit no number
too_large : (cons_fit (con (part (fixed 2 1) no_parts) no_cons) 0 ≡ false) × (cons_fit (con (part (fixed 2 1) no_parts) no_cons) 2 ≡ false)
too_large = (refl, refl)
