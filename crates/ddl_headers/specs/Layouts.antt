-- What is wrong with a layout of bits, and the least number that it leaves out.
use Rattle.std.specs.Prelude.{ℕ, zero, suc, ◌^◌, List, [], if◌then◌else◌, Bool, Option, Some, None, Result, Ok, Err}
use Rattle.ddl_bits.specs.declared.error.BitError.{BitError}
use Rattle.ddl_bits.specs.declared.error.BitError.TheVariants as e
use Rattle.ddl_bits.specs.Overlaps.{fits_both, left_out}
use Rattle.ddl_bits.specs.Widths.{one_width_of}
use Rattle.ddl_types.specs.Layout.{Layout, named_con, no_cons, one_of}
use Rattle.ddl_typed.specs.Nameless.{nameless}

-- two constructors of different widths; two that the least such number fits; more than 128 bits
pub data LayoutRefusal : Type 0 where
  widths : List ℕ → List ℕ → LayoutRefusal
  overlap : List ℕ → List ℕ → ℕ → LayoutRefusal
  too_wide : LayoutRefusal

-- ---- numbers

-- the least of so many numbers, from one on, for which a test holds
abbrev pub least_from : ℕ → ℕ → (ℕ → Bool) → Option ℕ
least_from k zero test = None
least_from k (suc n) test = let later = least_from (suc k) n test in if test k then Some k else later

abbrev pub least_below : ℕ → (ℕ → Bool) → Option ℕ
least_below n test = least_from 0 n test

-- the least number of the layout's width that fits none of its constructors
abbrev pub gap_of : Layout → ℕ → Option ℕ
gap_of l width = least_below (2 ^ width) (left_out (nameless l))

-- ---- constructors

abbrev pub con_name : Layout → ℕ → List ℕ
con_name no_cons k = []
con_name (one_of (named_con x ps) cs) zero = x
con_name (one_of (named_con x ps) cs) (suc k) = con_name cs k

abbrev pub con_count : Layout → ℕ
con_count no_cons = 0
con_count (one_of c cs) = suc (con_count cs)

abbrev pub or_later : Option LayoutRefusal → Option LayoutRefusal → Option LayoutRefusal
or_later None later = later
or_later (Some r) later = Some r

module _ (l : Layout) (width : ℕ) where
  abbrev pub shared : ℕ → ℕ → Option ℕ → Option LayoutRefusal
  shared a b None = None
  shared a b (Some n) = Some (overlap (con_name l a) (con_name l b) n)

  -- constructor a and the first of so many from b on that a number fits too
  abbrev pub shared_with : ℕ → ℕ → ℕ → Option LayoutRefusal
  shared_with a b zero = None
  shared_with a b (suc k) = or_later (shared a b (least_below (2 ^ width) (fits_both (nameless l) a b))) (shared_with a (suc b) k)

  -- the first two of so many from a on
  abbrev pub first_shared : ℕ → ℕ → Option LayoutRefusal
  first_shared a zero = None
  first_shared a (suc k) = or_later (shared_with a (suc a) k) (first_shared (suc a) k)

-- ---- a layout

abbrev pub of_error : Layout → BitError → LayoutRefusal
of_error l (e.Widths a b) = widths (con_name l a) (con_name l b)
of_error l (e.Overlap a b n) = overlap (con_name l a) (con_name l b) n
of_error l (e.TooWide a) = too_wide

abbrev pub by_width : Layout → Result ℕ BitError → Option LayoutRefusal
by_width l (Err r) = Some (of_error l r)
by_width l (Ok width) = first_shared l width 0 (con_count l)

-- the first that is wrong: too many bits, then another width, then the first two constructors that a number fits
abbrev pub layout_refusal : Layout → Option LayoutRefusal
layout_refusal l = by_width l (one_width_of (nameless l))

-- one that is not known has nothing wrong
abbrev pub known_layout_refusal : Option Layout → Option LayoutRefusal
known_layout_refusal None = None
known_layout_refusal (Some l) = layout_refusal l
