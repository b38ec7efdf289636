-- Where a constructor may be cut in two: the numbers that fit are then each upper half with each lower half.
use Rattle.std.specs.Prelude.{◌≡◌, ℕ, ◌-◌, Bool, true, false, if◌then◌else◌, ◌&&◌, ◌==◌, nat_lt, refl}
use Rattle.ddl_bits.specs.Tree.{Part, fixed, any, inner, Parts, no_parts, part, Cons, no_cons, con, parts_width}

abbrev pub is_empty : Cons → Bool
is_empty no_cons = true
is_empty (con ps cons) = false

-- whether the bits from this place up, counted from the lowest, tell nothing of those below: no part
-- goes over the place, or it has given bits or any, or is a layout of one constructor that has this
abbrev mutual
  pub part_cut : Part → ℕ → Bool
  part_cut (fixed bits width) place = true
  part_cut (any width) place = true
  part_cut (inner cons) place = cons_cut cons place

  pub parts_cut : Parts → ℕ → Bool
  parts_cut no_parts place = true
  parts_cut (part p ps) place = if nat_lt place (parts_width ps) then parts_cut ps place else
      (if place == parts_width ps then true else part_cut p (place - parts_width ps))

  pub cons_cut : Cons → ℕ → Bool
  cons_cut no_cons place = true
  cons_cut (con ps cons) place = is_empty cons && parts_cut ps place

-- ---- worked

-- { _ : uint 2, x : { a = 0b00; b = 0b11 } } is cut above x and in the bits before it, and not in x
cut_above : (parts_cut (part (any 2) (part (inner (con (part (fixed 0 2) no_parts) (con (part (fixed 3 2) no_parts) no_cons))) no_parts)) 3 ≡ true)
    × (parts_cut (part (any 2) (part (inner (con (part (fixed 0 2) no_parts) (con (part (fixed 3 2) no_parts) no_cons))) no_parts)) 2 ≡ true)
    × (parts_cut (part (any 2) (part (inner (con (part (fixed 0 2) no_parts) (con (part (fixed 3 2) no_parts) no_cons))) no_parts)) 1 ≡ false)
cut_above = (refl, refl, refl)
