-- The bits that the given bits of a constructor fix.
use Rattle.std.specs.Prelude.{◌≡◌, ℕ, ◌-◌, ◌/◌, ◌%◌, ◌^◌, Bool, false, not, if◌then◌else◌, ◌==◌, nat_lt, Option, Some, None, refl}
use Rattle.ddl_bits.specs.Tree.{Part, fixed, any, inner, Parts, no_parts, part, parts_width}

-- the bit at this place, counted from the lowest, where it is given
abbrev pub part_bit : Part → ℕ → Option ℕ
part_bit (fixed bits width) place = Some (bits / 2 ^ place % 2)
part_bit (any width) place = None
part_bit (inner cons) place = None

abbrev pub parts_bit : Parts → ℕ → Option ℕ
parts_bit no_parts place = None
parts_bit (part p ps) place = if nat_lt place (parts_width ps) then parts_bit ps place else part_bit p (place - parts_width ps)

-- both are given, and they differ
abbrev pub differ : Option ℕ → Option ℕ → Bool
differ (Some a) (Some b) = not (a == b)
differ (Some a) None = false
differ None b = false

-- ---- worked

-- { 0b10, _ : uint 1 }
three_bits : (parts_bit (part (fixed 2 2) (part (any 1) no_parts)) 0 ≡ None) × (parts_bit (part (fixed 2 2) (part (any 1) no_parts)) 1 ≡ Some 0)
    × (parts_bit (part (fixed 2 2) (part (any 1) no_parts)) 2 ≡ Some 1)
three_bits = (refl, refl, refl)
