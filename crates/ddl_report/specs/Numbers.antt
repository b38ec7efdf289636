-- Whole numbers in a line.
use Rattle.std.specs.Prelude.{ℕ, ℤ, pos, negsuc, if◌then◌else◌, codes}
use Rattle.std.specs.Fmt.{signed_decimal}
use Rattle.serde_json.specs.Data.{Num, Data, number, unsigned, negative, string, object, member, no_members}
use Rattle.ddl_types.specs.Plain.{is_small}

abbrev pub natural : ℕ → Data
natural n = number (unsigned n)

abbrev pub number_of : ℤ → Num
number_of (pos n) = unsigned n
number_of (negsuc n) = negative (negsuc n)

-- a number from -2^63 to 2^64-1 as itself, and else by its digits
abbrev pub integer_data : ℤ → Data
integer_data z = if is_small z then number (number_of z) else object (member (codes "$int") (string (signed_decimal z)) no_members)
