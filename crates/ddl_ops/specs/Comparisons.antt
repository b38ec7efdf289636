-- The order of keys.
use Rattle.std.specs.Prelude.{Bool, if◌then◌else◌, Option, Some, None}
use Rattle.std.specs.declared.cmp.Ordering.{Ordering}
use Rattle.std.specs.declared.cmp.Ordering.TheVariants.{Less, Equal, Greater}
use Rattle.std.specs.Ordering.{int_cmp, bool_cmp, is_eq, is_ne, is_lt, is_le, is_gt, is_ge, partial_ordering_then}
use Rattle.ddl_types.specs.Value.{Value, Values, number, boolean, array, no_values, value}
use Rattle.ddl_ops.specs.declared.operators.Comparison.{Comparison}
use Rattle.ddl_ops.specs.declared.operators.Comparison.TheVariants as c
use Rattle.ddl_ops.specs.Valued.{Valued, gives, stuck}
use Rattle.ddl_ops.specs.Numbers.{same_type}

-- numbers of one type by size; there is no order of others
abbrev pub number_order : Value → Value → Option Ordering
number_order (number s x) (number t y) = if same_type s t then Some (int_cmp x y) else None
number_order v w = None

-- arrays of bytes by their first bytes that differ, a proper prefix first
abbrev pub bytes_order : Values → Values → Option Ordering
bytes_order no_values no_values = Some Equal
bytes_order no_values (value w ws) = Some Less
bytes_order (value v vs) no_values = Some Greater
bytes_order (value v vs) (value w ws) = partial_ordering_then (number_order v w) (bytes_order vs ws)

-- the order of two keys of one type: numbers by size, `false` before `true`, arrays of bytes byte by byte
abbrev pub key_order : Value → Value → Option Ordering
key_order (number s x) (number t y) = number_order (number s x) (number t y)
key_order (boolean a) (boolean b) = Some (bool_cmp a b)
key_order (array vs) (array ws) = bytes_order vs ws
key_order v w = None

-- what a comparison says of an order
abbrev pub holds : Comparison → Ordering → Bool
holds c.Equal o = is_eq o
holds c.Unequal o = is_ne o
holds c.Less o = is_lt o
holds c.AtMost o = is_le o
holds c.Greater o = is_gt o
holds c.AtLeast o = is_ge o

-- the answer of a comparison
abbrev pub compared : Comparison → Option Ordering → Valued
compared test (Some o) = gives (boolean (holds test o))
compared test None = stuck
