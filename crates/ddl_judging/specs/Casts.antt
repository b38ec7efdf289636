-- The table of casts, by types as they are solved.
use Rattle.std.specs.Prelude.{ℕ, ◌==◌, Bool, false}
use Rattle.ddl_types.specs.Types.{Ty, Ty.var, Ty.con, Head, Head.uint, Head.bits}
use Rattle.ddl_judging.specs.declared.casts.Casting as program
use Rattle.ddl_judging.specs.declared.casts.Casting.TheVariants as c
use Rattle.ddl_judging.specs.Judging.{Casting, keeps, loses, has_gap, if_equal, casting, has_bits, is_number}
use Rattle.ddl_judging.specs.Shapes.{Shapes, bits_at}

abbrev pub casting_view : program.Casting → Casting
casting_view c.Keeps = keeps
casting_view c.Loses = loses
casting_view (c.HasGap n) = has_gap n
casting_view c.IfEqual = if_equal

-- the table at a head and a type; nothing is said of a type that is not known
abbrev pub casting_to : Shapes → Head → Ty → Casting
casting_to ss h (var v) = if_equal
casting_to ss h (con k ts) = casting ss h k

abbrev pub casting_at : Shapes → Ty → Ty → Casting
casting_at ss (var v) t = if_equal
casting_at ss (con h us) t = casting_to ss h t

-- a type of numbers
abbrev pub number_type : Ty → Bool
number_type (var v) = false
number_type (con h ts) = is_number h

-- such a type, or a bitdata
abbrev pub bits_type : Ty → Bool
bits_type (var v) = false
bits_type (con h ts) = has_bits h

-- a bitdata of this width
abbrev pub is_wide : Shapes → ℕ → Ty → Bool
is_wide ss m (con (bits b) ts) = (bits_at ss.bitdata b).width == m
is_wide ss m t = false

-- a `uint`, and a bitdata of its width
abbrev pub is_filled : Shapes → Ty → Ty → Bool
is_filled ss (con (uint m) us) t = is_wide ss m t
is_filled ss s t = false
