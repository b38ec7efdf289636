-- Numbers at their types.
use Rattle.std.specs.Prelude.{ℕ, ◌+◌, ◌*◌, ◌%◌, ◌^◌, ◌-◌, ◌==◌, ◌&&◌, nat_le, Bool, true, false, if◌then◌else◌, pos, Option, Some, None, Result, Ok, Err}
use Rattle.ddl_base.specs.declared.span.Span.{Span}
use Rattle.ddl_types.specs.declared.fault.Fault.{Fault}
use Rattle.ddl_types.specs.declared.num.Num.{Num}
use Rattle.ddl_types.specs.declared.num.NumType.{NumType}
use Rattle.ddl_types.specs.declared.num.NumType.TheVariants as Ty
use Rattle.ddl_types.specs.Num.{whole}
use Rattle.ddl_types.specs.Types as t
use Rattle.ddl_types.specs.Value.{Value, number}
use Rattle.ddl_arith.specs.declared.operation.Op.{Op}
use Rattle.ddl_arith.specs.declared.operation.Op.TheVariants.{Sub}
use Rattle.ddl_arith.specs.Exact.{op_of, has_op, right_type}
use Rattle.ddl_ops.specs.Valued.{Given, Valued, gives, fails, stuck}

-- the type of numbers that a type is
abbrev pub number_type : t.Ty → Option NumType
number_type (t.con t.int ts) = Some Ty.Int
number_type (t.con (t.uint width) ts) = Some (Ty.Uint width)
number_type (t.con (t.sint width) ts) = Some (Ty.Sint width)
number_type ty = None

-- types of numbers are equal
abbrev pub same_type : NumType → NumType → Bool
same_type Ty.Int Ty.Int = true
same_type (Ty.Uint m) (Ty.Uint n) = m == n
same_type (Ty.Sint m) (Ty.Sint n) = m == n
same_type s t = false

-- a number that is written out, at a type
abbrev pub number_at : ℕ → Option NumType → Valued
number_at n (Some ty) = gives (number ty (pos n))
number_at n None = stuck

-- a length, a position or an offset as a value: a `uint 64`, modulo 2^64
abbrev pub count_value : ℕ → Value
count_value n = number (Ty.Uint 64) (pos (n % 2 ^ 64))

-- the count that a value is
abbrev pub count_of : Value → Given ℕ
count_of (number (Ty.Uint width) (pos n)) = gives n
count_of v = stuck

-- the number of an operation, or its fault at a span
abbrev pub settled_at : NumType → Span → Result Num Fault → Valued
settled_at ty span (Ok n) = gives (number ty (whole n))
settled_at ty span (Err fault) = fails fault span

-- an operation on two numbers: the right one is of the type of the left one, for a shift a `uint 64`
abbrev pub arithmetic_value : Op → Span → Value → Value → Valued
arithmetic_value op span (number s x) (number t y) =
    if same_type t (right_type op s) && has_op s op then settled_at s span (op_of op s x y) else stuck
arithmetic_value op span v w = stuck

-- `- e` is `0 - e`
abbrev pub negated : Span → Value → Valued
negated span (number ty z) = settled_at ty span (op_of Sub ty (pos 0) z)
negated span v = stuck

-- `~ e`: each bit the other one
abbrev pub complement_of : Value → Valued
complement_of (number (Ty.Uint width) (pos n)) = gives (number (Ty.Uint width) (pos (2 ^ width - 1 - n)))
complement_of v = stuck

-- `a # b`: the bits of b after those of a
abbrev pub bits_beside : Value → Value → Valued
bits_beside (number (Ty.Uint m) (pos x)) (number (Ty.Uint n) (pos y)) =
    if nat_le (m + n) 128 then gives (number (Ty.Uint (m + n)) (pos (x * 2 ^ n + y))) else stuck
bits_beside v w = stuck

-- `a <# b`: the same modulo 2^width of a
abbrev pub bits_appended : Value → Value → Valued
bits_appended (number (Ty.Uint m) (pos x)) (number (Ty.Uint n) (pos y)) = gives (number (Ty.Uint m) (pos ((x * 2 ^ n + y) % 2 ^ m)))
bits_appended v w = stuck
