-- Casts.
use Rattle.std.specs.Prelude.{ℕ, ◌==◌, pos, Bool, true, false, List, Option, Some, None}
use Rattle.ddl_base.specs.declared.span.Span.{Span}
use Rattle.ddl_base.specs.declared.why.Why.TheVariants.{Fits}
use Rattle.ddl_types.specs.declared.num.Num.{Num}
use Rattle.ddl_types.specs.declared.num.NumType.{NumType}
use Rattle.ddl_types.specs.declared.num.NumType.TheVariants.{Int, Uint, Sint}
use Rattle.ddl_types.specs.Layout.{Layout, width, fits}
use Rattle.ddl_types.specs.Num.{whole}
use Rattle.ddl_types.specs.Types.{Ty, var, con, int, uint, sint}
use Rattle.ddl_types.specs.Types as t
use Rattle.ddl_types.specs.Value.{Value, Stream, number, bitdata}
use Rattle.ddl_types.specs.Outcome.{Outcome, Stuck, ends, parsed}
use Rattle.ddl_arith.specs.Exact.{kept, cut_of}
use Rattle.ddl_ops.specs.declared.operators.Cast.{Cast}
use Rattle.ddl_ops.specs.declared.operators.Cast.TheVariants.{Keep, Cut}
use Rattle.ddl_ops.specs.Valued.{Valued, gives, stuck}
use Rattle.ddl_ops.specs.Bitdata.{layout_at}
use Rattle.ddl_ops.specs.Primitives.{missed_at}

-- a value is one of another type, or it does not fit there, or there is no such cast
pub data Fit : Type 0 where
  fitting : Value → Fit
  unfit : Fit
  no_cast : Fit

-- a number kept at a type
abbrev pub fit_of : NumType → Option Num → Fit
fit_of to (Some n) = fitting (number to (whole n))
fit_of to None = unfit

-- a value as a number of a type
abbrev pub fit_number : NumType → Value → Fit
fit_number to (number ty z) = fit_of to (kept to z)
fit_number to (bitdata l n) = fit_of to (kept to (pos n))
fit_number to v = no_cast

-- a number as one that fits a layout, by two tests: that it has its width, and that it fits
abbrev pub fit_bits : Layout → ℕ → Bool → Bool → Fit
fit_bits l n true true = fitting (bitdata l n)
fit_bits l n true false = unfit
fit_bits l n false ok = no_cast

-- a value as a bitdata: a number of its width that fits the layout
abbrev pub fit_layout : Layout → Value → Fit
fit_layout l (number (Uint w) (pos n)) = fit_bits l n (w == width l) (fits l n)
fit_layout l (bitdata other n) = fitting (bitdata other n)
fit_layout l v = no_cast

-- what a cast leads to: numbers, a bitdata, the same type, or nothing, since the type is not known
pub data Target : Type 0 where
  to_number : NumType → Target
  to_bits : Layout → Target
  to_same : Target
  to_none : Target

abbrev pub bits_target : Option Layout → Target
bits_target (Some l) = to_bits l
bits_target None = to_none

-- the target of a type without variables
abbrev pub target : List Layout → Ty → Target
target ls (var x) = to_none
target ls (con int ts) = to_number Int
target ls (con (uint w) ts) = to_number (Uint w)
target ls (con (sint w) ts) = to_number (Sint w)
target ls (con (t.bits m) ts) = bits_target (layout_at ls m)
target ls (con h ts) = to_same

-- a value as one of a target
abbrev pub fit : Target → Value → Fit
fit (to_number to) v = fit_number to v
fit (to_bits l) v = fit_layout l v
fit to_same v = fitting v
fit to_none v = no_cast

-- a number with the bits that a type of numbers leaves
abbrev pub cut : Target → Value → Valued
cut (to_number to) (number ty z) = gives (number to (whole (cut_of to z)))
cut (to_number to) (bitdata l n) = gives (number to (whole (cut_of to (pos n))))
cut to v = stuck

-- `as`: what fits
abbrev pub kept_value : Fit → Valued
kept_value (fitting v) = gives v
kept_value unfit = stuck
kept_value no_cast = stuck

-- `as` and `as!`
abbrev pub cast_value : Cast → Target → Value → Valued
cast_value Keep to v = kept_value (fit to v)
cast_value Cut to v = cut to v

-- `as?` of a value: it fails where the value does not fit
abbrev pub fitted : Fit → Span → Stream → Outcome
fitted (fitting v) span s = parsed v s
fitted unfit span s = missed_at Fits s span
fitted no_cast span s = ends Stuck
