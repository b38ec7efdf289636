-- What a value form gives.
use Rattle.std.specs.Prelude.{Option, Some, None}
use Rattle.ddl_base.specs.declared.span.Span.{Span}
use Rattle.ddl_types.specs.declared.fault.Fault.{Fault}
use Rattle.ddl_types.specs.Value.{Value}
use Rattle.ddl_types.specs.Outcome.{Outcome, Faulted, Deep, Stuck, ends, tick}

-- some ticks, and then a result, a fault with its span, the end of the depth, or no meaning
pub data Given (A : Type 0) : Type 0 where
  gives : A → Given A
  fails : Fault → Span → Given A
  deep : Given A
  stuck : Given A
  counts : Given A → Given A

-- what a value form gives
abbrev pub Valued : Type 0
Valued = Given Value

-- the ticks and the result of a part, and then what its result gives
abbrev pub then_value : {A B : Type 0} → Given A → (A → Given B) → Given B
then_value (gives v) rest = rest v
then_value (fails fault span) rest = fails fault span
then_value deep rest = deep
then_value stuck rest = stuck
then_value (counts o) rest = counts (then_value o rest)

-- the same of a grammar form with a value part: its fault or its depth is the ending
abbrev pub then_parse : {A : Type 0} → Given A → (A → Outcome) → Outcome
then_parse (gives v) rest = rest v
then_parse (fails fault span) rest = ends (Faulted fault span)
then_parse deep rest = ends Deep
then_parse stuck rest = ends Stuck
then_parse (counts o) rest = tick (then_parse o rest)

-- what must be there
abbrev pub given : {A : Type 0} → Option A → Given A
given (Some v) = gives v
given None = stuck
