-- The answer that a value of the program stands for.
use Rattle.std.specs.Prelude.{◌≡◌, List, length, map, Bool, true, false}
use Rattle.ddl_base.specs.declared.why.Why.{Why}
use Rattle.ddl_base.specs.declared.why.Why.TheVariants.{Said}
use Rattle.ddl_types.specs.Value.{Source, in_input, in_array}
use Rattle.ddl_types.specs.Outcome as o
use Rattle.ddl_types.specs.Answer.{Closing, counted, failed, faulted}
use Rattle.ddl_types.specs.PlainView.{plain_view}
use Rattle.ddl_typed.specs.Told.{Told, Shown}
use Rattle.ddl_typed.specs.declared.answer.Answer.{Answer}
use Rattle.ddl_typed.specs.declared.answer.Parse.{Parse}
use Rattle.ddl_typed.specs.declared.answer.Close.{Close}
use Rattle.ddl_typed.specs.declared.answer.Close.TheVariants.{Parses, Failed, Faulted}
use Rattle.ddl_typed.specs.declared.answer.Failure.{Failure}

abbrev pub source_of : Bool → Source
source_of true = in_input
source_of false = in_array

abbrev pub failure_view : Failure → o.Failure
failure_view f = record { why = f.why; source = source_of f.in_input; at = f.at; span = f.span }

abbrev pub shown_view : Parse → Shown
shown_view p = record { value = plain_view p.value; source = source_of p.in_input; end = p.end }

-- the number of parses is not kept beside them
abbrev pub closing_view : List Parse → Close → Closing
closing_view ps Parses = counted (length ps)
closing_view ps (Failed f) = failed (failure_view f)
closing_view ps (Faulted fault span) = faulted fault span

abbrev pub answer_view : Answer → Told
answer_view a = record { parses = map shown_view a.parses.items; closing = closing_view a.parses.items a.closing }

-- the cause is the text of a `Fail`
abbrev pub is_said : Why → Bool
is_said (Said text) = true
is_said why = false

-- the closing is no failure by the text of a `Fail`
abbrev pub IsUnsaid : Close → Type 0
IsUnsaid (Failed f) = is_said f.why ≡ false
IsUnsaid _ = Unit {0}
