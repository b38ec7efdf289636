-- Worked rows of the best failure and of the answer.
use Rattle.std.proofs.Common.{◌≡◌, ℕ, [], ◌∷◌, refl, Some, None}
use Rattle.ddl_base.specs.declared.span.Span.{Span}
use Rattle.ddl_base.specs.declared.why.Why.{Why}
use Rattle.ddl_base.specs.declared.why.Why.TheVariants.{Byte, End, Class}
use Rattle.ddl_types.specs.declared.fault.Fault.TheVariants.{DivZero}
use Rattle.ddl_types.specs.Value.{Source, in_input, in_array, unit, Stream}
use Rattle.ddl_types.specs.Outcome as o
use Rattle.ddl_types.specs.Outcome.{Failure, Outcome, ends, tick, miss, parse, missed, parsed}
use Rattle.ddl_types.specs.BestFailure.{best_failure}
use Rattle.ddl_types.specs.Answer.{answer_of, counted, faulted}

abbrev span : Span
span = record { «module» = 0; from = 3; to = 5 }

abbrev failure : Why → Source → ℕ → Failure
failure why source at = record { why = why; source = source; at = at; span = span }

abbrev then_miss : Why → Source → ℕ → Outcome → Outcome
then_miss why source at p = miss why source at span p

-- the first of two at the greatest offset in the input, whatever comes later or stands in an array
first_on_a_tie : best_failure (then_miss Byte in_input 2
    (then_miss End in_input 4 (tick (then_miss Class in_input 4 (then_miss Byte in_array 9 (then_miss Byte in_input 0 (ends o.End)))))))
    ≡ Some (failure End in_input 4)
first_on_a_tie = refl

-- the last of all where none is in the input
last_in_an_array : best_failure (then_miss End in_array 4 (then_miss Byte in_array 1 (ends o.End))) ≡ Some (failure Byte in_array 1)
last_in_an_array = refl

abbrev at_end : Stream
at_end = record { bytes = []; source = in_input; from = 0; to = 0 }

-- with a parse the closing is the number of parses
one_parse : answer_of (then_miss Byte in_input 0 (parsed unit at_end))
    ≡ Some (record { parses = record { value = unit; rest = at_end } ∷ []; closing = counted 1 })
one_parse = refl

-- a fault closes, also after a parse
fault_closes : answer_of (parse unit at_end (ends (o.Faulted DivZero span)))
    ≡ Some (record { parses = record { value = unit; rest = at_end } ∷ []; closing = faulted DivZero span })
fault_closes = refl

-- there is no answer where the depth ended
deep_has_none : answer_of (parse unit at_end (ends o.Deep)) ≡ None
deep_has_none = refl
