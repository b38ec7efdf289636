-- A biased choice with what follows its left side.
use Rattle.std.specs.Prelude.{◌≡◌}
use Rattle.ddl_types.specs.Value.{Value, Stream}
use Rattle.ddl_types.specs.Outcome.{Outcome, End, Faulted, Deep, Stuck, ends, tick, miss, parse}
use Rattle.ddl_types.specs.Joining.{Bind}

-- the rest on each parse of the first, and the second only where the first has neither a parse nor an ending other than End
abbrev pub Attempt : Outcome → (Value → Stream → Outcome) → Outcome → Outcome
Attempt (ends End) rest p = p
Attempt (ends (Faulted fault span)) rest p = ends (Faulted fault span)
Attempt (ends Deep) rest p = ends Deep
Attempt (ends Stuck) rest p = ends Stuck
Attempt (tick o) rest p = tick (Attempt o rest p)
Attempt (miss why source at span o) rest p = miss why source at span (Attempt o rest p)
Attempt (parse v s o) rest p = Bind (parse v s o) rest

-- an outcome with at most one parse, as its last event
abbrev pub Single : Outcome → Type 0
Single (ends e) = Unit {0}
Single (tick o) = Single o
Single (miss why source at span o) = Single o
Single (parse v s o) = o ≡ ends End

-- the ticks and failures of an outcome, and then a tick and the rest at its first parse, or the second outcome at its end
abbrev pub then_or : Outcome → (Value → Stream → Outcome) → Outcome → Outcome
then_or (ends End) rest p = p
then_or (ends (Faulted fault span)) rest p = ends (Faulted fault span)
then_or (ends Deep) rest p = ends Deep
then_or (ends Stuck) rest p = ends Stuck
then_or (tick o) rest p = tick (then_or o rest p)
then_or (miss why source at span o) rest p = miss why source at span (then_or o rest p)
then_or (parse v s o) rest p = tick (rest v s)
