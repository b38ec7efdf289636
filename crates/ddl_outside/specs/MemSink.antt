-- What contracts see of the sink in memory.
use Rattle.std.specs.Prelude.{◌≡◌, ℕ, List, [], Some, None, Bool, true, if◌then◌else◌, ◌==◌}
use Rattle.std.specs.List.{list_any}
use Rattle.ddl_outside.specs.Counts.{one_more}
use Rattle.ddl_outside.specs.MemFiles.{some_failing}
use Rattle.ddl_outside.specs.Sink.{SinkState}
use Rattle.ddl_outside.specs.declared.sink.Offer.{Offer}
use Rattle.ddl_outside.specs.declared.sink.Took.{Took}
use Rattle.ddl_outside.specs.declared.sink.Took.TheVariants as took_of

-- the bytes so far, the writes that took them, how many more there is room for, the numbers of the calls that fail, and how
-- many calls there were
pub record MemSinkState : Type 0 where
  pub bytes : List ℕ
  pub offers : List Offer
  pub room : ℕ
  pub failing : List ℕ
  pub calls : ℕ
  pub faults : ℕ

abbrev pub empty_sink : ℕ → MemSinkState
empty_sink room = record { bytes = []; offers = []; room = room; failing = []; calls = 0; faults = 0 }

-- the room is told where no call is to fail
abbrev pub sink_state : MemSinkState → SinkState
sink_state s =
    record {
      wrote = Some s.bytes;
      offers = Some s.offers;
      room = (if some_failing s.failing then None else Some s.room);
      faults = s.faults;
    }

-- the call fails, by its number
abbrev pub sink_fails : MemSinkState → Bool
sink_fails s = list_any (λ call. call == s.calls) s.failing

-- one call more
abbrev pub sink_counted : MemSinkState → MemSinkState
sink_counted s = record s { calls = one_more s.calls }

-- the write that is to fail fails
abbrev pub FailsAsNamed : MemSinkState → Took → Type 0
FailsAsNamed s took = sink_fails (sink_counted s) ≡ true → took ≡ took_of.Failed

-- a write was counted, and the same writes are to fail
abbrev pub IsCounted : MemSinkState → MemSinkState → Type 0
IsCounted old new = (new.calls ≡ one_more old.calls) × (new.failing ≡ old.failing)
