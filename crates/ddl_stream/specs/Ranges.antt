-- Streams of the machine as ranges of bytes, and what the language makes of them.
use Rattle.std.specs.Prelude.{◌≡◌, ℕ, List, Bool, Option, Some, None, if◌then◌else◌}
use Rattle.ddl_base.specs.declared.span.Span.{Span}
use Rattle.ddl_base.specs.declared.why.Why.{Why}
use Rattle.ddl_base.specs.declared.why.Why.TheVariants.{End}
use Rattle.ddl_types.specs.Value.{Source, unit, stream}
use Rattle.ddl_types.specs.Value as values
use Rattle.ddl_types.specs.Outcome.{Outcome, parsed}
use Rattle.ddl_ops.specs.Primitives.{missed_at, at_end}
use Rattle.ddl_ops.specs.Builtins.{part_of}
use Rattle.ddl_slots.specs.declared.word.Stream.{Stream}

-- the stream over these bytes that a range is
abbrev pub over : List ℕ → Source → Stream → values.Stream
over bs source s = record { bytes = bs; source = source; from = s.from; to = s.to }

-- what an answer stands for at a stream: a parse of the part, or a failure
abbrev pub answered : Option Stream → List ℕ → Source → Why → Span → values.Stream → Outcome
answered (Some part) bs source why span at = parsed (stream (over bs source part)) at
answered None bs source why span at = missed_at why at span

-- the answer is the language's part of n bytes, whatever the bytes are
abbrev pub IsPart : (ℕ → values.Stream → values.Stream) → ℕ → Stream → Option Stream → Type 0
IsPart part n s answer = (bs : List ℕ) (source : Source) (why : Why) (span : Span) (at : values.Stream)
    → part_of n (over bs source s) (part n (over bs source s)) why span at ≡ answered answer bs source why span at

-- the answer tells whether the language's `END` gives a parse, whatever the bytes are
abbrev pub IsEnd : Stream → Bool → Type 0
IsEnd s answer = (bs : List ℕ) (source : Source) (span : Span)
    → at_end span (over bs source s) ≡ (if answer then parsed unit (over bs source s) else missed_at End (over bs source s) span)
