-- What the writing of a whole piece, and of lines, answers.
use Rattle.std.specs.Prelude.{List, ℕ, ◌<◌, length}
use Rattle.std.specs.List.{concat}
use Rattle.ddl_outside.specs.Sink.{SinkState, Writes, WritesPart, OffersPiece, OffersLines, OffersSome}
use Rattle.ddl_outside.specs.declared.writing.Written.{Written}
use Rattle.ddl_outside.specs.declared.writing.Written.TheVariants as written_of

-- what `write_whole` answers for a piece, which is offered whole, and then as what is left of it
abbrev pub IsWrite : SinkState → SinkState → List ℕ → Written → Type 0
IsWrite old new piece written_of.Whole = Writes old new piece × OffersPiece old new (length piece) 0
IsWrite old new piece written_of.Failed = WritesPart old new piece × ((left : ℕ) × (0 < left) × OffersPiece old new (length piece) left)

-- what `write_lines` answers for lines, each of which is written so
abbrev pub IsWriteLines : SinkState → SinkState → List (List ℕ) → Written → Type 0
IsWriteLines old new lines written_of.Whole = Writes old new (concat lines) × OffersLines old new lines
IsWriteLines old new lines written_of.Failed = WritesPart old new (concat lines) × OffersSome old new lines
