-- The law of files that agree with an input.
use Rattle.ddl_outside.specs.Files.{FilesState, Later}
use Rattle.ddl_stream.specs.Input.{Kept, Agrees}

-- files that agree with an input still do later, whatever was asked of them
abbrev pub AgreesLater : Type 0
AgreesLater = (old new : FilesState) (input : Kept) → Later old new → Agrees old input → Agrees new input
