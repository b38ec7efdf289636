-- Files that agree with an input.
use Rattle.ddl_outside.proofs.FilesLemmas.{IsFile-later}
use Rattle.ddl_stream.specs.Laws.{AgreesLater}

pub agrees_later : AgreesLater
agrees_later old new input later agrees = IsFile-later old new input.name input.bytes later agrees
