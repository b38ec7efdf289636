-- What a call of the program answers is one thing, where it is told what files hold.
use Rattle.std.specs.Prelude.{◌≡◌, ℕ, List}
use Rattle.ddl_outside.specs.Files.{Contents, FilesState}
use Rattle.ddl_outside.specs.Sink.{SinkState, Writes}
use Rattle.ddl_top.specs.Run.{IsRun, IsWordsAnswer}
use Rattle.ddl_top.specs.declared.status.Status.{Status}
use Rattle.ddl_top.specs.declared.status.Status.TheVariants as status_is
use Rattle.ddl_exact_runs.specs.Known.{IsKnown}

-- a status that has its cause in the words and the files: no call of the files and no write failed, and memory did not run out
abbrev pub IsInside : Status → Type 0
IsInside status_is.ReadFault = ⊥
IsInside status_is.WriteFault = ⊥
IsInside status_is.NoMemory = ⊥
IsInside _ = Unit {0}

-- the same words, where files hold the same, have one answer: one status and one list of lines
abbrev pub OneAnswer : Type 0
OneAnswer = (contents : Contents) (words : List (List ℕ)) (old new old' new' : FilesState) (a b : Status) (lines more : List (List ℕ))
    → IsKnown contents new → IsKnown contents new' → IsInside a → IsInside b
    → IsWordsAnswer words old new a lines → IsWordsAnswer words old' new' b more → (a ≡ b) × (lines ≡ more)

-- two calls with the same words, where files hold the same, end with one status and write the same bytes
abbrev pub OneRun : Type 0
OneRun = (contents : Contents) (words : List (List ℕ)) (old new old' new' : FilesState) (out to out' to' : SinkState) (a b : Status)
    → IsKnown contents new → IsKnown contents new' → IsInside a → IsInside b
    → IsRun words old new out to a → IsRun words old' new' out' to' b
    → (a ≡ b) × (bytes : List ℕ) × Writes out to bytes × Writes out' to' bytes
