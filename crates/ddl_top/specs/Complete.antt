-- What a call answers where nothing fails outside.
use Rattle.std.specs.Prelude.{◌≡◌, ℕ, ◌^◌, ◌<◌, List, IsSome, MatchOption, Some}
use Rattle.ddl_outside.specs.Counts.{Rose}
use Rattle.ddl_outside.specs.Files.{FilesState}
use Rattle.ddl_outside.specs.Sink.{SinkState}
use Rattle.ddl_simple.specs.Modules.{Declared}
use Rattle.ddl_top.specs.Turns.{ComesTo, Specifies}
use Rattle.ddl_top.specs.Words.{Command, check_of, command_of, run_of, show_of}
use Rattle.ddl_top.specs.declared.status.Status.{Status}
use Rattle.ddl_top.specs.declared.status.Status.TheVariants as status_is

-- a file is there: it is held where that is told, and else no file was missing in this call
abbrev pub IsThere : FilesState → FilesState → List ℕ → Type 0
IsThere old new file = MatchOption new.held (¬ Rose old.misses new.misses) (λ files. IsSome (files file))

-- each file to which the words come is there
abbrev pub FilesAreThere : List (List ℕ) → FilesState → FilesState → Type 0
FilesAreThere words old new = (command : Command) (file : List ℕ) → command_of words ≡ Some command → ComesTo command new file → IsThere old new file

-- no call of the files and no write failed, and each file is there whose turn comes
pub record NothingFails (words : List (List ℕ)) (old new : FilesState) (out out' : SinkState) : Type 0 where
  pub reads : ¬ Rose old.faults new.faults
  pub writes : ¬ Rose out.faults out'.faults
  pub files : FilesAreThere words old new

-- a root has a specification that is accepted
abbrev pub HasSpecification : FilesState → List ℕ → Type 0
HasSpecification files root = (spec : Declared) × Specifies files root spec

-- of a run: where its specification is accepted, how the whole input is denoted, or that the input is too large; else a refusal
abbrev pub IsRunsOwn : List ℕ → List ℕ → FilesState → Status → Type 0
IsRunsOwn root input files status_is.Parses = HasSpecification files root
IsRunsOwn root input files status_is.NoParse = HasSpecification files root
IsRunsOwn root input files status_is.Fault = HasSpecification files root
IsRunsOwn root input files status_is.TooLarge = HasSpecification files root × ((n : ℕ) × (files.told input ≡ Some n) × (2 ^ 30 < n))
IsRunsOwn root input files status_is.Refused = Unit {0}
IsRunsOwn root input files status_is.NoMemory = Unit {0}
IsRunsOwn root input files _ = ⊥

-- of a check, and of a module that is shown: that it is well, or a refusal
abbrev pub IsRootsOwn : Status → Type 0
IsRootsOwn status_is.Parses = Unit {0}
IsRootsOwn status_is.Refused = Unit {0}
IsRootsOwn status_is.NoMemory = Unit {0}
IsRootsOwn _ = ⊥

-- of other words: that they are none
abbrev pub IsWordsOwn : Status → Type 0
IsWordsOwn status_is.Words = Unit {0}
IsWordsOwn status_is.NoMemory = Unit {0}
IsWordsOwn _ = ⊥

abbrev pub IsCommandsOwn : Command → FilesState → Status → Type 0
IsCommandsOwn (run_of root input) files status = IsRunsOwn root input files status
IsCommandsOwn (check_of root) files status = IsRootsOwn status
IsCommandsOwn (show_of root) files status = IsRootsOwn status

-- the answer has its cause in the words and in what the files hold, or memory ran out
abbrev pub IsOwnAnswer : List (List ℕ) → FilesState → Status → Type 0
IsOwnAnswer words files status = MatchOption (command_of words) (IsWordsOwn status) (λ command. IsCommandsOwn command files status)
