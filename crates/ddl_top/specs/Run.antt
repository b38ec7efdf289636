-- What a call of the program may answer, what it then wrote, and what it read. The clauses of `run` are stated here.
use Rattle.std.specs.Prelude.{◌≡◌, ◌⊎◌, ℕ, ◌^◌, ◌<◌, ◌≤◌, List, [], ◌∷◌, ◌++◌, length, drop, flat_map, Option, Some, None, MatchOption, IfSome}
use Rattle.std.specs.List.{concat}
use Rattle.ddl_front.specs.Front.{AreBoundModules, IsRefused, TouchesModules}
use Rattle.ddl_front.specs.Reasons.{Reason}
use Rattle.ddl_modules.specs.Files.{module_name}
use Rattle.ddl_modules.specs.Reading.{TouchesOnlyThese}
use Rattle.ddl_outside.specs.Files.{FilesState, IsFile, IsAbsent, IsFailed, TouchesOnly}
use Rattle.ddl_outside.specs.Sink.{SinkState, Writes, WritesPart, OffersLines, OffersSome}
use Rattle.ddl_outside.specs.declared.refusal.Refusal.{Refusal}
use Rattle.ddl_report.specs.declared.closing.Closing.TheVariants as closing_is
use Rattle.ddl_show.specs.Show.{show_text}
use Rattle.ddl_simple.specs.Modules.{Declared, specified}
use Rattle.ddl_tree.specs.ModuleTree.{Module}
use Rattle.ddl_tree.specs.ViewModule.{module_view}
use Rattle.ddl_tree.specs.declared.decl.Decl.{Decl}
use Rattle.ddl_tree.specs.declared.module.SourceUnit.{SourceUnit}
use Rattle.ddl_typed.specs.Told.{IsAnswer, Told}
use Rattle.ddl_typed.specs.Tree.{alone}
use Rattle.ddl_top.specs.Answered.{answer_lines, closing_only, status_of}
use Rattle.ddl_top.specs.Loaded.{HasShownTree, IsUnshown}
use Rattle.ddl_top.specs.Refusals.{IsRefusalAnswer, reason_lines}
use Rattle.ddl_top.specs.Words.{Command, check_of, command_of, file_of, run_of, show_of}
use Rattle.ddl_top.specs.declared.status.Status.{Status}
use Rattle.ddl_top.specs.declared.status.Status.TheVariants as status_is

-- ---- specifications

-- what modules specify, where they are of a form that is run so far: the prelude, and a root of the form
abbrev pub specified_in : List SourceUnit → Option Declared
specified_in (prelude ∷ root ∷ []) = specified (module_view root.tree)
specified_in us = None

-- the modules of a root, which have these files, are accepted with this specification
abbrev pub IsAccepted : FilesState → List ℕ → List (List ℕ) → Declared → Type 0
IsAccepted files root names spec = (us : List SourceUnit) × AreBoundModules files root names us × (specified_in us ≡ Some spec)

-- its modules are loaded and their names are bound, and they are of no form that is run so far
abbrev pub IsUnbuilt : FilesState → List ℕ → Type 0
IsUnbuilt files root = (names : List (List ℕ)) × (us : List SourceUnit) × AreBoundModules files root names us × (specified_in us ≡ None)

-- why a root has no specification, as a call answers it
abbrev pub IsRefusedWith : List ℕ → FilesState → FilesState → Status → List (List ℕ) → Type 0
IsRefusedWith root old new status lines = (r : Refusal) × IsRefused old new root r × IsRefusalAnswer r status lines

-- the declarations of modules
abbrev pub all_decls : List SourceUnit → List Decl
all_decls us = flat_map (λ u. u.tree.decls.items) us

-- how many declarations modules have, those of the prelude not counted
abbrev pub declarations : List SourceUnit → ℕ
declarations us = length (all_decls (drop 1 us))

-- ---- runs

-- the accepted specification denotes this answer of the whole input, and it has this status and these lines
abbrev pub IsDenoted : List ℕ → List ℕ → FilesState → Status → List (List ℕ) → Type 0
IsDenoted root input files status lines =
    (names : List (List ℕ)) × (spec : Declared) × (content : List ℕ) × (told : Told)
    × IsAccepted files root names spec × IsFile files input content × (length content ≤ 2 ^ 30)
    × IsAnswer (alone spec.span spec.body) 0 content told × (status ≡ status_of told.closing) × (lines ≡ answer_lines (module_name root) told)

-- the specification is accepted, and the input's told length is above 2^30; no byte of the input was read
abbrev pub IsLarge : List ℕ → List ℕ → FilesState → FilesState → List (List ℕ) → Type 0
IsLarge root input old new lines =
    (names : List (List ℕ)) × (spec : Declared) × (n : ℕ) × IsAccepted new root names spec × (new.told input ≡ Some n) × (2 ^ 30 < n)
    × (new.reach input ≡ old.reach input) × (lines ≡ closing_only closing_is.Large)

-- the specification is accepted, and its input is not there, or a call of the files failed
abbrev pub IsWithoutInput : List ℕ → List ℕ → FilesState → FilesState → List (List ℕ) → Type 0
IsWithoutInput root input old new lines =
    (names : List (List ℕ)) × (spec : Declared) × IsAccepted new root names spec × IsAbsent old new input × (lines ≡ closing_only (closing_is.Missing input))

abbrev pub IsUnread : List ℕ → FilesState → FilesState → List (List ℕ) → Type 0
IsUnread root old new lines = (names : List (List ℕ)) × (spec : Declared) × IsAccepted new root names spec × IsFailed old new
    × (lines ≡ closing_only closing_is.Read)

-- what `run ROOT INPUT` answers, with which lines: each status that comes, and its cause
abbrev pub IsRunAnswer : List ℕ → List ℕ → FilesState → FilesState → Status → List (List ℕ) → Type 0
IsRunAnswer root input old new status_is.Parses lines = IsDenoted root input new status_is.Parses lines
IsRunAnswer root input old new status_is.NoParse lines = IsDenoted root input new status_is.NoParse lines
IsRunAnswer root input old new status_is.Fault lines = IsDenoted root input new status_is.Fault lines
IsRunAnswer root input old new status_is.Refused lines =
    TouchesModules old new root × (IsRefusedWith root old new status_is.Refused lines ⊎ (IsUnbuilt new root × (lines ≡ closing_only closing_is.Unbuilt)))
IsRunAnswer root input old new status_is.TooLarge lines = IsLarge root input old new lines
IsRunAnswer root input old new status_is.ReadFault lines = IsRefusedWith root old new status_is.ReadFault lines ⊎ IsUnread root old new lines
IsRunAnswer root input old new status_is.Missing lines = IsRefusedWith root old new status_is.Missing lines ⊎ IsWithoutInput root input old new lines
IsRunAnswer root input old new _ lines = ⊥

-- ---- checks and shows

-- what `check ROOT` answers: how many declarations its modules have, or why it is refused
abbrev pub IsCheckAnswer : List ℕ → FilesState → FilesState → Status → List (List ℕ) → Type 0
IsCheckAnswer root old new status_is.Parses lines =
    (names : List (List ℕ)) × (us : List SourceUnit) × AreBoundModules new root names us × (lines ≡ closing_only (closing_is.Declarations (declarations us)))
IsCheckAnswer root old new status_is.Refused lines = IsRefusedWith root old new status_is.Refused lines
IsCheckAnswer root old new status_is.ReadFault lines = IsRefusedWith root old new status_is.ReadFault lines
IsCheckAnswer root old new status_is.Missing lines = IsRefusedWith root old new status_is.Missing lines
IsCheckAnswer root old new _ lines = ⊥

-- what `show ROOT` answers: the text of the module's tree, or why there is none
abbrev pub IsShowAnswer : List ℕ → FilesState → FilesState → Status → List (List ℕ) → Type 0
IsShowAnswer root old new status_is.Parses lines = (tree : Module) × HasShownTree new (file_of root) tree × (lines ≡ show_text tree ∷ [])
IsShowAnswer root old new status_is.Refused lines = (r : Reason) × IsUnshown old new (file_of root) (module_name root) r × (lines ≡ reason_lines r)
IsShowAnswer root old new status_is.ReadFault lines = IsFailed old new × (lines ≡ closing_only closing_is.Read)
IsShowAnswer root old new status_is.Missing lines = IsAbsent old new (file_of root) × (lines ≡ closing_only (closing_is.Missing (file_of root)))
IsShowAnswer root old new _ lines = ⊥

-- ---- calls

-- what a command is answered
abbrev pub IsCommandAnswer : Command → FilesState → FilesState → Status → List (List ℕ) → Type 0
IsCommandAnswer (run_of root input) old new status lines = IsRunAnswer root input old new status lines
IsCommandAnswer (check_of root) old new status lines = IsCheckAnswer root old new status lines
IsCommandAnswer (show_of root) old new status lines = IsShowAnswer root old new status lines

-- what these words are answered, with which lines
abbrev pub IsWordsAnswer : List (List ℕ) → FilesState → FilesState → Status → List (List ℕ) → Type 0
IsWordsAnswer words old new status lines =
    MatchOption (command_of words)
    ((status ≡ status_is.Words) × (new ≡ old) × (lines ≡ closing_only closing_is.Words))
    (λ command. IsCommandAnswer command old new status lines)

-- What a call answers, and the bytes by which what was written grew: the lines of its answer, each by one write with its
-- newline, and by further ones for its rest. Where a write failed, only a first part of the lines of some answer, which comes
-- only where a room that is told is too small for them; where memory ran out, none.
abbrev pub IsRun : List (List ℕ) → FilesState → FilesState → SinkState → SinkState → Status → Type 0
IsRun words old new out out' status_is.WriteFault =
    (status : Status) × (lines : List (List ℕ))
    × IsWordsAnswer words old new status lines × WritesPart out out' (concat lines) × IfSome out.room (λ n. n < length (concat lines))
    × OffersSome out out' lines
IsRun words old new out out' status_is.NoMemory = out' ≡ out
IsRun words old new out out' status =
    (lines : List (List ℕ)) × IsWordsAnswer words old new status lines × Writes out out' (concat lines) × OffersLines out out' lines

-- nothing was touched but the files of modules, or the specification is accepted, and nothing was touched but its files and the input
abbrev pub RunsInOrder : List ℕ → List ℕ → FilesState → FilesState → Type 0
RunsInOrder root input old new =
    TouchesModules old new root
    ⊎ ((names : List (List ℕ)) × (spec : Declared) × IsAccepted new root names spec × TouchesOnlyThese (names ++ input ∷ []) old new)

-- what a command lets a call touch
abbrev pub CommandTouches : Command → FilesState → FilesState → Type 0
CommandTouches (run_of root input) old new = RunsInOrder root input old new
CommandTouches (check_of root) old new = TouchesModules old new root
CommandTouches (show_of root) old new = TouchesOnly (file_of root) old new

-- what these words let a call touch
abbrev pub TouchesInOrder : List (List ℕ) → FilesState → FilesState → Type 0
TouchesInOrder words old new = MatchOption (command_of words) (new ≡ old) (λ command. CommandTouches command old new)
