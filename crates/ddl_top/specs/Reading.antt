-- What the private calls of a call of the program give.
use Rattle.std.specs.Prelude.{◌≡◌, ◌⊎◌, ℕ, List, [], ◌∷◌, Option, Some, None}
use Rattle.ddl_front.specs.Reasons.{reason_view}
use Rattle.ddl_outside.specs.Files.{FilesState, IsAbsent, IsFailed, TouchesOnly}
use Rattle.ddl_report.specs.declared.closing.Closing.TheVariants as closing_is
use Rattle.ddl_tree.specs.ViewModule.{module_view}
use Rattle.ddl_tree.specs.declared.module.SourceUnit.{SourceUnit}
use Rattle.ddl_typed.specs.Told.{IsAnswer, Told}
use Rattle.ddl_simple.specs.Modules.{Declared}
use Rattle.ddl_typed.specs.Tree.{alone}
use Rattle.ddl_top.specs.Answered.{answer_lines, closing_only, status_of}
use Rattle.ddl_top.specs.Loaded.{HasShownTree, IsUnshown}
use Rattle.ddl_top.specs.Run.{IsDenoted, IsLarge, IsUnbuilt, IsUnread, IsWithoutInput, specified_in}
use Rattle.ddl_top.specs.Words.{Command, check_of, run_of, show_of}
use Rattle.ddl_top.specs.declared.loading.Loaded.{Loaded}
use Rattle.ddl_top.specs.declared.loading.Loaded.TheVariants as loaded_is
use Rattle.ddl_top.specs.declared.names.Words as code_words
use Rattle.ddl_top.specs.declared.names.Words.TheVariants as words_is
use Rattle.ddl_top.specs.declared.status.Status.{Status}
use Rattle.ddl_top.specs.declared.status.Status.TheVariants as status_is

-- the command that the words of the code are
abbrev pub command_view : code_words.Words → Command
command_view (words_is.Run root input) = run_of root.now input.now
command_view (words_is.Check root) = check_of root.now
command_view (words_is.Show root) = show_of root.now

-- what the loading of a module's file gives
abbrev pub IsLoaded : FilesState → FilesState → List ℕ → List ℕ → Loaded → Type 0
IsLoaded old new file name (loaded_is.Tree tree) = HasShownTree new file (module_view tree)
IsLoaded old new file name (loaded_is.Refused told) = IsUnshown old new file name (reason_view told)
IsLoaded old new file name loaded_is.Absent = IsAbsent old new file
IsLoaded old new file name loaded_is.Failed = IsFailed old new

-- what a specification denotes of these bytes, with its status and its lines
abbrev pub IsAnswered : List ℕ → Declared → List ℕ → Status → List (List ℕ) → Type 0
IsAnswered name spec content status lines =
    (told : Told) × IsAnswer (alone spec.span spec.body) 0 content told × (status ≡ status_of told.closing) × (lines ≡ answer_lines name told)

-- what an accepted specification answers, once its input's turn came
abbrev pub IsInputAnswer : List ℕ → List ℕ → FilesState → FilesState → Status → List (List ℕ) → Type 0
IsInputAnswer root input old new status_is.Parses lines = IsDenoted root input new status_is.Parses lines
IsInputAnswer root input old new status_is.NoParse lines = IsDenoted root input new status_is.NoParse lines
IsInputAnswer root input old new status_is.Fault lines = IsDenoted root input new status_is.Fault lines
IsInputAnswer root input old new status_is.TooLarge lines = IsLarge root input old new lines
IsInputAnswer root input old new status_is.ReadFault lines = IsUnread root old new lines
IsInputAnswer root input old new status_is.Missing lines = IsWithoutInput root input old new lines
IsInputAnswer root input old new _ lines = ⊥

-- what modules whose names are bound answer
abbrev pub IsUnitsAnswer : List ℕ → List ℕ → FilesState → FilesState → Status → List (List ℕ) → Type 0
IsUnitsAnswer root input old new status_is.Refused lines = IsUnbuilt new root × (lines ≡ closing_only closing_is.Unbuilt) × (new ≡ old)
IsUnitsAnswer root input old new status lines = IsInputAnswer root input old new status lines

-- nothing was touched, or the modules specify something and nothing but the input was touched
abbrev pub TouchesInput : List SourceUnit → List ℕ → FilesState → FilesState → Type 0
TouchesInput us input old new = (new ≡ old) ⊎ ((spec : Declared) × (specified_in us ≡ Some spec) × TouchesOnly input old new)
