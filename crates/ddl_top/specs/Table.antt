-- The table of calls: each status, and where it comes. The definitions that it names stand in the other files.
use Rattle.std.specs.Prelude.{◌≡◌, ℕ, ◌^◌, ◌<◌, ◌≤◌, List, [], ◌∷◌, length, Some, None}
use Rattle.std.specs.List.{concat}
use Rattle.ddl_front.specs.Reasons.{Reason}
use Rattle.ddl_modules.specs.Files.{module_name}
use Rattle.ddl_outside.specs.Files.{FilesState, IsAbsent, IsFailed, IsFile}
use Rattle.ddl_outside.specs.Sink.{OffersLines, OffersSome, SinkState, Writes, WritesPart}
use Rattle.ddl_report.specs.declared.closing.Closing.TheVariants as closing_is
use Rattle.ddl_show.specs.Show.{show_text}
use Rattle.ddl_simple.specs.Modules.{Declared}
use Rattle.ddl_tree.specs.ModuleTree.{Module}
use Rattle.ddl_tree.specs.declared.module.SourceUnit.{SourceUnit}
use Rattle.ddl_typed.specs.Told.{IsAnswer, Told}
use Rattle.ddl_typed.specs.Tree.{alone}
use Rattle.ddl_top.specs.Answered.{answer_lines, closing_only, status_of}
use Rattle.ddl_top.specs.Loaded.{HasShownTree, IsUnshown}
use Rattle.ddl_top.specs.Refusals.{reason_lines}
use Rattle.ddl_top.specs.Run.{IsRefusedWith, IsRun, IsUnbuilt, IsWordsAnswer, declarations}
use Rattle.ddl_top.specs.Turns.{ComesTo, Loads, Specifies}
use Rattle.ddl_top.specs.Words.{Command, check_of, command_of, file_of, run_of, show_of}
use Rattle.ddl_top.specs.declared.status.Status.{Status}
use Rattle.ddl_top.specs.declared.status.Status.TheVariants as status_is

-- a call: its words, and the files and the sink before it and after it
pub record Call : Type 0 where
  pub words : List (List ℕ)
  pub files : FilesState
  pub files' : FilesState
  pub out : SinkState
  pub out' : SinkState

-- the words are this command
abbrev pub Asks : Call → Command → Type 0
Asks c command = command_of c.words ≡ Some command

-- what was written grew by these lines, each offered whole by one write, and by further ones for its rest
abbrev pub Prints : Call → List (List ℕ) → Type 0
Prints c lines = Writes c.out c.out' (concat lines) × OffersLines c.out c.out' lines

-- how a call ends
pub data Ends (c : Call) : Status → Type 0 where
  -- 0, 1 or 4: the specification denotes this answer of the whole input
  denoted : (root input : List ℕ) (spec : Declared) (content : List ℕ) (told : Told) → Asks c (run_of root input) → Specifies c.files' root spec
      → IsFile c.files' input content → length content ≤ 2 ^ 30 → IsAnswer (alone spec.span spec.body) 0 content told
      → Prints c (answer_lines (module_name root) told) → Ends c (status_of told.closing)
  -- 0: these are the modules of the root, with so many declarations
  checked : (root : List ℕ) (us : List SourceUnit) → Asks c (check_of root) → Loads c.files' root us
      → Prints c (closing_only (closing_is.Declarations (declarations us))) → Ends c status_is.Parses
  -- 0: the file of the root has this tree
  shown : (root : List ℕ) (tree : Module) → Asks c (show_of root) → HasShownTree c.files' (file_of root) tree → Prints c (show_text tree ∷ [])
      → Ends c status_is.Parses
  -- 2: the words are no command, and no file was touched
  no_command : command_of c.words ≡ None → c.files' ≡ c.files → Prints c (closing_only closing_is.Words) → Ends c status_is.Words
  -- 3: the specification is refused
  run_refused : (root input : List ℕ) (lines : List (List ℕ)) → Asks c (run_of root input)
      → IsRefusedWith root c.files c.files' status_is.Refused lines → Prints c lines → Ends c status_is.Refused
  -- 3: or it is of a form that does not run so far
  unbuilt : (root input : List ℕ) → Asks c (run_of root input) → IsUnbuilt c.files' root → Prints c (closing_only closing_is.Unbuilt)
      → Ends c status_is.Refused
  -- 3: the same of a check
  check_refused : (root : List ℕ) (lines : List (List ℕ)) → Asks c (check_of root) → IsRefusedWith root c.files c.files' status_is.Refused lines
      → Prints c lines → Ends c status_is.Refused
  -- 3: the module that is to be shown has no tree
  not_shown : (root : List ℕ) (r : Reason) → Asks c (show_of root) → IsUnshown c.files c.files' (file_of root) (module_name root) r
      → Prints c (reason_lines r) → Ends c status_is.Refused
  -- 6: a call of the files failed
  read_fault : IsFailed c.files c.files' → Prints c (closing_only closing_is.Read) → Ends c status_is.ReadFault
  -- 7: a write failed, once a first part of the lines of an answer was written
  write_fault : (status : Status) (lines : List (List ℕ)) → IsWordsAnswer c.words c.files c.files' status lines
      → WritesPart c.out c.out' (concat lines) → OffersSome c.out c.out' lines → Ends c status_is.WriteFault
  -- 8: the file whose turn it was is not there
  missing : (command : Command) (file : List ℕ) → Asks c command → ComesTo command c.files' file → IsAbsent c.files c.files' file
      → Prints c (closing_only (closing_is.Missing file)) → Ends c status_is.Missing
  -- 9: memory ran out, and nothing was written
  no_memory : c.out' ≡ c.out → Ends c status_is.NoMemory
  -- 10: the specification is accepted and the input too large; no byte of it was read
  large : (root input : List ℕ) (spec : Declared) (n : ℕ) → Asks c (run_of root input) → Specifies c.files' root spec
      → c.files'.told input ≡ Some n → 2 ^ 30 < n → c.files'.reach input ≡ c.files.reach input → Prints c (closing_only closing_is.Large)
      → Ends c status_is.TooLarge

-- each call that the contract of `run` allows stands in the table
abbrev pub AllEnd : Type 0
AllEnd = (c : Call) (status : Status) → IsRun c.words c.files c.files' c.out c.out' status → Ends c status
