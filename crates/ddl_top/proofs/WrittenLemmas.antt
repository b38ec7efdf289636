-- What a call answers once all lines of its answer were written.
use Rattle.std.proofs.Common.{◌≡◌, ℕ, List}
use Rattle.std.specs.List.{concat}
use Rattle.std.specs.Prelude.{Option, Some, None, MatchOption}
use Rattle.ddl_outside.specs.Files.{FilesState}
use Rattle.ddl_outside.specs.Sink.{OffersLines, SinkState, Writes}
use Rattle.ddl_report.specs.declared.closing.Closing.TheVariants as closing_is
use Rattle.ddl_top.specs.Answered.{closing_only}
use Rattle.ddl_top.specs.Run.{IsCommandAnswer, IsRun, IsWordsAnswer}
use Rattle.ddl_top.specs.Words.{Command, check_of, command_of, run_of, show_of}
use Rattle.ddl_top.specs.declared.status.Status.{Status}
use Rattle.ddl_top.specs.declared.status.Status.TheVariants as status_is

abbrev OptionAnswer : Option Command → FilesState → FilesState → Status → List (List ℕ) → Type 0
OptionAnswer o old new status lines =
    MatchOption o ((status ≡ status_is.Words) × (new ≡ old) × (lines ≡ closing_only closing_is.Words))
    (λ command. IsCommandAnswer command old new status lines)

-- no answer is a failed write, nor want of memory
no_write_fault : (o : Option Command) (old new : FilesState) (lines : List (List ℕ)) → OptionAnswer o old new status_is.WriteFault lines → ⊥
no_write_fault None old new lines h = absurd (let e = h.0 in cc)
no_write_fault (Some (run_of root input)) old new lines h = h
no_write_fault (Some (check_of root)) old new lines h = h
no_write_fault (Some (show_of root)) old new lines h = h

no_memory_out : (o : Option Command) (old new : FilesState) (lines : List (List ℕ)) → OptionAnswer o old new status_is.NoMemory lines → ⊥
no_memory_out None old new lines h = absurd (let e = h.0 in cc)
no_memory_out (Some (run_of root input)) old new lines h = h
no_memory_out (Some (check_of root)) old new lines h = h
no_memory_out (Some (show_of root)) old new lines h = h

pub whole_run : (words : List (List ℕ)) (old new : FilesState) (out out' : SinkState) (status : Status) (lines : List (List ℕ))
    → IsWordsAnswer words old new status lines → Writes out out' (concat lines) → OffersLines out out' lines → IsRun words old new out out' status
whole_run words old new out out' status_is.WriteFault lines h w o = absurd (no_write_fault (command_of words) old new lines h)
whole_run words old new out out' status_is.NoMemory lines h w o = absurd (no_memory_out (command_of words) old new lines h)
whole_run words old new out out' status_is.Parses lines h w o = (lines, h, w, o)
whole_run words old new out out' status_is.NoParse lines h w o = (lines, h, w, o)
whole_run words old new out out' status_is.Words lines h w o = (lines, h, w, o)
whole_run words old new out out' status_is.Refused lines h w o = (lines, h, w, o)
whole_run words old new out out' status_is.Fault lines h w o = (lines, h, w, o)
whole_run words old new out out' status_is.Spent lines h w o = (lines, h, w, o)
whole_run words old new out out' status_is.ReadFault lines h w o = (lines, h, w, o)
whole_run words old new out out' status_is.Missing lines h w o = (lines, h, w, o)
whole_run words old new out out' status_is.TooLarge lines h w o = (lines, h, w, o)
