-- A call that nothing outside cut short has an answer of its own.
use Rattle.std.proofs.Common.{◌≡◌, ℕ, List, refl, sym, subst, inl, inr}
use Rattle.std.specs.Prelude.{◌⊎◌, Option, Some, None, IfSome, IsSome, MatchOption}
use Rattle.ddl_outside.specs.Counts.{Rose}
use Rattle.ddl_outside.specs.Files.{Contents, FilesState, IsAbsent}
use Rattle.ddl_outside.specs.Sink.{SinkState}
use Rattle.ddl_report.specs.declared.closing.Closing.TheVariants as closing_is
use Rattle.ddl_top.specs.Answered.{closing_only}
use Rattle.ddl_top.specs.Complete.{IsThere, NothingFails}
use Rattle.ddl_top.specs.Complete.{IsRunsOwn, IsRootsOwn, IsWordsOwn, IsCommandsOwn, IsOwnAnswer}
use Rattle.ddl_top.specs.Run.{IsCheckAnswer, IsCommandAnswer, IsRefusedWith, IsRunAnswer, IsShowAnswer, IsWordsAnswer}
use Rattle.ddl_top.specs.Turns.{ComesTo, IsModuleTurn}
use Rattle.ddl_top.specs.Words.{Command, check_of, command_of, file_of, run_of, show_of}
use Rattle.ddl_top.specs.declared.status.Status.{Status}
use Rattle.ddl_top.specs.declared.status.Status.TheVariants as status_is
use Rattle.ddl_top.proofs.OutsideLemmas.{failed_refusal, lacking_refusal}

-- a file that is there is not absent
there_is_held : (held : Option Contents) (file : List ℕ) (R : Type 0) → R × IfSome held (λ files. files file ≡ None)
    → MatchOption held (R → ⊥) (λ files. IsSome (files file)) → ⊥
there_is_held None file R h there = there h.0
there_is_held (Some files) file R h there =
    absurd (let none : IsSome {T = List ℕ} None = subst (λ (o : Option (List ℕ)). IsSome o) h.1 there in cc)

absent_is_not_there : (old new : FilesState) (file : List ℕ) → IsAbsent old new file → IsThere old new file → ⊥
absent_is_not_there old new file h there = there_is_held new.held file (Rose old.misses new.misses) h there

refused_fault : (old new : FilesState) (root : List ℕ) (lines : List (List ℕ)) → ¬ Rose old.faults new.faults
    → IsRefusedWith root old new status_is.ReadFault lines → ⊥
refused_fault old new root lines calm h = calm (failed_refusal root old new lines h).0.0

refused_missing : (old new : FilesState) (root : List ℕ) (lines : List (List ℕ))
    → ((file : List ℕ) → IsModuleTurn new root file → IsThere old new file) → IsRefusedWith root old new status_is.Missing lines → ⊥
refused_missing old new root lines there h =
    let lacks = lacking_refusal root old new lines h in
    absent_is_not_there old new lacks.0 lacks.1.absent (there lacks.0 lacks.1.turn)

-- each file to which a command comes is there
abbrev AllThere : Command → FilesState → FilesState → Type 0
AllThere command old new = (file : List ℕ) → ComesTo command new file → IsThere old new file

runs_own : (root input : List ℕ) (old new : FilesState) (status : Status) (lines : List (List ℕ)) → ¬ Rose old.faults new.faults
    → AllThere (run_of root input) old new → IsRunAnswer root input old new status lines → IsRunsOwn root input new status
runs_own root input old new status_is.Parses lines calm there h = (h.1, (h.0, h.4))
runs_own root input old new status_is.NoParse lines calm there h = (h.1, (h.0, h.4))
runs_own root input old new status_is.Fault lines calm there h = (h.1, (h.0, h.4))
runs_own root input old new status_is.TooLarge lines calm there h = ((h.1, (h.0, h.3)), (h.2, h.4, h.5))
runs_own root input old new status_is.Refused lines calm there h = tt
runs_own root input old new status_is.ReadFault lines calm there (inl h) = refused_fault old new root lines calm h
runs_own root input old new status_is.ReadFault lines calm there (inr h) = calm h.3.0
runs_own root input old new status_is.Missing lines calm there (inl h) = refused_missing old new root lines (λ file turn. there file (inl turn)) h
runs_own root input old new status_is.Missing lines calm there (inr h) =
    absent_is_not_there old new input h.3 (there input (inr (h.1, (h.0, h.2), refl)))
runs_own root input old new status_is.Words lines calm there h = h
runs_own root input old new status_is.Spent lines calm there h = h
runs_own root input old new status_is.WriteFault lines calm there h = h
runs_own root input old new status_is.NoMemory lines calm there h = tt

checks_own : (root : List ℕ) (old new : FilesState) (status : Status) (lines : List (List ℕ)) → ¬ Rose old.faults new.faults
    → AllThere (check_of root) old new → IsCheckAnswer root old new status lines → IsRootsOwn status
checks_own root old new status_is.Parses lines calm there h = tt
checks_own root old new status_is.Refused lines calm there h = tt
checks_own root old new status_is.NoMemory lines calm there h = tt
checks_own root old new status_is.ReadFault lines calm there h = refused_fault old new root lines calm h
checks_own root old new status_is.Missing lines calm there h = refused_missing old new root lines there h
checks_own root old new _ lines calm there h = h

shows_own : (root : List ℕ) (old new : FilesState) (status : Status) (lines : List (List ℕ)) → ¬ Rose old.faults new.faults
    → AllThere (show_of root) old new → IsShowAnswer root old new status lines → IsRootsOwn status
shows_own root old new status_is.Parses lines calm there h = tt
shows_own root old new status_is.Refused lines calm there h = tt
shows_own root old new status_is.NoMemory lines calm there h = tt
shows_own root old new status_is.ReadFault lines calm there h = calm h.0.0
shows_own root old new status_is.Missing lines calm there h = absent_is_not_there old new (file_of root) h.0 (there (file_of root) refl)
shows_own root old new _ lines calm there h = h

commands_own : (o : Option Command) (old new : FilesState) (status : Status) (lines : List (List ℕ)) → ¬ Rose old.faults new.faults
    → ((command : Command) (file : List ℕ) → o ≡ Some command → ComesTo command new file → IsThere old new file)
    → MatchOption o ((status ≡ status_is.Words) × (new ≡ old) × (lines ≡ closing_only closing_is.Words))
    (λ command. IsCommandAnswer command old new status lines)
    → MatchOption o (IsWordsOwn status) (λ command. IsCommandsOwn command new status)
commands_own None old new status lines calm there h = subst IsWordsOwn (sym h.0) tt
commands_own (Some (run_of root input)) old new status lines calm there h =
    runs_own root input old new status lines calm (λ file. there (run_of root input) file refl) h
commands_own (Some (check_of root)) old new status lines calm there h =
    checks_own root old new status lines calm (λ file. there (check_of root) file refl) h
commands_own (Some (show_of root)) old new status lines calm there h =
    shows_own root old new status lines calm (λ file. there (show_of root) file refl) h

pub words_own : (words : List (List ℕ)) (old new : FilesState) (out out' : SinkState) (status : Status) (lines : List (List ℕ))
    → NothingFails words old new out out' → IsWordsAnswer words old new status lines → IsOwnAnswer words new status
words_own words old new out out' status lines nothing h = commands_own (command_of words) old new status lines nothing.reads nothing.files h

-- want of memory comes with all words
pub memory_own : (words : List (List ℕ)) (files : FilesState) → IsOwnAnswer words files status_is.NoMemory
memory_own words files = of_command (command_of words) where
  of_command : (o : Option Command) → MatchOption o (IsWordsOwn status_is.NoMemory) (λ command. IsCommandsOwn command files status_is.NoMemory)
  of_command None = tt
  of_command (Some (run_of root input)) = tt
  of_command (Some (check_of root)) = tt
  of_command (Some (show_of root)) = tt
