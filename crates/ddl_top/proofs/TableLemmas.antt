-- Each call that the contract of `run` allows stands in the table.
use Rattle.std.proofs.Common.{◌≡◌, ℕ, List, refl, sym, subst, inl, inr}
use Rattle.std.specs.Prelude.{◌⊎◌, Option, Some, None, MatchOption}
use Rattle.ddl_outside.specs.Files.{FilesState}
use Rattle.ddl_report.specs.declared.closing.Closing.TheVariants as closing_is
use Rattle.ddl_top.specs.Answered.{closing_only}
use Rattle.ddl_top.specs.Run.{IsCheckAnswer, IsCommandAnswer, IsDenoted, IsRefusedWith, IsRunAnswer, IsShowAnswer}
use Rattle.ddl_top.specs.Table.{AllEnd, Asks, Call, Ends, Prints}
use Rattle.ddl_top.specs.Table.Ends.{checked, check_refused, denoted, large, missing, no_command, no_memory, not_shown, read_fault, run_refused, shown}
use Rattle.ddl_top.specs.Table.Ends.{unbuilt, write_fault}
use Rattle.ddl_top.specs.Turns.{ComesTo, IsModuleTurn}
use Rattle.ddl_top.specs.Words.{Command, check_of, command_of, file_of, run_of, show_of}
use Rattle.ddl_top.specs.declared.status.Status.{Status}
use Rattle.ddl_top.specs.declared.status.Status.TheVariants as status_is
use Rattle.ddl_top.proofs.OutsideLemmas.{failed_refusal, lacking_refusal}

denoted_row : (c : Call) (root input : List ℕ) (status : Status) (lines : List (List ℕ)) → Asks c (run_of root input)
    → IsDenoted root input c.files' status lines → Prints c lines → Ends c status
denoted_row c root input status lines asks h p =
    subst (Ends c) (sym h.8) (denoted root input h.1 h.2 h.3 asks (h.0, h.4) h.5 h.6 h.7 (subst (Prints c) h.9 p))

failed_row : (c : Call) (root : List ℕ) (lines : List (List ℕ)) → IsRefusedWith root c.files c.files' status_is.ReadFault lines → Prints c lines
    → Ends c status_is.ReadFault
failed_row c root lines h p = let k = failed_refusal root c.files c.files' lines h in read_fault k.0 (subst (Prints c) k.1 p)

missing_row : (c : Call) (command : Command) (root : List ℕ) (lines : List (List ℕ)) → Asks c command
    → ((file : List ℕ) → IsModuleTurn c.files' root file → ComesTo command c.files' file)
    → IsRefusedWith root c.files c.files' status_is.Missing lines → Prints c lines → Ends c status_is.Missing
missing_row c command root lines asks comes h p =
    let k = lacking_refusal root c.files c.files' lines h in
    missing command k.0 asks (comes k.0 k.1.turn) k.1.absent (subst (Prints c) k.2 p)

run_row : (c : Call) (root input : List ℕ) (status : Status) (lines : List (List ℕ)) → Asks c (run_of root input)
    → IsRunAnswer root input c.files c.files' status lines → Prints c lines → Ends c status
run_row c root input status_is.Parses lines asks h p = denoted_row c root input status_is.Parses lines asks h p
run_row c root input status_is.NoParse lines asks h p = denoted_row c root input status_is.NoParse lines asks h p
run_row c root input status_is.Fault lines asks h p = denoted_row c root input status_is.Fault lines asks h p
run_row c root input status_is.TooLarge lines asks h p =
    large root input h.1 h.2 asks (h.0, h.3) h.4 h.5 h.6 (subst (Prints c) h.7 p)
run_row c root input status_is.Refused lines asks (only, inl h) p = run_refused root input lines asks h p
run_row c root input status_is.Refused lines asks (only, inr h) p = unbuilt root input asks h.0 (subst (Prints c) h.1 p)
run_row c root input status_is.ReadFault lines asks (inl h) p = failed_row c root lines h p
run_row c root input status_is.ReadFault lines asks (inr h) p = read_fault h.3 (subst (Prints c) h.4 p)
run_row c root input status_is.Missing lines asks (inl h) p = missing_row c (run_of root input) root lines asks (λ file turn. inl turn) h p
run_row c root input status_is.Missing lines asks (inr h) p =
    missing (run_of root input) input asks (inr (h.1, (h.0, h.2), refl)) h.3 (subst (Prints c) h.4 p)
run_row c root input status_is.Words lines asks h p = absurd h
run_row c root input status_is.Spent lines asks h p = absurd h
run_row c root input status_is.WriteFault lines asks h p = absurd h
run_row c root input status_is.NoMemory lines asks h p = absurd h

check_row : (c : Call) (root : List ℕ) (status : Status) (lines : List (List ℕ)) → Asks c (check_of root)
    → IsCheckAnswer root c.files c.files' status lines → Prints c lines → Ends c status
check_row c root status_is.Parses lines asks h p = checked root h.1 asks (h.0, h.2) (subst (Prints c) h.3 p)
check_row c root status_is.Refused lines asks h p = check_refused root lines asks h p
check_row c root status_is.ReadFault lines asks h p = failed_row c root lines h p
check_row c root status_is.Missing lines asks h p = missing_row c (check_of root) root lines asks (λ file turn. turn) h p
check_row c root _ lines asks h p = absurd h

show_row : (c : Call) (root : List ℕ) (status : Status) (lines : List (List ℕ)) → Asks c (show_of root)
    → IsShowAnswer root c.files c.files' status lines → Prints c lines → Ends c status
show_row c root status_is.Parses lines asks h p = shown root h.0 asks h.1 (subst (Prints c) h.2 p)
show_row c root status_is.Refused lines asks h p = not_shown root h.0 asks h.1 (subst (Prints c) h.2 p)
show_row c root status_is.ReadFault lines asks h p = read_fault h.0 (subst (Prints c) h.1 p)
show_row c root status_is.Missing lines asks h p = missing (show_of root) (file_of root) asks refl h.0 (subst (Prints c) h.1 p)
show_row c root _ lines asks h p = absurd h

command_row : (c : Call) (o : Option Command) (status : Status) (lines : List (List ℕ)) → command_of c.words ≡ o
    → MatchOption o ((status ≡ status_is.Words) × (c.files' ≡ c.files) × (lines ≡ closing_only closing_is.Words))
    (λ command. IsCommandAnswer command c.files c.files' status lines)
    → Prints c lines → Ends c status
command_row c None status lines none h p = subst (Ends c) (sym h.0) (no_command none h.1 (subst (Prints c) h.2 p))
command_row c (Some (run_of root input)) status lines asks h p = run_row c root input status lines asks h p
command_row c (Some (check_of root)) status lines asks h p = check_row c root status lines asks h p
command_row c (Some (show_of root)) status lines asks h p = show_row c root status lines asks h p

pub all_end : AllEnd
all_end c status_is.WriteFault h = write_fault h.0 h.1 h.2 h.3 h.5
all_end c status_is.NoMemory h = no_memory h
all_end c status_is.Parses h = command_row c (command_of c.words) status_is.Parses h.0 refl h.1 (h.2, h.3)
all_end c status_is.NoParse h = command_row c (command_of c.words) status_is.NoParse h.0 refl h.1 (h.2, h.3)
all_end c status_is.Words h = command_row c (command_of c.words) status_is.Words h.0 refl h.1 (h.2, h.3)
all_end c status_is.Refused h = command_row c (command_of c.words) status_is.Refused h.0 refl h.1 (h.2, h.3)
all_end c status_is.Fault h = command_row c (command_of c.words) status_is.Fault h.0 refl h.1 (h.2, h.3)
all_end c status_is.Spent h = command_row c (command_of c.words) status_is.Spent h.0 refl h.1 (h.2, h.3)
all_end c status_is.ReadFault h = command_row c (command_of c.words) status_is.ReadFault h.0 refl h.1 (h.2, h.3)
all_end c status_is.Missing h = command_row c (command_of c.words) status_is.Missing h.0 refl h.1 (h.2, h.3)
all_end c status_is.TooLarge h = command_row c (command_of c.words) status_is.TooLarge h.0 refl h.1 (h.2, h.3)
