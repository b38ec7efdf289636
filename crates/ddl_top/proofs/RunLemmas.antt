-- What `run` answers, put together from what its parts answer.
use Rattle.std.proofs.Common.{◌≡◌, ℕ, ◌^◌, ◌<◌, ◌≤◌, List, [], ◌∷◌, ◌++◌, length, refl, ap, sym, ◌∙◌, inl, inr, subst}
use Rattle.std.specs.Prelude.{Result, Ok, Err, IfOk, Some, None, ◌⊎◌}
use Rattle.ddl_base.specs.declared.memory.NoMemory.{NoMemory}
use Rattle.ddl_front.specs.Front.{AreBoundModules, FindsModules, IsRefused, TouchesModules}
use Rattle.ddl_modules.specs.Files.{module_name}
use Rattle.ddl_modules.specs.Reading.{TouchesOnlyThese}
use Rattle.ddl_modules.proofs.ReadingLemmas.{Read-later, TouchesOnlyThese-more}
use Rattle.ddl_outside.specs.Files.{FilesState, Later, IsFile, IsAbsent, IsFailed, TouchesOnly}
use Rattle.ddl_outside.specs.declared.refusal.Refusal.{Refusal}
use Rattle.ddl_outside.specs.declared.refusal.Refusal.TheVariants as refused
use Rattle.ddl_outside.proofs.FilesLemmas.{IsAbsent-earlier, IsFailed-earlier, IsFile-later, Later-trans}
use Rattle.ddl_report.specs.declared.closing.Closing.TheVariants as closing_is
use Rattle.ddl_simple.specs.Modules.{Declared}
use Rattle.ddl_tree.specs.declared.module.SourceUnit.{SourceUnit}
use Rattle.ddl_types.specs.Answer as answer
use Rattle.ddl_top.proofs.LongLemmas.{long_is_none}
use Rattle.ddl_top.specs.Answered.{closing_only, status_of}
use Rattle.ddl_top.specs.Reading.{IsAnswered, IsInputAnswer, IsUnitsAnswer, TouchesInput}
use Rattle.ddl_top.specs.Refusals.{IsRefusalAnswer}
use Rattle.ddl_top.specs.Run.{IsAccepted, IsRunAnswer, RunsInOrder, specified_in}
use Rattle.ddl_top.specs.declared.answer.Answer.{Answer}
use Rattle.ddl_top.specs.declared.status.Status.{Status}
use Rattle.ddl_top.specs.declared.status.Status.TheVariants as status_is

-- ---- modules stay what they were

AreBoundModules-later : (a b : FilesState) (root : List ℕ) (names : List (List ℕ)) (us : List SourceUnit) → Later a b → AreBoundModules a root names us
    → AreBoundModules b root names us
AreBoundModules-later a b root names us later h = (h.0, Read-later a b root us names h.0 later h.1, h.2, h.3, h.4)

pub IsAccepted-later : (a b : FilesState) (root : List ℕ) (names : List (List ℕ)) (spec : Declared) → Later a b → IsAccepted a root names spec
    → IsAccepted b root names spec
IsAccepted-later a b root names spec later h = (h.0, AreBoundModules-later a b root names h.0 later h.1, h.2)

-- ---- an accepted specification and its input

-- what a specification denotes of the content of the input
input_of_answered : (root input : List ℕ) (old new : FilesState) (names : List (List ℕ)) (spec : Declared) (content : List ℕ) (status : Status)
    (lines : List (List ℕ)) → IsAccepted new root names spec → IsFile new input content
    → length content ≤ 2 ^ 30 → IsAnswered (module_name root) spec content status lines → IsInputAnswer root input old new status lines
input_of_answered root input old new names spec content status lines accepted file within h = by_closing h.0.closing refl h.2 where
  by_closing : (c : answer.Closing) → h.0.closing ≡ c → status ≡ status_of c → IsInputAnswer root input old new status lines
  by_closing (answer.counted n) e s =
      subst (λ t. IsInputAnswer root input old new t lines) (sym s) (names, spec, content, h.0, accepted, file, within, h.1, sym (ap status_of e), h.3)
  by_closing (answer.failed f) e s =
      subst (λ t. IsInputAnswer root input old new t lines) (sym s) (names, spec, content, h.0, accepted, file, within, h.1, sym (ap status_of e), h.3)
  by_closing (answer.faulted fault span) e s =
      subst (λ t. IsInputAnswer root input old new t lines) (sym s) (names, spec, content, h.0, accepted, file, within, h.1, sym (ap status_of e), h.3)

-- the answer of an accepted specification, for whichever files its modules have
abbrev pub Answers : List ℕ → List ℕ → FilesState → FilesState → Declared → Answer → Type 0
Answers root input old new spec a = (names : List (List ℕ)) → IsAccepted old root names spec → IsInputAnswer root input old new a.status a.lines.items

pub IfOk-input : (root input : List ℕ) (old new : FilesState) (spec : Declared) (content : List ℕ) (r : Result Answer NoMemory) → Later old new
    → IsFile new input content
    → length content ≤ 2 ^ 30 → IfOk r (λ a. IsAnswered (module_name root) spec content a.status a.lines.items) → IfOk r (Answers root input old new spec)
IfOk-input root input old new spec content (Ok a) later file within h =
    λ names accepted. input_of_answered root input old new names spec content a.status a.lines.items (IsAccepted-later old new root names spec later accepted)
    file within h
IfOk-input root input old new spec content (Err e) later file within h = h

pub IfOk-large : (root input : List ℕ) (old new : FilesState) (spec : Declared) (n : ℕ) (r : Result Answer NoMemory) → Later old new → new.told input ≡ Some n
    → 2 ^ 30 < n → new.reach input ≡ old.reach input
    → IfOk r (λ a. (a.status ≡ status_is.TooLarge) × (a.lines.items ≡ closing_only closing_is.Large)) → IfOk r (Answers root input old new spec)
IfOk-large root input old new spec n (Ok a) later told above same h =
    λ names accepted. subst (λ s. IsInputAnswer root input old new s a.lines.items) (sym h.0) (
      names,
      spec,
      n,
      IsAccepted-later old new root names spec later accepted,
      told,
      above,
      same,
      h.1,
    )
IfOk-large root input old new spec n (Err e) later told above same h = h

pub IfOk-absent : (root input : List ℕ) (old new : FilesState) (spec : Declared) (r : Result Answer NoMemory) → Later old new → IsAbsent old new input
    → IfOk r (λ a. (a.status ≡ status_is.Missing) × (a.lines.items ≡ closing_only (closing_is.Missing input))) → IfOk r (Answers root input old new spec)
IfOk-absent root input old new spec (Ok a) later absent h =
    λ names accepted. subst (λ s. IsInputAnswer root input old new s a.lines.items) (sym h.0) (
      names,
      spec,
      IsAccepted-later old new root names spec later accepted,
      absent,
      h.1,
    )
IfOk-absent root input old new spec (Err e) later absent h = h

pub IfOk-failed : (root input : List ℕ) (old new : FilesState) (spec : Declared) (r : Result Answer NoMemory) → Later old new → IsFailed old new
    → IfOk r (λ a. (a.status ≡ status_is.ReadFault) × (a.lines.items ≡ closing_only closing_is.Read)) → IfOk r (Answers root input old new spec)
IfOk-failed root input old new spec (Ok a) later failed h =
    λ names accepted. subst (λ s. IsInputAnswer root input old new s a.lines.items) (sym h.0) (
      names,
      spec,
      IsAccepted-later old new root names spec later accepted,
      failed,
      h.1,
    )
IfOk-failed root input old new spec (Err e) later failed h = h

-- ---- modules whose names are bound

-- an input's answer is one of modules
units_of_input : (root input : List ℕ) (old new : FilesState) (status : Status) (lines : List (List ℕ)) → IsInputAnswer root input old new status lines
    → IsUnitsAnswer root input old new status lines
units_of_input root input old new status_is.Refused lines h = absurd h
units_of_input root input old new status_is.Parses lines h = h
units_of_input root input old new status_is.NoParse lines h = h
units_of_input root input old new status_is.Words lines h = absurd h
units_of_input root input old new status_is.Fault lines h = h
units_of_input root input old new status_is.Spent lines h = absurd h
units_of_input root input old new status_is.ReadFault lines h = h
units_of_input root input old new status_is.WriteFault lines h = absurd h
units_of_input root input old new status_is.Missing lines h = h
units_of_input root input old new status_is.NoMemory lines h = absurd h
units_of_input root input old new status_is.TooLarge lines h = h

-- the answer of modules, for whichever files they have
abbrev pub UnitsAnswer : List ℕ → List ℕ → FilesState → FilesState → List SourceUnit → Answer → Type 0
UnitsAnswer root input old new us a = (names : List (List ℕ)) → AreBoundModules old root names us → IsUnitsAnswer root input old new a.status a.lines.items

pub IfOk-units : (root input : List ℕ) (old new : FilesState) (us : List SourceUnit) (spec : Declared) (r : Result Answer NoMemory)
    → specified_in us ≡ Some spec
    → IfOk r (Answers root input old new spec) → IfOk r (UnitsAnswer root input old new us)
IfOk-units root input old new us spec (Ok a) found h = λ names bound. units_of_input root input old new a.status a.lines.items (h names (us, bound, found))
IfOk-units root input old new us spec (Err e) found h = h

-- modules of no form that is run so far
pub IfOk-unbuilt : (root input : List ℕ) (files : FilesState) (us : List SourceUnit) (r : Result Answer NoMemory) → specified_in us ≡ None
    → IfOk r (λ a. (a.status ≡ status_is.Refused) × (a.lines.items ≡ closing_only closing_is.Unbuilt)) → IfOk r (UnitsAnswer root input files files us)
IfOk-unbuilt root input files us (Ok a) none h =
    λ names bound. subst (λ s. IsUnitsAnswer root input files files s a.lines.items) (sym h.0) ((names, us, bound, none), h.1, refl)
IfOk-unbuilt root input files us (Err e) none h = h

-- ---- a run

touches-found : (old new : FilesState) (root : List ℕ) (us : List SourceUnit) → FindsModules old new root us → TouchesModules old new root
touches-found old new root us h = inr (us, h.0, h.1.0, h.1.1, inl h.2)

-- what modules are answered after they were read is what the call is answered; a large input is none of their files
run_of_units : (root input : List ℕ) (a b c : FilesState) (us : List SourceUnit) (status : Status) (lines : List (List ℕ)) → Later a b → Later b c
    → FindsModules a b root us
    → IsUnitsAnswer root input b c status lines → IsRunAnswer root input a c status lines
run_of_units root input a b c us status_is.Refused lines first rest found h =
    (subst (λ s. TouchesModules a s root) (sym h.2) (touches-found a b root us found), inr (h.0, h.1))
run_of_units root input a b c us status_is.Parses lines first rest found h = h
run_of_units root input a b c us status_is.NoParse lines first rest found h = h
run_of_units root input a b c us status_is.Words lines first rest found h = absurd h
run_of_units root input a b c us status_is.Fault lines first rest found h = h
run_of_units root input a b c us status_is.Spent lines first rest found h = absurd h
run_of_units root input a b c us status_is.ReadFault lines first rest found h = inr (h.0, h.1, h.2, IsFailed-earlier a b c first h.3, h.4)
run_of_units root input a b c us status_is.WriteFault lines first rest found h = absurd h
run_of_units root input a b c us status_is.Missing lines first rest found h = inr (h.0, h.1, h.2, IsAbsent-earlier a b c input first h.3, h.4)
run_of_units root input a b c us status_is.NoMemory lines first rest found h = absurd h
run_of_units root input a b c us status_is.TooLarge lines first rest found h =
    let read = Read-later b c root us found.0 found.1.0 rest found.1.1 in
    let others = long_is_none c root us found.0 found.1.0 input h.2 read h.4 h.5 in
    (h.0, h.1, h.2, h.3, h.4, h.5, h.6 ∙ (found.2 input others).1, h.7)

pub IfOk-run : (root input : List ℕ) (a b c : FilesState) (us : List SourceUnit) (r : Result Answer NoMemory) → Later a b → Later b c
    → FindsModules a b root us
    → IfOk r (UnitsAnswer root input b c us) → IfOk r (λ x. IsRunAnswer root input a c x.status x.lines.items)
IfOk-run root input a b c us (Ok x) first rest found h = run_of_units root input a b c us x.status x.lines.items first rest found (h found.0 found.1)
IfOk-run root input a b c us (Err e) first rest found h = h

-- a specification that is refused
run_of_refusal : (root input : List ℕ) (old new : FilesState) (refusal : Refusal) (status : Status) (lines : List (List ℕ)) → TouchesModules old new root
    → IsRefused old new root refusal
    → IsRefusalAnswer refusal status lines → IsRunAnswer root input old new status lines
run_of_refusal root input old new (refused.Missing file) status lines only h k =
    subst (λ s. IsRunAnswer root input old new s lines) (sym k.0) (inl (refused.Missing file, h, (refl, k.1)))
run_of_refusal root input old new refused.ReadFault status lines only h k =
    subst (λ s. IsRunAnswer root input old new s lines) (sym k.0) (inl (refused.ReadFault, h, (refl, k.1)))
run_of_refusal root input old new (refused.Refused told) status lines only h k =
    subst (λ s. IsRunAnswer root input old new s lines) (sym k.0) (only, inl (refused.Refused told, h, (refl, k.1)))
run_of_refusal root input old new refused.Unbuilt status lines only h k =
    subst (λ s. IsRunAnswer root input old new s lines) (sym k.0) (only, inl (refused.Unbuilt, h, (refl, k.1)))
run_of_refusal root input old new refused.NoMemory status lines only h k = absurd k

pub IfOk-run_refused : (root input : List ℕ) (old new : FilesState) (refusal : Refusal) (r : Result Answer NoMemory) → TouchesModules old new root
    → IsRefused old new root refusal
    → IfOk r (λ a. IsRefusalAnswer refusal a.status a.lines.items) → IfOk r (λ a. IsRunAnswer root input old new a.status a.lines.items)
IfOk-run_refused root input old new refusal (Ok a) only h k = run_of_refusal root input old new refusal a.status a.lines.items only h k
IfOk-run_refused root input old new refusal (Err e) only h k = k

-- the modules were read, and then at most the input
pub runs_in_order : (root input : List ℕ) (a b c : FilesState) (us : List SourceUnit) → Later b c → FindsModules a b root us → TouchesInput us input b c
    → RunsInOrder root input a c
runs_in_order root input a b c us later found (inl same) = inl (subst (λ s. TouchesModules a s root) (sym same) (touches-found a b root us found))
runs_in_order root input a b c us later found (inr second) = inr (
  found.0,
  second.0,
  (us, AreBoundModules-later b c root found.0 us later found.1, second.1),
  TouchesOnlyThese-more found.0 input a b c found.2 second.2,
)
