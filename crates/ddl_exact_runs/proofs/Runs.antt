-- What a call of the program answers is one thing.
use Rattle.std.proofs.Common.{◌≡◌, ◌≤◌, ◌<◌, ◌^◌, ◌+◌, ◌⊎◌, inl, inr, ℕ, List, [], ◌∷◌, ◌++◌, drop, length, map, flat_map, Option, Some, None, MatchOption}
use Rattle.std.proofs.Common.{Result, Ok, Err, refl, sym, ap, ◌∙◌, subst}
use Rattle.std.specs.List.{concat}
use Rattle.std.proofs.lemmas.List.{length-map, map-append}
use Rattle.ddl_outside.specs.Files.{Contents, FilesState}
use Rattle.ddl_outside.specs.Sink.{SinkState, Writes}
use Rattle.ddl_front.specs.Front.{AreBoundModules}
use Rattle.ddl_report.specs.declared.closing.Closing.TheVariants as closing_is
use Rattle.ddl_simple.specs.Modules.{Declared}
use Rattle.ddl_tree.specs.ViewModule.{decl_view}
use Rattle.ddl_tree.specs.declared.module.SourceUnit.{SourceUnit}
use Rattle.ddl_uses.specs.Bindings.{Loaded}
use Rattle.ddl_uses.specs.Walks.{loaded}
use Rattle.ddl_top.specs.Answered.{closing_only}
use Rattle.ddl_top.specs.Run.{IsCheckAnswer, IsCommandAnswer, IsDenoted, IsRun, IsRunAnswer, IsUnbuilt, IsWordsAnswer, declarations, specified_in}
use Rattle.ddl_top.specs.Words.{Command, check_of, command_of, run_of, show_of}
use Rattle.ddl_top.specs.declared.status.Status.{Status}
use Rattle.ddl_top.specs.declared.status.Status.TheVariants as status_is
use Rattle.ddl_exact_runs.specs.Known.{IsKnown}
use Rattle.ddl_exact_runs.specs.OneLoading.{Cause}
use Rattle.ddl_exact_runs.specs.OneRun.{IsInside, OneAnswer, OneRun}
use Rattle.ddl_exact_runs.proofs.Causes.{AreOne, Found, Lines, OneRest, found_refusal, one_found}
use Rattle.ddl_exact_runs.proofs.Inputs.{InputAnswer, absent, denoted, large, one_input_answer, specified_are, specified_of, unbuilt}
use Rattle.ddl_exact_runs.proofs.Loadings.{held_bytes, not_held, reaches_modules, told_bytes}
use Rattle.ddl_exact_runs.proofs.Shows.{one_show}

-- where names are bound, the rest says what is answered
found_bound : (contents : Contents) (root : List ℕ) (Rest : List Loaded → Status → Lines
    → Type 0) (new : FilesState) (names : List (List ℕ)) (us : List SourceUnit) (a : Status) (lines : Lines)
    → IsKnown contents new → AreBoundModules new root names us → Rest (loaded us) a lines → Found contents root Rest a lines
found_bound contents root Rest new names us a lines k h rest =
    (Ok (loaded us), reaches_modules contents new root us names h.0 k h.1 h.2 h.3, inr (h.4, rest))

-- ---- checks

-- how many declarations modules have, those of the prelude not counted
abbrev count : List Loaded → ℕ
count ls = length (flat_map (λ l. l.tree.decls) (drop 1 ls))

decls_are : (us : List SourceUnit) → map decl_view (flat_map (λ u. u.tree.decls.items) us) ≡ flat_map (λ l. l.tree.decls) (loaded us)
decls_are [] = refl
decls_are (u ∷ us) =
    map-append decl_view u.tree.decls.items (flat_map (λ v. v.tree.decls.items) us) ∙ ap (λ ds. map decl_view u.tree.decls.items ++ ds) (decls_are us)

counts : (us : List SourceUnit) → declarations us ≡ count (loaded us)
counts [] = refl
counts (u ∷ us) = sym (length-map (flat_map (λ v. v.tree.decls.items) us) decl_view) ∙ ap length (decls_are us)

abbrev CheckAnswer : List Loaded → Status → Lines → Type 0
CheckAnswer ls a lines = (a ≡ status_is.Parses) × (lines ≡ closing_only (closing_is.Declarations (count ls)))

one_check_answer : OneRest CheckAnswer
one_check_answer ls a b lines more h k = (h.0 ∙ sym k.0, h.1 ∙ sym k.1)

found_check : (contents : Contents) (root : List ℕ) (old new : FilesState) (a : Status) (lines : Lines) → IsKnown contents new → IsInside a
    → IsCheckAnswer root old new a lines
    → Found contents root CheckAnswer a lines
found_check contents root old new status_is.Parses lines k i h =
    found_bound contents root CheckAnswer new h.0 h.1 status_is.Parses lines k h.2 (refl, h.3 ∙ ap (λ n. closing_only (closing_is.Declarations n)) (counts h.1))
found_check contents root old new status_is.Refused lines k i h = found_refusal contents root CheckAnswer old new status_is.Refused lines k i h
found_check contents root old new status_is.Missing lines k i h = found_refusal contents root CheckAnswer old new status_is.Missing lines k i h
found_check contents root old new status_is.ReadFault lines k i h = absurd i
found_check contents root old new _ lines k i h = absurd h

-- ---- runs

specifies : (us : List SourceUnit) (o : Option Declared) → specified_in us ≡ o → specified_of (loaded us) ≡ o
specifies us o h = sym (specified_are us) ∙ h

found_denoted : (contents : Contents) (root input : List ℕ) (new : FilesState) (a : Status) (lines : Lines) → IsKnown contents new
    → IsDenoted root input new a lines
    → Found contents root (InputAnswer contents root input) a lines
found_denoted contents root input new a lines k h =
    let g = h.4 in
    found_bound contents root (InputAnswer contents root input) new h.0 g.0 a lines k g.1
    (denoted h.1 h.2 h.3 (specifies g.0 (Some h.1) g.2) (held_bytes contents new input h.2 k h.5) h.6 h.7 h.8 h.9)

found_unbuilt : (contents : Contents) (root input : List ℕ) (new : FilesState) (lines : Lines) → IsKnown contents new → IsUnbuilt new root
    → lines ≡ closing_only closing_is.Unbuilt
    → Found contents root (InputAnswer contents root input) status_is.Refused lines
found_unbuilt contents root input new lines k h l =
    found_bound contents root (InputAnswer contents root input) new h.0 h.1 status_is.Refused lines k h.2 (unbuilt (specifies h.1 None h.3) refl l)

found_run : (contents : Contents) (root input : List ℕ) (old new : FilesState) (a : Status) (lines : Lines) → IsKnown contents new → IsInside a
    → IsRunAnswer root input old new a lines
    → Found contents root (InputAnswer contents root input) a lines
found_run contents root input old new status_is.Parses lines k i h = found_denoted contents root input new status_is.Parses lines k h
found_run contents root input old new status_is.NoParse lines k i h = found_denoted contents root input new status_is.NoParse lines k h
found_run contents root input old new status_is.Fault lines k i h = found_denoted contents root input new status_is.Fault lines k h
found_run contents root input old new status_is.TooLarge lines k i h =
    let g = h.3 in
    let b = told_bytes contents new input h.2 k h.4 in
    found_bound contents root (InputAnswer contents root input) new h.0 g.0 status_is.TooLarge lines k g.1
    (large h.1 b.0 (specifies g.0 (Some h.1) g.2) b.1 (subst (λ n. 2 ^ 30 < n) b.2 h.5) refl h.7)
found_run contents root input old new status_is.Refused lines k i h =
    elim h.1 as (λ o. Found contents root (InputAnswer contents root input) status_is.Refused lines) [
      | inl g ↦ found_refusal contents root (InputAnswer contents root input) old new status_is.Refused lines k i g
      | inr g ↦ found_unbuilt contents root input new lines k g.0 g.1
    ]
found_run contents root input old new status_is.Missing lines k i h =
    elim h as (λ o. Found contents root (InputAnswer contents root input) status_is.Missing lines) [
      | inl g ↦ found_refusal contents root (InputAnswer contents root input) old new status_is.Missing lines k i g
      | inr g ↦ let f = g.2 in found_bound contents root (InputAnswer contents root input) new g.0 f.0 status_is.Missing lines k f.1
          (absent g.1 (specifies f.0 (Some g.1) f.2) (not_held contents new input k g.3.1) refl g.4)
    ]
found_run contents root input old new status_is.ReadFault lines k i h = absurd i
found_run contents root input old new _ lines k i h = absurd h

-- ---- calls

one_command : (contents : Contents) (command : Command) (old new old' new' : FilesState) (a b : Status) (lines more : Lines) → IsKnown contents new
    → IsKnown contents new'
    → IsInside a → IsInside b → IsCommandAnswer command old new a lines → IsCommandAnswer command old' new' b more → AreOne a lines b more
one_command contents (run_of root input) old new old' new' a b lines more k l i j h g =
    one_found contents root (InputAnswer contents root input) (one_input_answer contents root input) a b lines more
    (found_run contents root input old new a lines k i h) (found_run contents root input old' new' b more l j g)
one_command contents (check_of root) old new old' new' a b lines more k l i j h g =
    one_found contents root CheckAnswer one_check_answer a b lines more
    (found_check contents root old new a lines k i h) (found_check contents root old' new' b more l j g)
one_command contents (show_of root) old new old' new' a b lines more k l i j h g =
    one_show contents root old new old' new' a b lines more k l i j h g

abbrev OptionAnswer : Option Command → FilesState → FilesState → Status → Lines → Type 0
OptionAnswer o old new status lines =
    MatchOption o ((status ≡ status_is.Words) × (new ≡ old) × (lines ≡ closing_only closing_is.Words)) (λ command. IsCommandAnswer command old new status lines)

one_option : (contents : Contents) (o : Option Command) (old new old' new' : FilesState) (a b : Status) (lines more : Lines) → IsKnown contents new
    → IsKnown contents new'
    → IsInside a → IsInside b → OptionAnswer o old new a lines → OptionAnswer o old' new' b more → AreOne a lines b more
one_option contents None old new old' new' a b lines more k l i j h g = (h.0 ∙ sym g.0, h.2 ∙ sym g.2)
one_option contents (Some command) old new old' new' a b lines more k l i j h g = one_command contents command old new old' new' a b lines more k l i j h g

pub one_answer : OneAnswer
one_answer contents words old new old' new' a b lines more k l i j h g = one_option contents (command_of words) old new old' new' a b lines more k l i j h g

-- a call that ends so answered this, and wrote it
run_answer : (words : List (List ℕ)) (old new : FilesState) (out to : SinkState) (a : Status) → IsInside a → IsRun words old new out to a
    → (lines : Lines) × IsWordsAnswer words old new a lines × Writes out to (concat lines)
run_answer words old new out to status_is.WriteFault i h = absurd i
run_answer words old new out to status_is.NoMemory i h = absurd i
run_answer words old new out to _ i h = (h.0, h.1, h.2)

pub one_run : OneRun
one_run contents words old new old' new' out to out' to' a b k l i j h g =
    let x = run_answer words old new out to a i h in
    let y = run_answer words old' new' out' to' b j g in
    let same = one_answer contents words old new old' new' a b x.0 y.0 k l i j x.1 y.1 in
    (same.0, concat x.0, x.2, subst (λ lines. Writes out' to' (concat lines)) (sym same.1) y.2)
