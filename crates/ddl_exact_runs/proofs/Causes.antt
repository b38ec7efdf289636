-- What a root whose modules are not loaded, or whose names are not bound, is answered.
use Rattle.std.proofs.Common.{◌≡◌, ◌≢◌, ◌⊎◌, inl, inr, ℕ, List, [], ◌∷◌, map, slice_index_or, decimal, Option, Some, None, Result, Ok, Err, refl, sym, ap, ◌∙◌}
use Rattle.std.proofs.Common.{subst}
use Rattle.ddl_base.specs.declared.span.Span.{Span}
use Rattle.ddl_base.specs.declared.stage.Stage.TheVariants as stage_is
use Rattle.ddl_outside.specs.Files.{Contents, FilesState}
use Rattle.ddl_outside.specs.declared.refusal.Refusal.{Refusal}
use Rattle.ddl_outside.specs.declared.refusal.Refusal.TheVariants as r
use Rattle.ddl_kinds.specs.declared.error.NameError.{NameError}
use Rattle.ddl_kinds.specs.declared.error.NameError.TheVariants as name_is
use Rattle.ddl_report.specs.declared.closing.Closing.TheVariants as closing_is
use Rattle.ddl_source.specs.declared.error.SourceError.{SourceError}
use Rattle.ddl_source.specs.declared.error.SourceError.TheVariants as source_is
use Rattle.ddl_tree.specs.declared.module.SourceUnit.{SourceUnit}
use Rattle.ddl_uses.specs.Bindings.{Loaded}
use Rattle.ddl_uses.specs.Walks.{loaded}
use Rattle.ddl_names.specs.Modules.{refusal}
use Rattle.ddl_modules.specs.declared.error.LoadError.{LoadError}
use Rattle.ddl_modules.specs.declared.error.LoadError.TheVariants as refused
use Rattle.ddl_front.specs.Front.{IsLoadRefusal, IsNameRefusal, IsRefused}
use Rattle.ddl_front.specs.Reasons.{IsLoadReason, IsNameReason, IsSourceReason, Reason, first_name, load_reason, long_reason, reason, reason_view}
use Rattle.ddl_top.specs.Answered.{closing_only}
use Rattle.ddl_top.specs.Refusals.{IsRefusalAnswer, reason_lines}
use Rattle.ddl_top.specs.Run.{IsRefusedWith}
use Rattle.ddl_top.specs.declared.status.Status.{Status}
use Rattle.ddl_top.specs.declared.status.Status.TheVariants as status_is
use Rattle.ddl_exact_runs.specs.Known.{IsKnown}
use Rattle.ddl_exact_runs.specs.OneLoading.{Cause, cause_of, missing, too_large, too_many, cycle, wrong}
use Rattle.ddl_exact_runs.specs.OneRun.{IsInside}
use Rattle.ddl_exact_runs.proofs.Loadings.{reaches, reaches_refusal}
use Rattle.ddl_exact_runs.proofs.Stages.{Reaches, one_reached, start}

abbrev pub Lines : Type 0
Lines = List (List ℕ)

-- two answers are one
abbrev pub AreOne : Status → Lines → Status → Lines → Type 0
AreOne a lines b more = (a ≡ b) × (lines ≡ more)

-- ---- the reason of a text

pub one_source_reason : (name : List ℕ) (error : SourceError) (p q : Reason) → IsSourceReason name error p → IsSourceReason name error q → p ≡ q
one_source_reason name (source_is.Lex f) p q h k = h ∙ sym k
one_source_reason name (source_is.Unexpected j s t) p q h k = h ∙ sym k
one_source_reason name (source_is.TooNested j s t) p q h k = h ∙ sym k
one_source_reason name source_is.NoMemory p q h k = absurd h

-- ---- a cause of loading

abbrev pub CauseAnswer : Cause → Status → Lines → Type 0
CauseAnswer (missing file) a lines = (a ≡ status_is.Missing) × (lines ≡ closing_only (closing_is.Missing file))
CauseAnswer (too_large name n) a lines = (a ≡ status_is.Refused) × (lines ≡ reason_lines (long_reason name n))
CauseAnswer (too_many name span) a lines = (a ≡ status_is.Refused) × (lines ≡ reason_lines (load_reason 4 name span []))
CauseAnswer (cycle span names) a lines = (a ≡ status_is.Refused) × (lines ≡ reason_lines (load_reason 5 (first_name names) span names))
CauseAnswer (wrong name error) a lines = (a ≡ status_is.Refused) × (p : Reason) × IsSourceReason name error p × (lines ≡ reason_lines p)

one_cause_answer : (c : Cause) (a b : Status) (lines more : Lines) → CauseAnswer c a lines → CauseAnswer c b more → AreOne a lines b more
one_cause_answer (missing file) a b lines more h k = (h.0 ∙ sym k.0, h.1 ∙ sym k.1)
one_cause_answer (too_large name n) a b lines more h k = (h.0 ∙ sym k.0, h.1 ∙ sym k.1)
one_cause_answer (too_many name span) a b lines more h k = (h.0 ∙ sym k.0, h.1 ∙ sym k.1)
one_cause_answer (cycle span names) a b lines more h k = (h.0 ∙ sym k.0, h.1 ∙ sym k.1)
one_cause_answer (wrong name error) a b lines more h k =
    (h.0 ∙ sym k.0, h.3 ∙ ap reason_lines (one_source_reason name error h.1 k.1 h.2 k.2) ∙ sym k.3)

-- the cause of a refusal, and that it answers so
abbrev HasCause : LoadError → Status → Lines → Type 0
HasCause e a lines = (c : Cause) × (cause_of e ≡ Some c) × CauseAnswer c a lines

load_reason_cause : (e : LoadError) (p : Reason) (a : Status) (lines : Lines) → IsLoadReason e p → a ≡ status_is.Refused → lines ≡ reason_lines p
    → HasCause e a lines
load_reason_cause (refused.TooLarge name n) p a lines h s l = (too_large name n, refl, (s, l ∙ ap reason_lines h))
load_reason_cause (refused.TooMany name span) p a lines h s l = (too_many name span, refl, (s, l ∙ ap reason_lines h))
load_reason_cause (refused.Cycle span names) p a lines h s l = (cycle span names.items, refl, (s, l ∙ ap reason_lines h))
load_reason_cause (refused.Source name error) p a lines h s l = (wrong name error, refl, (s, p, h, l))
load_reason_cause (refused.Missing file) p a lines h s l = absurd h
load_reason_cause refused.ReadFault p a lines h s l = absurd h
load_reason_cause refused.NoMemory p a lines h s l = absurd h

refusal_cause : (e : LoadError) (f : Refusal) (a : Status) (lines : Lines) → IsInside a → IsLoadRefusal e f → IsRefusalAnswer f a lines → HasCause e a lines
refusal_cause e (r.Missing file) a lines i h k = (missing file, ap cause_of h, (k.0, k.1))
refusal_cause e r.ReadFault a lines i h k = absurd (subst IsInside k.0 i)
refusal_cause e (r.Refused told) a lines i h k = load_reason_cause e (reason_view told) a lines h k.0 k.1
refusal_cause e r.Unbuilt a lines i h k = absurd h
refusal_cause e r.NoMemory a lines i h k = absurd k

-- ---- a refusal of names

pub record NameAnswer (ls : List Loaded) (a : Status) (lines : Lines) : Type 0 where
  pub units : List SourceUnit
  pub are : loaded units ≡ ls
  pub error : NameError
  pub first : refusal ls ≡ Some error
  pub told : Reason
  pub why : IsNameReason units error told
  pub status : a ≡ status_is.Refused
  pub line : lines ≡ reason_lines told

names_of : (us : List SourceUnit) → map (λ u. u.name) us ≡ map (λ l. l.name) (loaded us)
names_of [] = refl
names_of (u ∷ us) = ap (λ names. u.name ∷ names) (names_of us)

abbrev name_at : List (List ℕ) → ℕ → List ℕ
name_at names m = slice_index_or names m []

-- a reason, told by the names of the modules
abbrev told_in : List (List ℕ) → ℕ → Span → List (List ℕ) → Reason
told_in names number span more = reason stage_is.Names number (name_at names span.«module») span.«from» span.to more

one_name_reason : (us vs : List SourceUnit) (error : NameError) (p q : Reason) → map (λ u. u.name) us ≡ map (λ u. u.name) vs
    → IsNameReason us error p → IsNameReason vs error q → p ≡ q
one_name_reason us vs (name_is.Unknown span) p q same h k = h ∙ ap (λ ns. told_in ns 1 span []) same ∙ sym k
one_name_reason us vs (name_is.Twice later first) p q same h k = h ∙ ap (λ ns. told_in ns 2 later (decimal first.«from» ∷ decimal first.to ∷ [])) same ∙ sym k
one_name_reason us vs (name_is.TwoImports span a b) p q same h k = h ∙ ap (λ ns. told_in ns 3 span (name_at ns a ∷ name_at ns b ∷ [])) same ∙ sym k
one_name_reason us vs (name_is.WrongKind span) p q same h k = h ∙ ap (λ ns. told_in ns 4 span []) same ∙ sym k
one_name_reason us vs (name_is.WrongCount span given wanted) p q same h k = h ∙ ap (λ ns. told_in ns 5 span (decimal given ∷ decimal wanted ∷ [])) same ∙ sym k
one_name_reason us vs (name_is.TooManyDecls span) p q same h k = h ∙ ap (λ ns. told_in ns 6 span []) same ∙ sym k
one_name_reason us vs name_is.NoMemory p q same h k = absurd h

some_error : (x y : NameError) (o : Option NameError) → o ≡ Some x → o ≡ Some y → x ≡ y
some_error x y o h k = cc

one_name_answer : (ls : List Loaded) (a b : Status) (lines more : Lines) → NameAnswer ls a lines → NameAnswer ls b more → AreOne a lines b more
one_name_answer ls a b lines more h k =
    let names : map (λ u. u.name) h.units ≡ map (λ u. u.name) k.units =
    names_of h.units ∙ ap (λ ms. map (λ l. l.name) ms) (h.are ∙ sym k.are) ∙ sym (names_of k.units) in
    let error : h.error ≡ k.error = some_error h.error k.error (refusal ls) h.first k.first in
    let why : IsNameReason h.units k.error h.told = subst (λ e. IsNameReason h.units e h.told) error h.why in
    (h.status ∙ sym k.status, h.line ∙ ap reason_lines (one_name_reason h.units k.units k.error h.told k.told names why k.why) ∙ sym k.line)

name_refusal : (us : List SourceUnit) (f : Refusal) (a : Status) (lines : Lines) → IsNameRefusal us f → IsRefusalAnswer f a lines
    → NameAnswer (loaded us) a lines
name_refusal us (r.Refused told) a lines h k = record {
  units = us;
  are = refl;
  error = h.0;
  first = h.1;
  told = reason_view told;
  why = h.2;
  status = k.0;
  line = k.1;
}
name_refusal us r.NoMemory a lines h k = absurd k
name_refusal us (r.Missing file) a lines h k = absurd h
name_refusal us r.ReadFault a lines h k = absurd h
name_refusal us r.Unbuilt a lines h k = absurd h

-- ---- what is answered once it is known what loading gives

-- where names are bound, the rest of the command says what is answered
abbrev pub Gives : (List Loaded → Status → Lines → Type 0) → Result (List Loaded) Cause → Status → Lines → Type 0
Gives Rest (Ok ls) a lines = NameAnswer ls a lines ⊎ ((refusal ls ≡ None) × Rest ls a lines)
Gives Rest (Err c) a lines = CauseAnswer c a lines

not_both : (ls : List Loaded) (error : NameError) → refusal ls ≡ Some error → refusal ls ≡ None → ⊥
not_both ls error h k = cc

abbrev pub OneRest : (List Loaded → Status → Lines → Type 0) → Type 0
OneRest Rest = (ls : List Loaded) (a b : Status) (lines more : Lines) → Rest ls a lines → Rest ls b more → AreOne a lines b more

one_given : (Rest : List Loaded → Status → Lines → Type 0) → OneRest Rest → (x : Result (List Loaded) Cause) (a b : Status) (lines more : Lines)
    → Gives Rest x a lines → Gives Rest x b more
    → AreOne a lines b more
one_given Rest one (Ok ls) a b lines more (inl h) (inl k) = one_name_answer ls a b lines more h k
one_given Rest one (Ok ls) a b lines more (inl h) (inr k) = absurd (not_both ls h.error h.first k.0)
one_given Rest one (Ok ls) a b lines more (inr h) (inl k) = absurd (not_both ls k.error k.first h.0)
one_given Rest one (Ok ls) a b lines more (inr h) (inr k) = one ls a b lines more h.1 k.1
one_given Rest one (Err c) a b lines more h k = one_cause_answer c a b lines more h k

-- what loading gives is reached, and then this is answered
abbrev pub Found : Contents → List ℕ → (List Loaded → Status → Lines → Type 0) → Status → Lines → Type 0
Found contents root Rest a lines = (x : Result (List Loaded) Cause) × Reaches contents root x start × Gives Rest x a lines

pub one_found : (contents : Contents) (root : List ℕ) (Rest : List Loaded → Status → Lines → Type 0) → OneRest Rest → (a b : Status) (lines more : Lines)
    → Found contents root Rest a lines → Found contents root Rest b more → AreOne a lines b more
one_found contents root Rest one a b lines more h k =
    let same : k.0 ≡ h.0 = one_reached contents root k.0 h.0 start k.1 h.1 in
    one_given Rest one h.0 a b lines more h.2 (subst (λ x. Gives Rest x b more) same k.2)

pub found_refusal : (contents : Contents) (root : List ℕ) (Rest : List Loaded → Status → Lines → Type 0) (old new : FilesState) (a : Status) (lines : Lines)
    → IsKnown contents new
    → IsInside a → IsRefusedWith root old new a lines → Found contents root Rest a lines
found_refusal contents root Rest old new a lines k i h = of_refusal h.0 h.1 h.2 where
  of_refusal : (f : Refusal) → IsRefused old new root f → IsRefusalAnswer f a lines → Found contents root Rest a lines
  of_refusal f (inl g) l =
      let c = refusal_cause g.0 f a lines i g.2 l in
      (Err c.0, reaches_refusal contents old new root g.0 c.0 k c.1 g.1, c.2)
  of_refusal f (inr g) l = (Ok (loaded g.0), reaches contents old new root (Ok (loaded g.0)) k (g.0, g.1, refl), inl (name_refusal g.0 f a lines g.2 l))
