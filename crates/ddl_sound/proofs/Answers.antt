-- What is never Stuck has an answer wherever the depth is large enough.
use Rattle.std.proofs.Common.{◌≡◌, ℕ, zero, suc, List, [], ◌∷◌, length, Option, Some, None, refl, ◌∙◌, ap}
use Rattle.std.specs.Prelude.{◌≢◌}
use Rattle.ddl_base.specs.declared.span.Span.{Span}
use Rattle.ddl_types.specs.Layout.{Layout}
use Rattle.ddl_types.specs.Types.{Ty}
use Rattle.ddl_types.specs.Outcome.{Outcome, Ending, Parsed, Failure, End, Faulted, Deep, Stuck, tick, ending, parses, failures}
use Rattle.ddl_types.specs.Answer.{counted, failed, faulted, answer_at}
use Rattle.ddl_types.specs.BestFailure.{best_of, furthest, last_failure, first_of_two}
use Rattle.ddl_types.specs.PlainOf.{is_too_deep}
use Rattle.ddl_ops.specs.Valued.{given, then_parse}
use Rattle.ddl_typed.specs.Tree.{Expr, Decl, Spec}
use Rattle.ddl_typed.specs.Meaning.{Run, form_at, decl_at}
use Rattle.ddl_typed.specs.Denoted.{Denoted, whole_input}
use Rattle.ddl_typed.specs.Told.{Told, told, told_of}
use Rattle.ddl_typed.specs.Specification.{Place}
use Rattle.ddl_typed.proofs.Depths.{one_outcome}
use Rattle.ddl_typed.proofs.Telling.{denoted_says_why}
use Rattle.ddl_mono.specs.Copies.{spec_of}
use Rattle.ddl_sound.specs.HasType.{Bytes, IsStream}
use Rattle.ddl_sound.specs.IsTyped.{layouts_of, entry_type}
use Rattle.ddl_sound.specs.Sound.{Parses}
use Rattle.ddl_sound.specs.Laws.{HasAnswer, TypedAnswers, KeptAnswers}
use Rattle.ddl_sound.proofs.Joins.{fine_ending}
use Rattle.ddl_sound.proofs.Reading.{none_some}
use Rattle.ddl_sound.proofs.Keeping.{sound_cut}
use Rattle.ddl_sound.proofs.NeverStuck.{run_fine, kept_fine}

-- ---- the answer of an outcome

record Best (fs : List Failure) : Type 0 where
  best : Failure
  is : best_of fs ≡ Some best

last_there : (f : Failure) (fs : List Failure) → (g : Failure) × (last_failure (f ∷ fs) ≡ Some g)
last_there f [] = (f, refl)
last_there f (g ∷ fs) = last_there g fs

best_by : (o : Option Failure) (fs : List Failure) → furthest fs ≡ o → ((g : Failure) × (last_failure fs ≡ Some g)) → Best fs
best_by (Some g) fs e last = record { best = g; is = ap (λ o. first_of_two o (last_failure fs)) e }
best_by None fs e last = record { best = last.0; is = ap (λ o. first_of_two o (last_failure fs)) e ∙ last.1 }

best_there : (fs : List Failure) → fs ≢ [] → Best fs
best_there [] h = absurd (h refl)
best_there (f ∷ fs) h = best_by (furthest (f ∷ fs)) (f ∷ fs) refl (last_there f fs)

-- an answer that says why
record Says (o : Option Told) : Type 0 where
  answer : Told
  is : o ≡ Some answer
  why : answer.closing ≢ counted 0

counts_some : (n : ℕ) → counted (suc n) ≡ counted 0 → ⊥
counts_some n e = absurd cc

failed_is : (f : Failure) → failed f ≡ counted 0 → ⊥
failed_is f e = absurd cc

faulted_is : (fault : Rattle.ddl_types.specs.declared.fault.Fault.Fault) (span : Span) → faulted fault span ≡ counted 0 → ⊥
faulted_is fault span e = absurd cc

says : (e : Ending) (ps : List Parsed) (fs : List Failure) → e ≢ Deep → e ≢ Stuck → (e ≡ End → ps ≡ [] → fs ≢ []) →
    Says (told_of (answer_at e ps (best_of fs)))
says End (p ∷ ps) fs d s h = record { answer = _; is = refl; why = counts_some (length ps) }
says End [] fs d s h =
    let best = best_there fs (h refl refl) in
    record { answer = record { parses = []; closing = failed best.best }; is = ap (λ o. told_of (answer_at End [] o)) best.is; why = failed_is best.best }
says (Faulted fault span) ps fs d s h = record { answer = _; is = refl; why = faulted_is fault span }
says Deep ps fs d s h = absurd (d refl)
says Stuck ps fs d s h = absurd (s refl)

-- ---- what is denoted

-- a run that is not Stuck is one of a declaration of a form
found : (o : Option Expr) (k : Expr → Outcome) → ending (tick (then_parse (given o) k)) ≢ Stuck → (e : Expr) × (o ≡ Some e)
found (Some e) k h = (e, refl)
found None k h = absurd (h refl)

decl_fine : (places : List Place) (layouts : List Layout) (ty : Ty) (decls : List Decl) (f : ℕ) (e : Expr) (k : Decl → Outcome) → form_at decls f ≡ Some e →
    ((d : Decl) → Parses places layouts ty (k d)) → Parses places layouts ty (decl_at decls f k)
decl_fine places layouts ty [] f e k is h = absurd (none_some is)
decl_fine places layouts ty (d ∷ ds) zero e k is h = h d
decl_fine places layouts ty (d ∷ ds) (suc f) e k is h = decl_fine places layouts ty ds f e k is h

denoted_fine : (places : List Place) (layouts : List Layout) (ty : Ty) (n : ℕ) (spec : Spec) (entry : ℕ) (input : List ℕ) →
    Parses places layouts ty (Run n spec entry (whole_input input)) → Parses places layouts ty (Denoted n spec entry input)
denoted_fine places layouts ty n spec entry input h =
    let there = found (form_at spec.decls entry) _ (fine_ending places layouts ty (Run n spec entry (whole_input input)) h) in
    decl_fine places layouts ty spec.decls entry there.0 _ there.1 (λ d. sound_cut places layouts ty is_too_deep d.name
    (Run n spec entry (whole_input input)) h)

answers : (places : List Place) (layouts : List Layout) (ty : Ty) (spec : Spec) (entry : ℕ) (input : List ℕ) →
    ((n : ℕ) → Parses places layouts ty (Run n spec entry (whole_input input))) → HasAnswer spec entry input
answers places layouts ty spec entry input h n whole =
    let o = Denoted n spec entry input in
    let it = says (ending o) (parses o) (failures o) whole (fine_ending places layouts ty o (denoted_fine places layouts ty n spec entry input (h n)))
    (denoted_says_why n spec entry input) in
    (it.answer, (record { enough = (n, whole); always = λ m w. ap told (one_outcome m n spec entry input w whole) ∙ it.is }, it.why))

input_is : (input : List ℕ) → Bytes input → IsStream (whole_input input)
input_is input h = (h, omega Rattle.std.proofs.Common.arith, omega Rattle.std.proofs.Common.arith)

pub typed_answers : TypedAnswers
typed_answers m typed input h =
    answers m.places (layouts_of m) (entry_type m) (spec_of m) m.entry input (λ n. run_fine m typed n (whole_input input) (input_is input h))

pub kept_answers : KeptAnswers
kept_answers m typed spec entry c input h k =
    answers m.places (layouts_of m) (entry_type m) spec entry input (λ n. kept_fine m typed spec entry c (whole_input input) (input_is input h) k n)
