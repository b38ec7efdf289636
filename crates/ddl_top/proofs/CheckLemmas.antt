-- What `check` answers, put together from what its parts answer.
use Rattle.std.proofs.Common.{◌≡◌, ℕ, ◌+◌, ◌<◌, ◌≤◌, List, [], ◌∷◌, ◌++◌, length, map, take, refl, sym, subst, ◌∙◌, ◌⊎◌, inl, inr, arith, length-append, get_or}
use Rattle.std.proofs.lemmas.List.{length-map}
use Rattle.std.proofs.lemmas.List.Folds.{length-flat_map-take}
use Rattle.std.proofs.lemmas.Option.{slice_get_cases}
use Rattle.std.specs.Prelude.{Result, Ok, Err, IfOk, Option, Some, None, slice_get, drop, flat_map}
use Rattle.ddl_base.specs.declared.memory.NoMemory.{NoMemory}
use Rattle.ddl_front.specs.Front.{FindsModules, HaveBindings, IsRefused}
use Rattle.ddl_uses.specs.Bindings.{Loaded}
use Rattle.ddl_kinds.specs.Findings.{Finding, first_refusal}
use Rattle.ddl_uses.specs.Walks.{unit_view, loaded}
use Rattle.ddl_names.specs.Modules.{declared_twice, findings_from, one_too_many, too_many}
use Rattle.ddl_kinds.specs.declared.error.NameError.{NameError}
use Rattle.ddl_tree.specs.ModuleTree as mo
use Rattle.ddl_tree.specs.ViewModule.{decl_view}
use Rattle.ddl_outside.specs.Files.{FilesState}
use Rattle.ddl_outside.specs.declared.refusal.Refusal.{Refusal}
use Rattle.ddl_outside.specs.declared.refusal.Refusal.TheVariants as refused
use Rattle.ddl_report.specs.declared.closing.Closing.TheVariants as closing_is
use Rattle.ddl_tree.specs.declared.module.SourceUnit.{SourceUnit}
use Rattle.ddl_top.specs.Answered.{closing_only}
use Rattle.ddl_top.specs.Refusals.{IsRefusalAnswer}
use Rattle.ddl_top.specs.Run.{IsCheckAnswer, all_decls, declarations}
use Rattle.ddl_top.specs.declared.answer.Answer.{Answer}
use Rattle.ddl_top.specs.declared.status.Status.{Status}
use Rattle.ddl_top.specs.declared.status.Status.TheVariants as status_is

check_of_refusal : (root : List ℕ) (old new : FilesState) (refusal : Refusal) (status : Status) (lines : List (List ℕ)) → IsRefused old new root refusal
    → IsRefusalAnswer refusal status lines → IsCheckAnswer root old new status lines
check_of_refusal root old new (refused.Missing file) status lines h k =
    subst (λ s. IsCheckAnswer root old new s lines) (sym k.0) (refused.Missing file, h, (refl, k.1))
check_of_refusal root old new refused.ReadFault status lines h k = subst (λ s. IsCheckAnswer root old new s lines) (sym k.0) (refused.ReadFault, h, (refl, k.1))
check_of_refusal root old new (refused.Refused told) status lines h k =
    subst (λ s. IsCheckAnswer root old new s lines) (sym k.0) (refused.Refused told, h, (refl, k.1))
check_of_refusal root old new refused.Unbuilt status lines h k = subst (λ s. IsCheckAnswer root old new s lines) (sym k.0) (refused.Unbuilt, h, (refl, k.1))
check_of_refusal root old new refused.NoMemory status lines h k = absurd k

pub IfOk-check_refused : (root : List ℕ) (old new : FilesState) (refusal : Refusal) (r : Result Answer NoMemory) → IsRefused old new root refusal
    → IfOk r (λ a. IsRefusalAnswer refusal a.status a.lines.items) → IfOk r (λ a. IsCheckAnswer root old new a.status a.lines.items)
IfOk-check_refused root old new refusal (Ok a) h k = check_of_refusal root old new refusal a.status a.lines.items h k
IfOk-check_refused root old new refusal (Err e) h k = k

pub IfOk-check : (root : List ℕ) (old new : FilesState) (us : List SourceUnit) (r : Result Answer NoMemory) → FindsModules old new root us
    → IfOk r (λ a. (a.status ≡ status_is.Parses) × (a.lines.items ≡ closing_only (closing_is.Declarations (declarations us))))
    → IfOk r (λ a. IsCheckAnswer root old new a.status a.lines.items)
IfOk-check root old new us (Ok a) found h = subst (λ s. IsCheckAnswer root old new s a.lines.items) (sym h.0) (found.0, us, found.1, h.1)
IfOk-check root old new us (Err e) found h = h

-- ---- counting

abbrev Has : {X : Type 0} → Option X → Type 0
Has None = ⊥
Has (Some x) = Unit {0}

Some_not_None : {X : Type 0} (x : X) → Some x ≡ None → ⊥
Some_not_None {X = X} x e = subst (λ (o : Option X). Has o) e tt

same_length : (us : List SourceUnit) → length (flat_map (λ u. u.tree.decls) (map unit_view us)) ≡ length (all_decls us)
same_length [] = refl
same_length (u ∷ us) =
    let views = length-append (map decl_view u.tree.decls.items) (flat_map (λ (x : Loaded). x.tree.decls) (map unit_view us)) in
    let codes = length-append u.tree.decls.items (all_decls us) in
    let one = length-map u.tree.decls.items decl_view in
    let rest = same_length us in
    omega arith

no_more : (o : Option mo.Decl) (twice others : List Finding) → first_refusal (too_many o ++ twice ++ others) ≡ None → o ≡ None
no_more None twice others h = refl
no_more (Some d) twice others h = absurd (subst (λ (o : Option NameError). Has o) h tt)

past : {X : Type 0} (xs : List X) (i : ℕ) → slice_get xs i ≡ None → length xs ≤ i
past {X = X} xs i h = of_case (slice_get_cases xs i).1 where
  of_case : ((x : X) × (i < length xs) × (slice_get xs i ≡ Some x) × (get_or xs i x ≡ x)) ⊎ ((length xs ≤ i) × (slice_get xs i ≡ None)) → length xs ≤ i
  of_case (inl c) = absurd (Some_not_None c.0 (sym c.2 ∙ h))
  of_case (inr c) = c.0

few_after : (us : List SourceUnit) → slice_get (flat_map (λ u. u.tree.decls) (drop 1 (map unit_view us))) 65535 ≡ None → declarations us ≤ 65535
few_after [] h = omega arith
few_after (u ∷ us) h =
    let same = same_length us in
    let few = past (flat_map (λ (x : Loaded). x.tree.decls) (map unit_view us)) 65535 h in
    omega arith

-- modules whose names are bound have few declarations
pub few : (us : List SourceUnit) → HaveBindings us → declarations us ≤ 65535
few us h = few_after us (no_more (one_too_many (loaded us)) (flat_map declared_twice (loaded us)) (findings_from (loaded us) 0 (loaded us)) h)

-- the declarations of the modules before one, and its own, are among all
pub all_before : (us : List SourceUnit) (i : ℕ) (u : SourceUnit) → i < length us → u ≡ get_or us i u
    → length (all_decls (take i us)) + length u.tree.decls.items ≤ length (all_decls us)
all_before us i u within same =
    let h = length-flat_map-take (λ (x : SourceUnit). x.tree.decls.items) us i u within in
    rw (sym same) at h
