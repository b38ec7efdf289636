-- What the loading of a root's modules gives is reached from module to module.
use Rattle.std.proofs.Common.{◌≡◌, ◌≤◌, ◌<◌, ◌+◌, ◌^◌, ◌⊎◌, inl, inr, ℕ, List, [], ◌∷◌, ◌++◌, length, map, slice_get, Option, Some, None, option_map, Result}
use Rattle.std.proofs.Common.{Ok, Err, refl, sym, ap, ◌∙◌, subst, arith}
use Rattle.std.proofs.lemmas.List.{length-map, map-append}
use Rattle.ddl_base.specs.declared.span.Span.{Span}
use Rattle.ddl_outside.specs.Files.{Contents, FilesState, HasLength, Holds, IsFile, Lacks}
use Rattle.ddl_source.specs.Source.{HasTree}
use Rattle.ddl_tree.specs.declared.module.Module.{Module}
use Rattle.ddl_tree.specs.declared.module.SourceUnit.{SourceUnit}
use Rattle.ddl_tree.specs.ViewModule.{module_view}
use Rattle.ddl_uses.specs.Bindings.{Loaded}
use Rattle.ddl_uses.specs.Walks.{loaded, unit_view}
use Rattle.ddl_modules.specs.Cycles.{HaveNoCycle}
use Rattle.ddl_modules.specs.Files.{module_file, module_name}
use Rattle.ddl_modules.specs.Loaded.{AreLoaded, AreNotLoaded}
use Rattle.ddl_modules.specs.Queue.{IsNext, beyond, imported, known, places, prelude_name, queue, with_names}
use Rattle.ddl_modules.specs.Reading as reading
use Rattle.ddl_modules.specs.Reading.{AreNotRead, HasTreeIn, IsLastTurn, IsNoPrelude, IsNoText, IsNoTree, IsPrelude, IsTooLarge, IsTooMany, IsTurn, IsWithin}
use Rattle.ddl_modules.specs.Reading.{Read, prelude, more, prelude_text}
use Rattle.ddl_modules.specs.declared.error.LoadError.{LoadError}
use Rattle.ddl_modules.specs.declared.error.LoadError.TheVariants as refused
use Rattle.ddl_exact_runs.specs.Known.{IsKnown}
use Rattle.ddl_exact_runs.specs.OneLoading.{Cause, HasLoaded, OneLoading, cause_of, missing, too_large, too_many, cycle, wrong}
use Rattle.ddl_exact_runs.proofs.Cycles.{is_told, lists_are, lists_of}
use Rattle.ddl_exact_runs.proofs.Stages.{Ends, GoesOn, IsFull, IsTurnOf, Reaches, Stage, Stops, after, ends, goes, known_of, one_reached, queue_of, start}
use Rattle.ddl_exact_runs.proofs.Stages.{text_of}
use Rattle.ddl_exact_runs.proofs.Turns.{Fails, Takes}

-- ---- files of which it is told what they hold

pub held_bytes : (contents : Contents) (files : FilesState) (name bytes : List ℕ) → IsKnown contents files → IsFile files name bytes
    → contents name ≡ Some bytes
held_bytes contents files name bytes k h = subst (λ held. Holds held name bytes) k.held h.1

pub not_held : (contents : Contents) (files : FilesState) (name : List ℕ) → IsKnown contents files → Lacks files.held name → contents name ≡ None
not_held contents files name k h = subst (λ held. Lacks held name) k.held h

bytes_of : (o : Option (List ℕ)) (n : ℕ) → option_map length o ≡ Some n → (bytes : List ℕ) × (o ≡ Some bytes) × (n ≡ length bytes)
bytes_of None n h = cc
bytes_of (Some bytes) n h = (bytes, refl, cc)

pub told_bytes : (contents : Contents) (files : FilesState) (name : List ℕ) (n : ℕ) → IsKnown contents files → files.told name ≡ Some n
    → (bytes : List ℕ) × (contents name ≡ Some bytes) × (n ≡ length bytes)
told_bytes contents files name n k h = bytes_of (contents name) n (subst (λ held. HasLength held name n) k.held (k.lengths name n h))

-- ---- the queue

known_are : (names : List (List ℕ)) (us : List SourceUnit) → known names us ≡ known_of names (loaded us)
known_are names [] = refl
known_are names (u ∷ us) = known_are (with_names names (imported u.tree.imports.items)) us

pub queue_are : (root : List ℕ) (us : List SourceUnit) → queue root us ≡ queue_of root (loaded us)
queue_are root us = known_are (prelude_name ∷ module_name root ∷ []) us

as_many : (us : List SourceUnit) → length us ≡ length (loaded us)
as_many us = sym (length-map us unit_view)

-- ---- stages

abbrev stage : List SourceUnit → ℕ → Stage
stage us n = record { units = loaded us; length = n }

turn_of : (root : List ℕ) (us : List SourceUnit) (n : ℕ) (name : List ℕ) → IsNext root us name → IsTurnOf root (stage us n) name
turn_of root us n name h = sym (ap (λ q. slice_get q (length (loaded us))) (queue_are root us)) ∙ sym (ap (slice_get (queue root us)) (as_many us)) ∙ h

text_behind : (contents : Contents) (root : List ℕ) (us : List SourceUnit) (u : SourceUnit) (name : List ℕ)
    → text_of contents root (loaded (us ++ u ∷ [])) name ≡ contents (module_file root name)
text_behind contents root [] u name = refl
text_behind contents root (v ∷ us) u name = refl

text_after : (contents : Contents) (files : FilesState) (root : List ℕ) (us : List SourceUnit) (names : List (List ℕ)) (n : ℕ) (name : List ℕ)
    → Read files root us names n
    → text_of contents root (loaded us) name ≡ contents (module_file root name)
text_after contents files root us names n name (prelude p) = refl
text_after contents files root us names n name (more {us = vs} u m r t) = text_behind contents root vs u name

-- ---- modules that were read

takes_prelude : (contents : Contents) (root : List ℕ) (u : SourceUnit) → IsPrelude root u → GoesOn contents root start (unit_view u) 0
takes_prelude contents root u p = record {
  name = prelude_name;
  next = refl;
  takes = record {
    bytes = prelude_text;
    there = refl;
    long = refl;
    inside = (omega arith, omega arith);
    parsed = p.1;
    called = p.0;
    numbered = p.2.0;
    room =
        p.2.1;
  };
}

takes_turn : (contents : Contents) (files : FilesState) (root : List ℕ) (us : List SourceUnit) (names : List (List ℕ)) (before : ℕ) (u : SourceUnit) (n : ℕ)
    → IsKnown contents files → Read files root us names before → IsTurn files root us before u n → GoesOn contents root (stage us before) (unit_view u) n
takes_turn contents files root us names before u n k r t =
    let h = t.tree in
    let there : text_of contents root (loaded us) u.name ≡ Some h.0 =
    text_after contents files root us names before u.name r ∙ held_bytes contents files (module_file root u.name) h.0 k h.1 in
    record {
      name = u.name;
      next = turn_of root us before u.name t.next;
      takes = record {
        bytes = h.0;
        there = there;
        long = h.2;
        inside = h.3;
        parsed = subst (λ m. HasTree m h.0 (module_view u.tree)) (as_many us) h.4;
        called = refl;
        numbered = t.imports.0 ∙ ap (λ q. places q (imported u.tree.imports.items)) (queue_are root us);
        room = sym (ap (λ q. beyond q u.tree.imports.items) (queue_are root us)) ∙ t.imports.1;
      };
    }

same_stages : (us : List SourceUnit) (before : ℕ) (u : SourceUnit) (n : ℕ) → stage (us ++ u ∷ []) (before + n) ≡ after (stage us before) (unit_view u) n
same_stages us before u n = ap (λ ls. record { units = ls; length = before + n }) (map-append unit_view us (u ∷ []))

-- what is reached behind modules that were read is reached from the start
pub reached : (contents : Contents) (files : FilesState) (root : List ℕ) (us : List SourceUnit) (names : List (List ℕ)) (n : ℕ) (r : Result (List Loaded) Cause)
    → IsKnown contents files → Read files root us names n → Reaches contents root r (stage us n) → Reaches contents root r start
reached contents files root us names n r k (prelude {u = u} p) h = goes (unit_view u) 0 (takes_prelude contents root u p) h
reached contents files root us names n r k (more {us = vs} {names = ms} {before = before} u m read t) h =
    reached contents files root vs ms before r k read
    (goes (unit_view u) m (takes_turn contents files root vs ms before u m k read t) (subst (Reaches contents root r) (same_stages vs before u m) h))

-- ---- all were read

full : (root : List ℕ) (us : List SourceUnit) (n : ℕ) → length us ≡ length (queue root us) → IsFull root (stage us n)
full root us n h = sym (as_many us) ∙ h ∙ ap length (queue_are root us)

pub reaches_modules : (contents : Contents) (files : FilesState) (root : List ℕ) (us : List SourceUnit) (names : List (List ℕ)) (n : ℕ) → IsKnown contents files
    → Read files root us names n
    → length us ≡ length (queue root us) → HaveNoCycle (map (λ u. u.imports.items) us) → Reaches contents root (Ok (loaded us)) start
reaches_modules contents files root us names n k read all none =
    reached contents files root us names n (Ok (loaded us)) k read (ends (full root us n all, subst HaveNoCycle (lists_are us) none, refl))

-- ---- they were not

some_cause : (c d : Cause) → Some c ≡ Some d → c ≡ d
some_cause c d h = cc

no_cause : (c : Cause) (o : Option Cause) → o ≡ None → o ≡ Some c → ⊥
no_cause c o h k = cc

-- the causes of one stage
abbrev FailsAt : Contents → List ℕ → List SourceUnit → List ℕ → ℕ → Cause → Type 0
FailsAt contents root us name before c = Fails (text_of contents root (loaded us) name) (length (loaded us)) (queue_of root (loaded us)) name
    (module_file root name) before c

stops_at : (contents : Contents) (root : List ℕ) (us : List SourceUnit) (before : ℕ) (name : List ℕ) (c : Cause) → IsNext root us name
    → FailsAt contents root us name before c
    → Ends contents root (stage us before) (Err c)
stops_at contents root us before name (missing f) next h = record { name = name; next = turn_of root us before name next; fails = h }
stops_at contents root us before name (too_large m n) next h = record { name = name; next = turn_of root us before name next; fails = h }
stops_at contents root us before name (too_many m span) next h = record { name = name; next = turn_of root us before name next; fails = h }
stops_at contents root us before name (cycle span ms) next h = absurd h
stops_at contents root us before name (wrong m error) next h = record { name = name; next = turn_of root us before name next; fails = h }

fails_text : (text : List ℕ) (number : ℕ) (names : List (List ℕ)) (name file : List ℕ) (before : ℕ) (e : LoadError) (c : Cause) → cause_of e ≡ Some c
    → IsNoText name text before e → Fails (Some text) number names name file before c
fails_text text number names name file before (refused.TooLarge large n) c same h =
    subst (Fails (Some text) number names name file before) (some_cause (too_large large n) c same) (h.0, text, refl, h.1, h.2)
fails_text text number names name file before (refused.Source one error) c same h =
    subst (Fails (Some text) number names name file before) (some_cause (wrong one error) c same) (h.0, text, refl, h.1, h.2)
fails_text text number names name file before refused.NoMemory c same h = absurd (no_cause c None refl same)
fails_text text number names name file before (refused.Missing f) c same h = absurd h
fails_text text number names name file before refused.ReadFault c same h = absurd h
fails_text text number names name file before (refused.TooMany importer span) c same h = absurd h
fails_text text number names name file before (refused.Cycle span ms) c same h = absurd h

fails_full : (text : Option (List ℕ)) (bytes : List ℕ) (number : ℕ) (names : List (List ℕ)) (name file : List ℕ) (before : ℕ) (tree : Module) (e : LoadError)
    (c : Cause) → cause_of e ≡ Some c
    → text ≡ Some bytes → IsWithin before (length bytes) → HasTree number bytes (module_view tree) → reading.IsFull name (beyond names tree.imports.items) e
    → Fails text number names name file before c
fails_full text bytes number names name file before tree (refused.TooMany importer span) c same there inside parsed h =
    subst (Fails text number names name file before) (some_cause (too_many importer span) c same) (h.0, bytes, module_view tree, there, inside, parsed, h.1)
fails_full text bytes number names name file before tree refused.NoMemory c same there inside parsed h = absurd (no_cause c None refl same)
fails_full text bytes number names name file before tree (refused.TooLarge large n) c same there inside parsed h = absurd h
fails_full text bytes number names name file before tree (refused.Source one error) c same there inside parsed h = absurd h
fails_full text bytes number names name file before tree (refused.Missing f) c same there inside parsed h = absurd h
fails_full text bytes number names name file before tree refused.ReadFault c same there inside parsed h = absurd h
fails_full text bytes number names name file before tree (refused.Cycle span ms) c same there inside parsed h = absurd h

fails_tree : (contents : Contents) (old new : FilesState) (number : ℕ) (names : List (List ℕ)) (name file : List ℕ) (before : ℕ) (e : LoadError) (c : Cause)
    → IsKnown contents new
    → cause_of e ≡ Some c → IsNoTree old new file name before e → Fails (contents file) number names name file before c
fails_tree contents old new number names name file before (refused.Missing f) c k same h =
    subst (Fails (contents file) number names name file before) (some_cause (missing f) c same) (h.0, not_held contents new file k h.1.1)
fails_tree contents old new number names name file before (refused.TooLarge large n) c k same h =
    let b = told_bytes contents new file n k h.1 in
    subst (Fails (contents file) number names name file before) (some_cause (too_large large n) c same) (h.0, b.0, b.1, b.2, h.2)
fails_tree contents old new number names name file before (refused.Source one error) c k same h =
    subst (Fails (contents file) number names name file before) (some_cause (wrong one error) c same)
    (h.0, h.1, held_bytes contents new file h.1 k h.2, h.3, h.4)
fails_tree contents old new number names name file before refused.ReadFault c k same h = absurd (no_cause c None refl same)
fails_tree contents old new number names name file before refused.NoMemory c k same h = absurd (no_cause c None refl same)
fails_tree contents old new number names name file before (refused.TooMany importer span) c k same h = absurd h
fails_tree contents old new number names name file before (refused.Cycle span ms) c k same h = absurd h

fails_turn : (contents : Contents) (old new : FilesState) (root : List ℕ) (us : List SourceUnit) (names : List (List ℕ)) (before : ℕ) (name : List ℕ)
    (e : LoadError) (c : Cause)
    → IsKnown contents new → cause_of e ≡ Some c → Read new root us names before → IsLastTurn old new root us name before e
    → FailsAt contents root us name before c
fails_turn contents old new root us names before name e c k same read (inl h) =
    subst (λ text. Fails text (length (loaded us)) (queue_of root (loaded us)) name (module_file root name) before c)
    (sym (text_after contents new root us names before name read))
    (fails_tree contents old new (length (loaded us)) (queue_of root (loaded us)) name (module_file root name) before e c k same h)
fails_turn contents old new root us names before name e c k same read (inr h) =
    let t = h.2 in
    let there : text_of contents root (loaded us) name ≡ Some t.0 =
    text_after contents new root us names before name read ∙ held_bytes contents new (module_file root name) t.0 k t.1 in
    fails_full (text_of contents root (loaded us) name) t.0 (length (loaded us)) (queue_of root (loaded us)) name (module_file root name) before h.1 e c same
    there
    (subst (IsWithin before) (sym t.2) t.3)
    (subst (λ m. HasTree m t.0 (module_view h.1)) (as_many us) t.4)
    (subst (λ q. reading.IsFull name (beyond q h.1.imports.items) e) (queue_are root us) h.3)

fails_prelude : (contents : Contents) (root : List ℕ) (e : LoadError) (c : Cause) → cause_of e ≡ Some c → IsNoPrelude root e
    → FailsAt contents root [] prelude_name 0 c
fails_prelude contents root e c same (inl h) = fails_text prelude_text 0 (queue_of root []) prelude_name (module_file root prelude_name) 0 e c same h
fails_prelude contents root e c same (inr h) =
    fails_full (Some prelude_text) prelude_text 0 (queue_of root []) prelude_name (module_file root prelude_name) 0 h.0 e c same refl (
      omega arith,
      omega arith,
    ) h.1 h.2

pub reaches_cause : (contents : Contents) (old new : FilesState) (root : List ℕ) (e : LoadError) (c : Cause) → IsKnown contents new → cause_of e ≡ Some c
    → AreNotRead old new root e
    → Reaches contents root (Err c) start
reaches_cause contents old new root e c k same (inl h) = ends (stops_at contents root [] 0 prelude_name c refl (fails_prelude contents root e c same h.1))
reaches_cause contents old new root e c k same (inr h) =
    reached contents new root h.0 h.1 h.2 (Err c) k h.4
    (ends (stops_at contents root h.0 h.2 h.3 c h.5 (fails_turn contents old new root h.0 h.1 h.2 h.3 e c k same h.4 h.7)))

pub reaches_refusal : (contents : Contents) (old new : FilesState) (root : List ℕ) (e : LoadError) (c : Cause) → IsKnown contents new → cause_of e ≡ Some c
    → AreNotLoaded old new root e
    → Reaches contents root (Err c) start
reaches_refusal contents old new root (refused.Cycle span names) c k same h =
    let read = h.1 in
    subst (λ x. Reaches contents root (Err x) start) (some_cause (cycle span names.items) c same)
    (reached contents new root h.0 read.0 read.1 (Err (cycle span names.items)) k read.2 (ends (full root h.0 read.1 read.3, is_told h.0 span names.items h.2)))
reaches_refusal contents old new root (refused.Missing f) c k same h = reaches_cause contents old new root (refused.Missing f) c k same h
reaches_refusal contents old new root (refused.TooLarge m n) c k same h = reaches_cause contents old new root (refused.TooLarge m n) c k same h
reaches_refusal contents old new root (refused.TooMany m span) c k same h = reaches_cause contents old new root (refused.TooMany m span) c k same h
reaches_refusal contents old new root (refused.Source m error) c k same h = reaches_cause contents old new root (refused.Source m error) c k same h
reaches_refusal contents old new root refused.ReadFault c k same h = absurd (no_cause c None refl same)
reaches_refusal contents old new root refused.NoMemory c k same h = absurd (no_cause c None refl same)

-- ---- the law

pub reaches : (contents : Contents) (old new : FilesState) (root : List ℕ) (x : Result (List Loaded) Cause) → IsKnown contents new → HasLoaded old new root x
    → Reaches contents root x start
reaches contents old new root (Ok ls) k h =
    let read = h.1.0 in
    subst (λ x. Reaches contents root (Ok x) start) h.2 (reaches_modules contents new root h.0 read.0 read.1 k read.2 read.3 h.1.1)
reaches contents old new root (Err c) k h = reaches_refusal contents old new root h.0 c k h.2 h.1

pub one_loading : OneLoading
one_loading contents old new old' new' root x y k l h g =
    one_reached contents root x y start (reaches contents old new root x k h) (reaches contents old' new' root y l g)
