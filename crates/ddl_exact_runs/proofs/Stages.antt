-- Loading from module to module, and that it ends in one way.
use Rattle.std.proofs.Common.{◌≡◌, ◌≤◌, ◌<◌, ◌+◌, ◌⊎◌, inl, inr, ℕ, List, [], ◌∷◌, ◌++◌, length, slice_get, Option, Some, None, Result, Ok, Err, refl, sym, ap}
use Rattle.std.proofs.Common.{◌∙◌, subst, arith}
use Rattle.std.proofs.lemmas.Option.{slice_get_within}
use Rattle.ddl_base.specs.declared.span.Span.{Span}
use Rattle.ddl_outside.specs.Files.{Contents}
use Rattle.ddl_uses.specs.Bindings.{Loaded}
use Rattle.ddl_modules.specs.Cycles.{HaveNoCycle, IsFirstCycle}
use Rattle.ddl_modules.specs.Files.{module_file, module_name}
use Rattle.ddl_modules.specs.Queue.{imported, prelude_name, with_names}
use Rattle.ddl_modules.specs.Reading.{prelude_text}
use Rattle.ddl_exact_runs.specs.OneLoading.{Cause, missing, too_large, too_many, cycle, wrong}
use Rattle.ddl_exact_runs.proofs.Cycles.{IsTold, lists_of, one_cycle}
use Rattle.ddl_exact_runs.proofs.Turns.{Fails, Takes, not_failed, one_failure, one_length, one_module}

-- ---- the queue, of modules as definitions see them

abbrev pub known_of : List (List ℕ) → List Loaded → List (List ℕ)
known_of names [] = names
known_of names (l ∷ ls) = known_of (with_names names (imported l.tree.imports)) ls

abbrev pub queue_of : List ℕ → List Loaded → List (List ℕ)
queue_of root ls = known_of (prelude_name ∷ module_name root ∷ []) ls

-- the text of the module of this name behind these modules; behind none it is the prelude's
abbrev pub text_of : Contents → List ℕ → List Loaded → List ℕ → Option (List ℕ)
text_of contents root [] name = Some prelude_text
text_of contents root (l ∷ ls) name = contents (module_file root name)

-- ---- how it goes on and ends

-- the modules that were read, and how many bytes their texts have
pub record Stage : Type 0 where
  pub units : List Loaded
  pub length : ℕ

abbrev pub after : Stage → Loaded → ℕ → Stage
after s l n = record { units = s.units ++ l ∷ []; length = s.length + n }

abbrev pub start : Stage
start = record { units = []; length = 0 }

abbrev pub IsTurnOf : List ℕ → Stage → List ℕ → Type 0
IsTurnOf root s name = slice_get (queue_of root s.units) (length s.units) ≡ Some name

abbrev pub IsFull : List ℕ → Stage → Type 0
IsFull root s = length s.units ≡ length (queue_of root s.units)

pub record GoesOn (contents : Contents) (root : List ℕ) (s : Stage) (l : Loaded) (n : ℕ) : Type 0 where
  pub name : List ℕ
  pub next : IsTurnOf root s name
  pub takes : Takes (text_of contents root s.units name) (length s.units) (queue_of root s.units) name s.length l n

pub record Stops (contents : Contents) (root : List ℕ) (s : Stage) (c : Cause) : Type 0 where
  pub name : List ℕ
  pub next : IsTurnOf root s name
  pub fails : Fails (text_of contents root s.units name) (length s.units) (queue_of root s.units) name (module_file root name) s.length c

abbrev pub Ends : Contents → List ℕ → Stage → Result (List Loaded) Cause → Type 0
Ends contents root s (Ok ls) = IsFull root s × HaveNoCycle (lists_of s.units) × (ls ≡ s.units)
Ends contents root s (Err (cycle span names)) = IsFull root s × IsTold s.units span names
Ends contents root s (Err c) = Stops contents root s c

-- from a stage on, this is reached
pub data Reaches (contents : Contents) (root : List ℕ) (r : Result (List Loaded) Cause) : Stage → Type 0 where
  ends : {s : Stage} → Ends contents root s r → Reaches contents root r s
  goes : {s : Stage} (l : Loaded) (n : ℕ) → GoesOn contents root s l n → Reaches contents root r (after s l n) → Reaches contents root r s

-- ---- one way on

same_name : (o : Option (List ℕ)) (a b : List ℕ) → o ≡ Some a → o ≡ Some b → a ≡ b
same_name o a b h k = cc

not_full : (root : List ℕ) (s : Stage) (name : List ℕ) → IsFull root s → IsTurnOf root s name → ⊥
not_full root s name full next =
    let less : length s.units < length (queue_of root s.units) = slice_get_within (queue_of root s.units) (length s.units) name next in
    absurd (omega arith)

takes_at : (contents : Contents) (root : List ℕ) (s : Stage) (l : Loaded) (n : ℕ) (g : GoesOn contents root s l n) (name : List ℕ) → IsTurnOf root s name
    → Takes (text_of contents root s.units name) (length s.units) (queue_of root s.units) name s.length l n
takes_at contents root s l n g name next =
    let same : g.name ≡ name = same_name (slice_get (queue_of root s.units) (length s.units)) g.name name g.next next in
    subst (λ x. Takes (text_of contents root s.units x) (length s.units) (queue_of root s.units) x s.length l n) same g.takes

same_stage : (contents : Contents) (root : List ℕ) (s : Stage) (l m : Loaded) (n o : ℕ) → GoesOn contents root s l n → GoesOn contents root s m o
    → after s l n ≡ after s m o
same_stage contents root s l m n o g h =
    let t = takes_at contents root s l n g h.name h.next in
    let text : Option (List ℕ) = text_of contents root s.units h.name in
    let unit : l ≡ m = one_module text (length s.units) (queue_of root s.units) h.name s.length l m n o t h.takes in
    let long : n ≡ o = one_length text (length s.units) (queue_of root s.units) h.name s.length l m n o t h.takes in
    ap (λ x. after s x n) unit ∙ ap (after s m) long

goes_and_stops : (contents : Contents) (root : List ℕ) (s : Stage) (l : Loaded) (n : ℕ) (c : Cause) → GoesOn contents root s l n → Stops contents root s c → ⊥
goes_and_stops contents root s l n c g h =
    not_failed (text_of contents root s.units h.name) (length s.units) (queue_of root s.units) h.name (module_file root h.name) s.length l n c
    (takes_at contents root s l n g h.name h.next) h.fails

goes_and_ends : (contents : Contents) (root : List ℕ) (s : Stage) (l : Loaded) (n : ℕ) (r : Result (List Loaded) Cause) → GoesOn contents root s l n
    → Ends contents root s r → ⊥
goes_and_ends contents root s l n (Ok ls) g h = not_full root s g.name h.0 g.next
goes_and_ends contents root s l n (Err (cycle span names)) g h = not_full root s g.name h.0 g.next
goes_and_ends contents root s l n (Err (missing f)) g h = goes_and_stops contents root s l n (missing f) g h
goes_and_ends contents root s l n (Err (too_large m o)) g h = goes_and_stops contents root s l n (too_large m o) g h
goes_and_ends contents root s l n (Err (too_many m span)) g h = goes_and_stops contents root s l n (too_many m span) g h
goes_and_ends contents root s l n (Err (wrong m error)) g h = goes_and_stops contents root s l n (wrong m error) g h

-- ---- one end

one_stop : (contents : Contents) (root : List ℕ) (s : Stage) (c d : Cause) → Stops contents root s c → Stops contents root s d → c ≡ d
one_stop contents root s c d h k =
    let same : h.name ≡ k.name = same_name (slice_get (queue_of root s.units) (length s.units)) h.name k.name h.next k.next in
    let fails : Fails (text_of contents root s.units k.name) (length s.units) (queue_of root s.units) k.name (module_file root k.name) s.length c =
    subst (λ x. Fails (text_of contents root s.units x) (length s.units) (queue_of root s.units) x (module_file root x) s.length c) same h.fails in
    one_failure (text_of contents root s.units k.name) (length s.units) (queue_of root s.units) k.name (module_file root k.name) s.length c d fails k.fails

cycle_and_none : (s : Stage) (span : Span) (names : List (List ℕ)) → HaveNoCycle (lists_of s.units) → IsTold s.units span names → ⊥
cycle_and_none s span names none told = none told.start told.rest told.first.cycle

-- an end as it is compared: all modules were read, or not
data Kind (contents : Contents) (root : List ℕ) (s : Stage) (r : Result (List Loaded) Cause) : Type 0 where
  all_read : IsFull root s → Kind contents root s r
  not_all : (c : Cause) → r ≡ Err c → Stops contents root s c → Kind contents root s r

kind_of : (contents : Contents) (root : List ℕ) (s : Stage) (r : Result (List Loaded) Cause) → Ends contents root s r → Kind contents root s r
kind_of contents root s (Ok ls) h = all_read h.0
kind_of contents root s (Err (cycle span names)) h = all_read h.0
kind_of contents root s (Err (missing f)) h = not_all (missing f) refl h
kind_of contents root s (Err (too_large m o)) h = not_all (too_large m o) refl h
kind_of contents root s (Err (too_many m span)) h = not_all (too_many m span) refl h
kind_of contents root s (Err (wrong m error)) h = not_all (wrong m error) refl h

full_and_stops : (contents : Contents) (root : List ℕ) (s : Stage) (c : Cause) → IsFull root s → Stops contents root s c → ⊥
full_and_stops contents root s c full h = not_full root s h.name full h.next

-- where all modules were read, the end is told by their imports
one_full_end : (contents : Contents) (root : List ℕ) (s : Stage) (x y : Result (List Loaded) Cause) → IsFull root s → Ends contents root s x
    → Ends contents root s y → x ≡ y
one_full_end contents root s (Ok ls) (Ok ms) full h k = ap Ok (h.2 ∙ sym k.2)
one_full_end contents root s (Ok ls) (Err (cycle span names)) full h k = absurd (cycle_and_none s span names h.1 k.1)
one_full_end contents root s (Err (cycle span names)) (Ok ms) full h k = absurd (cycle_and_none s span names k.1 h.1)
one_full_end contents root s (Err (cycle span names)) (Err (cycle other more)) full h k =
    let same = one_cycle s.units span other names more h.1 k.1 in
    ap (λ x. Err (cycle x names)) same.0 ∙ ap (λ x. Err (cycle other x)) same.1
one_full_end contents root s x (Err (missing f)) full h k = absurd (full_and_stops contents root s (missing f) full k)
one_full_end contents root s x (Err (too_large m o)) full h k = absurd (full_and_stops contents root s (too_large m o) full k)
one_full_end contents root s x (Err (too_many m span)) full h k = absurd (full_and_stops contents root s (too_many m span) full k)
one_full_end contents root s x (Err (wrong m error)) full h k = absurd (full_and_stops contents root s (wrong m error) full k)
one_full_end contents root s (Err (missing f)) y full h k = absurd (full_and_stops contents root s (missing f) full h)
one_full_end contents root s (Err (too_large m o)) y full h k = absurd (full_and_stops contents root s (too_large m o) full h)
one_full_end contents root s (Err (too_many m span)) y full h k = absurd (full_and_stops contents root s (too_many m span) full h)
one_full_end contents root s (Err (wrong m error)) y full h k = absurd (full_and_stops contents root s (wrong m error) full h)

by_kind : (contents : Contents) (root : List ℕ) (s : Stage) (x y : Result (List Loaded) Cause) → Ends contents root s x → Ends contents root s y
    → Kind contents root s x → Kind contents root s y → x ≡ y
by_kind contents root s x y h k (all_read full) l = one_full_end contents root s x y full h k
by_kind contents root s x y h k (not_all c same stops) (all_read full) = absurd (full_and_stops contents root s c full stops)
by_kind contents root s x y h k (not_all c same stops) (not_all d also other) = same ∙ ap Err (one_stop contents root s c d stops other) ∙ sym also

one_ending : (contents : Contents) (root : List ℕ) (s : Stage) (x y : Result (List Loaded) Cause) → Ends contents root s x → Ends contents root s y → x ≡ y
one_ending contents root s x y h k = by_kind contents root s x y h k (kind_of contents root s x h) (kind_of contents root s y k)

-- what is reached is one
pub one_reached : (contents : Contents) (root : List ℕ) (x y : Result (List Loaded) Cause) (s : Stage) → Reaches contents root x s → Reaches contents root y s
    → x ≡ y
one_reached contents root x y s (ends h) (ends k) = one_ending contents root s x y h k
one_reached contents root x y s (ends h) (goes l n g k) = absurd (goes_and_ends contents root s l n x g h)
one_reached contents root x y s (goes l n g h) (ends k) = absurd (goes_and_ends contents root s l n y g k)
one_reached contents root x y s (goes l n g h) (goes m o f k) =
    one_reached contents root x y (after s l n) h (subst (Reaches contents root y) (sym (same_stage contents root s l m n o g f)) k)
