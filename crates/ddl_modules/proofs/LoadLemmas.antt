-- Facts of what was read.
use Rattle.std.proofs.Common.{◌≡◌, ℕ, ◌+◌, ◌<◌, ◌≤◌, List, [], ◌∷◌, ◌++◌, length, get_or, refl, ap, sym, subst, ◌∙◌, inl, inr, arith, Bool, true, false, zero}
use Rattle.std.proofs.Common.{suc, drop, Contains, length-drop}
use Rattle.std.specs.Prelude.{if◌then◌else◌, ◌||◌, map, slice_get, Some}
use Rattle.std.specs.Str.{bytes_eq}
use Rattle.std.specs.List.{All}
use Rattle.std.proofs.lemmas.Bool.{false≢true, ne_eqb}
use Rattle.std.proofs.lemmas.List.{drop_more, get_or-map, length-map, nil_from_length}
use Rattle.std.proofs.lemmas.List.Elements.{All-cons, All-nil, All-push, All-weaker}
use Rattle.std.proofs.lemmas.Option.{slice_get_read}
use Rattle.ddl_base.specs.declared.span.Span.{Span}
use Rattle.ddl_outside.specs.Files.{FilesState}
use Rattle.ddl_tree.specs.declared.module.Import.{Import}
use Rattle.ddl_tree.specs.declared.module.SourceUnit.{SourceUnit}
use Rattle.ddl_modules.specs.Files.{module_name}
use Rattle.ddl_modules.specs.Cycles.{import_span, imports_of, second_of, unit_name, IsCycle, IsFirstCycle, IsImport, IsToldCycle}
use Rattle.ddl_modules.specs.Levels.{has}
use Rattle.ddl_modules.specs.Loaded.{AreNotLoaded, HasPlaces, IsCycleOf}
use Rattle.ddl_modules.specs.Queue.{imported, place, places, prelude_name, known, queue, with_name, with_names}
use Rattle.ddl_modules.specs.Reading.{AreNotRead, AreRead, HasImports, IsLastTurn, IsNoPrelude, Read, TouchesOnlyThese}
use Rattle.ddl_modules.specs.Reading.Read.{prelude, more}
use Rattle.ddl_modules.specs.declared.error.LoadError.{LoadError}
use Rattle.ddl_modules.specs.declared.error.LoadError.TheVariants as refused
use Rattle.ddl_modules.proofs.ProgressLemmas.{queue-longer, with_names-longer}
use Rattle.ddl_modules.proofs.QueueLemmas.{known-more}
use Rattle.ddl_modules.proofs.RowLemmas.{has_from_Contains}
use Rattle.ddl_modules.proofs.SearchLemmas.{cycle_within}

length-places : (names others : List (List ℕ)) → length (places names others) ≡ length others
length-places names [] = refl
length-places names (name ∷ others) = let h = length-places (with_name names name) others in omega arith

length-imported : (imports : List Import) → length (imported imports) ≡ length imports
length-imported [] = refl
length-imported (i ∷ imports) = let h = length-imported imports in omega arith

has_places : (names : List (List ℕ)) (u : SourceUnit) → HasImports names u → HasPlaces u
has_places names u h = ap length h.0 ∙ (length-places names (imported u.tree.imports.items) ∙ length-imported u.tree.imports.items)

-- each unit that was read has the places of its imports
pub all_places : (files : FilesState) (root : List ℕ) (us : List SourceUnit) (names : List (List ℕ)) (n : ℕ) → Read files root us names n → All HasPlaces us
all_places files root us names n (prelude {u = u} p) = All-push HasPlaces [] u (All-nil HasPlaces) (has_places (queue root []) u p.2)
all_places files root us names n (more {us = us'} {names = names'} {before = before} u m r t) =
    All-push HasPlaces us' u (all_places files root us' names' before r) (has_places (queue root us') u t.imports)

-- the queue has the prelude and the root
queue-two : (root : List ℕ) (us : List SourceUnit) → 2 ≤ length (queue root us)
queue-two root us = from_two (prelude_name ∷ module_name root ∷ []) us (omega arith)
  where
    from_two : (names : List (List ℕ)) (us : List SourceUnit) → 2 ≤ length names → 2 ≤ length (known names us)
    from_two names [] h = h
    from_two names (u ∷ us) h = let l = with_names-longer names (imported u.tree.imports.items)
        in from_two (with_names names (imported u.tree.imports.items)) us (omega arith)

-- where all was read, memory may have run out at the last module
without_memory : (old new : FilesState) (root : List ℕ) (us : List SourceUnit) (names : List (List ℕ)) (n : ℕ) → Read new root us names n → 2 ≤ length us
    → TouchesOnlyThese names old new → AreNotRead old new root refused.NoMemory
without_memory old new root us names n (prelude {u = u} p) two only = absurd (omega arith)
without_memory old new root us names n (more {us = us'} {names = names'} {before = before} u m r t) two only =
    inr (us', names', before, u.name, r, t.next, only, inl tt)

pub read_without_memory : (old new : FilesState) (root : List ℕ) (us : List SourceUnit) → AreRead old new root us → AreNotRead old new root refused.NoMemory
read_without_memory old new root us h =
    let two = queue-two root us in
    without_memory old new root us h.0 h.1 h.2 (omega (arith, h.3)) h.4

-- there are the prelude and the root
pub two_units : (old new : FilesState) (root : List ℕ) (us : List SourceUnit) → AreRead old new root us → 2 ≤ length us
two_units old new root us h = let two = queue-two root us in omega (arith, h.3)

place_below : (names : List (List ℕ)) (name : List ℕ) → place names name < length (with_name names name)
place_below [] name = omega arith
place_below (other ∷ names) name = elim (bytes_eq other name) as (λ b.
    (if b then 0 else place names name + 1) < length (if b then other ∷ names else other ∷ with_name names name)) [
      | true ↦ omega arith
      | false ↦ let h = place_below names name in omega arith
    ]

-- these are all less than n
abbrev pub AreBelow : ℕ → List ℕ → Type 0
AreBelow n places = All (λ p. p < n) places

below_more : (m n : ℕ) (ps : List ℕ) → m ≤ n → AreBelow m ps → AreBelow n ps
below_more m n ps l h = λ k d w. let b : get_or ps k d < m = h k d w in omega arith

places_below : (names others : List (List ℕ)) → AreBelow (length (with_names names others)) (places names others)
places_below names [] = All-nil (λ p. p < length names)
places_below names (name ∷ others) =
    let n : ℕ = length (with_names (with_name names name) others) in
    let l : length (with_name names name) ≤ n = with_names-longer (with_name names name) others in
    let b : place names name < length (with_name names name) = place_below names name in
    All-cons (λ p. p < n) (place names name) (places (with_name names name) others) (omega arith) (places_below (with_name names name) others)

imports_below : (root : List ℕ) (us : List SourceUnit) (u : SourceUnit) → HasImports (queue root us) u
    → AreBelow (length (queue root (us ++ u ∷ []))) u.imports.items
imports_below root us u h =
    let P : List ℕ → Type 0 = λ ps. AreBelow (length (queue root (us ++ u ∷ []))) ps in
    let Q : List (List ℕ) → Type 0 = λ q. AreBelow (length q) (places (queue root us) (imported u.tree.imports.items)) in
    subst P (sym h.0) (subst Q (sym (known-more (prelude_name ∷ module_name root ∷ []) us u)) (places_below (queue root us) (imported u.tree.imports.items)))

all_below : (files : FilesState) (root : List ℕ) (us : List SourceUnit) (names : List (List ℕ)) (n : ℕ) → Read files root us names n
    → All (λ u. AreBelow (length (queue root us)) u.imports.items) us
all_below files root us names n (prelude {u = u} p) =
    All-cons (λ v. AreBelow (length (queue root (u ∷ []))) v.imports.items) u [] (imports_below root [] u p.2)
    (All-nil (λ v. AreBelow (length (queue root (u ∷ []))) v.imports.items))
all_below files root us names n (more {us = us'} {names = names'} {before = before} u m r t) =
    let here : SourceUnit → Type 0 = λ v. AreBelow (length (queue root (us' ++ u ∷ []))) v.imports.items in
    let longer : length (queue root us') ≤ length (queue root (us' ++ u ∷ [])) = queue-longer root us' u in
    All-push here us' u
    (All-weaker (λ v. AreBelow (length (queue root us')) v.imports.items) here (λ v h.
    below_more (length (queue root us')) (length (queue root (us' ++ u ∷ []))) v.imports.items longer h) us'
    (all_below files root us' names' before r))
    (imports_below root us' u t.imports)

-- each import leads to a unit
pub imports_lead_to_units : (old new : FilesState) (root : List ℕ) (us : List SourceUnit) → AreRead old new root us
    → All (λ u. AreBelow (length us) u.imports.items) us
imports_lead_to_units old new root us h =
    let P : ℕ → Type 0 = λ n. All (λ u. AreBelow n u.imports.items) us in
    subst P (sym h.3) (all_below new root us h.0 h.1 h.2)

-- an import of another unit is passed over
pub span_step : (units : List ℕ) (imports : List Import) (b i : ℕ) → length units ≡ length imports → i < length units → (get_or units i 0 ≡ b → ⊥)
    → import_span (drop i units) (drop i imports) b ≡ import_span (drop (suc i) units) (drop (suc i) imports) b
span_step [] imports b i e l n = absurd (omega arith)
span_step (a ∷ units) [] b i e l n = absurd (omega arith)
span_step (a ∷ units) (x ∷ imports) b zero e l n = ap (λ (t : Bool). if t then Some x.name.span else import_span units imports b) (ne_eqb a b n)
span_step (a ∷ units) (x ∷ imports) b (suc i) e l n = span_step units imports b i (omega arith) (omega arith) n

pub has_step : (units : List ℕ) (b i : ℕ) → i < length units → (get_or units i 0 ≡ b → ⊥) → has (drop i units) b ≡ has (drop (i + 1) units) b
has_step units b i l n =
    ap (λ (us : List ℕ). has us b) (drop_more units i 0 l) ∙ ap (λ (t : Bool). t || has (drop (i + 1) units) b) (ne_eqb (get_or units i 0) b n)

-- what is not among the units that are left
pub none_left : (units : List ℕ) (b i : ℕ) → length units ≤ i → Contains units b → has units b ≡ has (drop i units) b → ⊥
none_left units b i l c e =
    let none : drop i units ≡ [] = nil_from_length (drop i units) (simp length-drop (omega arith)) in
    false≢true (sym (ap (λ (us : List ℕ). has us b) none) ∙ (sym e ∙ has_from_Contains units b c))

-- a unit of a cycle imports the next
pub second_import : (lists : List (List ℕ)) (a : ℕ) (rest : List ℕ) → IsCycle lists a rest → IsImport lists a (second_of a rest)
second_import lists a [] w = w
second_import lists a (b ∷ rest) w = w.0

pub unit_within : (us : List SourceUnit) (a : ℕ) (rest : List ℕ) → IsCycle (imports_of us) a rest → a < length us
unit_within us a rest w = let l = cycle_within (imports_of us) a a rest w in omega (arith, length-map us (λ (u : SourceUnit). u.imports.items))

pub imports_at : (us : List SourceUnit) (a : ℕ) (u : SourceUnit) → a < length us → u ≡ get_or us a u → get_or (imports_of us) a [] ≡ u.imports.items
imports_at us a u l is = get_or-map (λ (x : SourceUnit). x.imports.items) us a u [] l ∙ ap (λ (x : SourceUnit). x.imports.items) (sym is)

-- reading and what loading answers
pub not_loaded : (old new : FilesState) (root : List ℕ) (e : LoadError) → AreNotRead old new root e → AreNotLoaded old new root e
not_loaded old new root (refused.Cycle span modules) h = absurd (by h)
  where
    first : IsNoPrelude root (refused.Cycle span modules) → ⊥
    first (inl none) = none
    first (inr none) = none.2

    last : (us : List SourceUnit) (name : List ℕ) (before : ℕ) → IsLastTurn old new root us name before (refused.Cycle span modules) → ⊥
    last us name before (inl none) = none
    last us name before (inr none) = none.3

    by : AreNotRead old new root (refused.Cycle span modules) → ⊥
    by (inl none) = first none.1
    by (inr none) = last none.0 none.3 none.2 none.7
not_loaded old new root (refused.Missing file) h = h
not_loaded old new root refused.ReadFault h = h
not_loaded old new root (refused.TooLarge name n) h = h
not_loaded old new root (refused.TooMany name span) h = h
not_loaded old new root (refused.Source name error) h = h
not_loaded old new root refused.NoMemory h = h

pub told_cycle : (old new : FilesState) (root : List ℕ) (us : List SourceUnit) (e : LoadError) → AreRead old new root us → IsCycleOf us e
    → AreNotLoaded old new root e
told_cycle old new root us (refused.Cycle span modules) r h = (us, r, h)
told_cycle old new root us (refused.Missing file) r h = absurd h
told_cycle old new root us refused.ReadFault r h = absurd h
told_cycle old new root us (refused.TooLarge name n) r h = absurd h
told_cycle old new root us (refused.TooMany name span) r h = absurd h
told_cycle old new root us (refused.Source name error) r h = absurd h
told_cycle old new root us refused.NoMemory r h = absurd h

-- the cycle as it is told, from what was found
pub told_of : (us : List SourceUnit) (a : ℕ) (rest : List ℕ) (u : SourceUnit) (b : ℕ) (span : Span) (names : List (List ℕ))
    → IsFirstCycle (imports_of us) a rest → u ≡ get_or us a u
    → b ≡ second_of a rest → import_span u.imports.items u.tree.imports.items b ≡ Some span → names ≡ map (unit_name us) (a ∷ rest) → IsToldCycle us span names
told_of us a rest u b span names first is second there named =
    let unit : slice_get us a ≡ Some u = slice_get_read us (length us) a u refl (unit_within us a rest first.cycle) is in
    let here : import_span u.imports.items u.tree.imports.items (second_of a rest) ≡ Some span =
    ap (import_span u.imports.items u.tree.imports.items) (sym second) ∙ there in
    (a, rest, first, (u, unit, here), named)
