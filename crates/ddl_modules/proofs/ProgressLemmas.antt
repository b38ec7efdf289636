-- What the reading of modules keeps from turn to turn.
use Rattle.std.proofs.Common.{◌≡◌, ℕ, ◌+◌, ◌-◌, ◌<◌, ◌≤◌, ◌^◌, List, [], ◌∷◌, ◌++◌, length, refl, ap, ◌∙◌, arith, inl, inr, vec_len, length-append, suc, true}
use Rattle.std.proofs.Common.{false}
use Rattle.std.specs.Prelude.{if◌then◌else◌}
use Rattle.std.specs.Str.{bytes_eq}
use Rattle.ddl_outside.specs.Files.{FilesState, Later}
use Rattle.ddl_outside.proofs.FilesLemmas.{Later-trans, IsAbsent-earlier, IsFailed-earlier}
use Rattle.ddl_tree.specs.declared.module.SourceUnit.{SourceUnit}
use Rattle.ddl_modules.specs.Files.{module_file, module_name}
use Rattle.ddl_modules.specs.Loading.{IsBegun, IsNoTurn, IsQueued, TakesTurn}
use Rattle.ddl_modules.specs.Queue.{imported, prelude_name, queue, with_name, with_names}
use Rattle.ddl_modules.specs.Reading.{AreNotRead, AreRead, IsLastTurn, IsNoTree, Read, TouchesOnlyThese}
use Rattle.ddl_modules.specs.Reading.Read.{prelude, more}
use Rattle.ddl_modules.specs.declared.error.LoadError.{LoadError}
use Rattle.ddl_modules.specs.declared.error.LoadError.TheVariants as refused
use Rattle.ddl_modules.specs.declared.reading.Loading.{Loading}
use Rattle.ddl_modules.proofs.QueueLemmas.{known-more}
use Rattle.ddl_modules.proofs.ReadingLemmas.{Read-later, TouchesOnlyThese-more}

-- names are only added
with_name-longer : (names : List (List ℕ)) (name : List ℕ) → length names ≤ length (with_name names name)
with_name-longer [] name = omega arith
with_name-longer (n ∷ ns) name = elim (bytes_eq n name) as (λ b. suc (length ns) ≤ length (if b then n ∷ ns else n ∷ with_name ns name)) [
  | true ↦ omega arith
  | false ↦ let h = with_name-longer ns name in omega arith
]

pub with_names-longer : (names others : List (List ℕ)) → length names ≤ length (with_names names others)
with_names-longer names [] = omega arith
with_names-longer names (name ∷ others) =
    let one = with_name-longer names name in
    let rest = with_names-longer (with_name names name) others in
    omega arith

pub queue-longer : (root : List ℕ) (us : List SourceUnit) (u : SourceUnit) → length (queue root us) ≤ length (queue root (us ++ u ∷ []))
queue-longer root us u =
    let one_more : queue root (us ++ u ∷ []) ≡ with_names (queue root us) (imported u.tree.imports.items) =
    known-more (prelude_name ∷ module_name root ∷ []) us u in
    rw one_more (with_names-longer (queue root us) (imported u.tree.imports.items))

-- what was read so far, and which files were touched
pub record Progress (begin now : FilesState) (root : List ℕ) (l : Loading) : Type 0 where
  pub later : Later begin now
  pub queued : IsQueued root l
  pub bytes : l.length ≤ 2 ^ 24
  pub within : vec_len l.units ≤ vec_len l.names
  pub read : (names : List (List ℕ)) × Read now root l.units.items names l.length × TouchesOnlyThese names begin now

Later-same : (a : FilesState) → Later a a
Later-same a = record {
  held = refl;
  told = λ name n h. h;
  reach = λ name. omega arith;
  may_fail = refl;
  calm = λ h. refl;
  faults = omega arith;
  misses = omega arith;
}

pub progress-begun : (files : FilesState) (root : List ℕ) (l : Loading) → IsBegun root l → Progress files files root l
progress-begun files root l h =
    let units : l.units.items ≡ h.0 ∷ [] = h.2 in
    let none : l.length ≡ 0 = h.5 in
    let one : length l.units.items ≡ 1 = ap length units in
    let queued : length l.names.items ≡ length (queue root l.units.items) = ap length h.3 in
    let same : length (queue root l.units.items) ≡ length (queue root (h.0 ∷ [])) = ap (λ (us : List SourceUnit). length (queue root us)) units in
    let longer : 2 ≤ length (queue root (h.0 ∷ [])) = with_names-longer (prelude_name ∷ module_name root ∷ []) (imported h.0.tree.imports.items) in
    let units_length = l.units.ok.0 in
    let names_length = l.names.ok.0 in
    record {
      later = Later-same files;
      queued = (h.3, h.4);
      bytes = omega arith;
      within = omega arith;
      read = ([], rw (units, none) (prelude h.1), λ other others. (refl, refl));
    }

-- no more units than names
takes-within : (a b : FilesState) (root : List ℕ) (l l' : Loading) → TakesTurn a b root l l' → vec_len l.units < vec_len l.names → IsQueued root l
    → vec_len l'.units ≤ vec_len l'.names
takes-within a b root l l' h unread queued =
    let units : length l'.units.items ≡ length l.units.items + 1 = ap length h.4 ∙ length-append l.units.items (h.0 ∷ []) in
    let before : length l.names.items ≡ length (queue root l.units.items) = ap length queued.0 in
    let after : length l'.names.items ≡ length (queue root l'.units.items) = ap length h.6.0 in
    let same : length (queue root l'.units.items) ≡ length (queue root (l.units.items ++ h.0 ∷ [])) = ap (λ (us : List SourceUnit). length (queue root us)) h.4
    in
    let longer = queue-longer root l.units.items h.0 in
    let old_units = l.units.ok.0 in
    let new_units = l'.units.ok.0 in
    let old_names = l.names.ok.0 in
    let new_names = l'.names.ok.0 in
    omega arith

pub progress-more : (begin a b : FilesState) (root : List ℕ) (l l' : Loading) → Progress begin a root l → vec_len l.units < vec_len l.names → Later a b
    → TakesTurn a b root l l' → Progress begin b root l'
progress-more begin a b root l l' p unread later h =
    let units : l'.units.items ≡ l.units.items ++ h.0 ∷ [] = h.4 in
    let longer : l'.length ≡ l.length + h.1 = h.5 in
    let within : l.length + h.1 ≤ 2 ^ 24 = h.2.tree.3.1 in
    let names : List (List ℕ) = p.read.0 in
    let grows : vec_len l'.units ≤ vec_len l'.names = takes-within a b root l l' h unread p.queued in
    record {
      later = Later-trans begin a b p.later later;
      queued = h.6;
      bytes = rw longer within;
      within = grows;
      read = (
        names ++ module_file root h.0.name ∷ [],
        rw (units, longer) (more h.0 h.1 (Read-later a b root l.units.items names l.length later p.read.1) h.2),
        TouchesOnlyThese-more names (module_file root h.0.name) begin a b p.read.2 h.3,
      );
    }

pub progress-smaller : (a b : FilesState) (root : List ℕ) (l l' : Loading) → TakesTurn a b root l l' → vec_len l.units < vec_len l.names → IsQueued root l
    → 257 - vec_len l'.units < 257 - vec_len l.units
progress-smaller a b root l l' h unread queued =
    let units : length l'.units.items ≡ length l.units.items + 1 = ap length h.4 ∙ length-append l.units.items (h.0 ∷ []) in
    let new = l'.units.ok.0 in
    let old = l.units.ok.0 in
    let few : vec_len l.names ≤ 257 = queued.1 in
    omega arith

pub progress-done : (begin now : FilesState) (root : List ℕ) (l : Loading) → Progress begin now root l → vec_len l.names ≤ vec_len l.units
    → AreRead begin now root l.units.items
progress-done begin now root l p none =
    let units = l.units.ok.0 in
    let names = l.names.ok.0 in
    let queued : length l.names.items ≡ length (queue root l.units.items) = ap length p.queued.0 in
    let within : vec_len l.units ≤ vec_len l.names = p.within in
    (p.read.0, l.length, p.read.1, omega arith, p.read.2)

IsNoTree-earlier : (begin a b : FilesState) (file name : List ℕ) (before : ℕ) (e : LoadError) → Later begin a → IsNoTree a b file name before e
    → IsNoTree begin b file name before e
IsNoTree-earlier begin a b file name before (refused.Missing missing) later h = (h.0, IsAbsent-earlier begin a b file later h.1)
IsNoTree-earlier begin a b file name before refused.ReadFault later h = IsFailed-earlier begin a b later h
IsNoTree-earlier begin a b file name before (refused.TooLarge large n) later h = h
IsNoTree-earlier begin a b file name before (refused.Source wrong_one error) later h = h
IsNoTree-earlier begin a b file name before refused.NoMemory later h = tt
IsNoTree-earlier begin a b file name before (refused.TooMany importer span) later h = absurd h
IsNoTree-earlier begin a b file name before (refused.Cycle span names) later h = absurd h

IsLastTurn-earlier : (begin a b : FilesState) (root : List ℕ) (us : List SourceUnit) (name : List ℕ) (before : ℕ) (e : LoadError) → Later begin a
    → IsLastTurn a b root us name before e → IsLastTurn begin b root us name before e
IsLastTurn-earlier begin a b root us name before e later (inl h) = inl (IsNoTree-earlier begin a b (module_file root name) name before e later h)
IsLastTurn-earlier begin a b root us name before e later (inr h) = inr h

pub progress-failed : (begin a b : FilesState) (root : List ℕ) (l : Loading) (e : LoadError) → Progress begin a root l → Later a b → IsNoTurn a b root l e
    → AreNotRead begin b root e
progress-failed begin a b root l e p later h =
    inr (
      l.units.items,
      p.read.0,
      l.length,
      h.0,
      Read-later a b root l.units.items p.read.0 l.length later p.read.1,
      h.1,
      TouchesOnlyThese-more p.read.0 (module_file root h.0) begin a b p.read.2 h.2,
      IsLastTurn-earlier begin a b root l.units.items h.0 l.length e p.later h.3,
    )
