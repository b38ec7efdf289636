-- Facts of the queue of names.
use Rattle.std.proofs.Common.{◌≡◌, ℕ, ◌+◌, ◌<◌, ◌≤◌, List, [], ◌∷◌, ◌++◌, length, drop, get_or, suc, refl, ap, sym, ◌∙◌, Bool, true, false, arith}
use Rattle.std.proofs.Common.{length-append, append_assoc}
use Rattle.std.specs.Prelude.{Some, None, Option, nat_lt, if◌then◌else◌}
use Rattle.std.specs.Str.{bytes_eq}
use Rattle.std.proofs.lemmas.List.{drop_more}
use Rattle.ddl_base.specs.declared.span.Span.{Span}
use Rattle.ddl_tree.specs.declared.module.Import.{Import}
use Rattle.ddl_tree.specs.declared.module.SourceUnit.{SourceUnit}
use Rattle.ddl_modules.specs.Queue.{place, with_name, with_names, places, imported, beyond, known}
use Rattle.ddl_modules.specs.Reading.{IsFull}
use Rattle.ddl_modules.specs.declared.error.LoadError.{LoadError}
use Rattle.ddl_modules.specs.declared.error.LoadError.TheVariants as refused
use Rattle.std.proofs.lemmas.Bool.{ltb-true}

-- the place of a name, where the names up to one are others
pub place_found : (all rest : List (List ℕ)) (i : ℕ) (name n : List ℕ) (ns : List (List ℕ)) → rest ≡ n ∷ ns → bytes_eq n name ≡ true
    → place all name ≡ i + place rest name → i ≡ place all name
place_found all rest i name n ns r here h =
    let z : place rest name ≡ 0 = rw r (rw here refl) in omega arith

pub place_next : (all rest : List (List ℕ)) (i : ℕ) (name n : List ℕ) (ns : List (List ℕ)) → rest ≡ n ∷ ns → bytes_eq n name ≡ false
    → place all name ≡ i + place rest name → place all name ≡ (i + 1) + place ns name
place_next all rest i name n ns r other h =
    let z : place rest name ≡ place ns name + 1 = rw r (rw other refl) in omega arith

pub place-within : (names : List (List ℕ)) (name : List ℕ) → place names name ≤ length names
place-within [] name = omega arith
place-within (n ∷ ns) name = elim (bytes_eq n name) as (λ b. (if b then 0 else place ns name + 1) ≤ suc (length ns)) [
  | true ↦ omega arith
  | false ↦ let h = place-within ns name in omega arith
]

-- a name that is there adds nothing
pub with_name-old : (names : List (List ℕ)) (name : List ℕ) → place names name < length names → with_name names name ≡ names
with_name-old [] name = λ h. absurd (omega arith)
with_name-old (n ∷ ns) name = elim (bytes_eq n name) as (λ b. (if b then 0 else place ns name + 1) < suc (length ns)
    → (if b then n ∷ ns else n ∷ with_name ns name) ≡ n ∷ ns) [
      | true ↦ λ h. refl
      | false ↦ λ h. ap (λ (l : List (List ℕ)). n ∷ l) (with_name-old ns name (omega arith))
    ]

-- one that is not stands at the end
pub with_name-new : (names : List (List ℕ)) (name : List ℕ) → length names ≤ place names name → with_name names name ≡ names ++ name ∷ []
with_name-new [] name = λ h. refl
with_name-new (n ∷ ns) name = elim (bytes_eq n name) as (λ b. suc (length ns) ≤ (if b then 0 else place ns name + 1)
    → (if b then n ∷ ns else n ∷ with_name ns name) ≡ n ∷ (ns ++ name ∷ [])) [
      | true ↦ λ h. absurd (omega arith)
      | false ↦ λ h. ap (λ (l : List (List ℕ)). n ∷ l) (with_name-new ns name (omega arith))
    ]

-- the names once one unit more was read
pub known-more : (names : List (List ℕ)) (us : List SourceUnit) (u : SourceUnit)
    → known names (us ++ u ∷ []) ≡ with_names (known names us) (imported u.tree.imports.items)
known-more names [] u = refl
known-more names (v ∷ vs) u = known-more (with_names names (imported v.tree.imports.items)) vs u

-- a full queue has no room for a name that is not in it
pub full_at : (names : List (List ℕ)) (name : List ℕ) (span : Span) → length names ≡ 257 → length names ≤ place names name
    → (if nat_lt 257 (length (with_name names name)) then Some span else None) ≡ Some span
full_at names name span full new =
    let longer : length (with_name names name) ≡ 258 = ap length (with_name-new names name new) ∙ (length-append names (name ∷ []) ∙ (omega arith)) in
    rw longer refl

-- the first of the imports that are left, at a place in all of them
pub imports_from : (imports : List Import) (i : ℕ) (x : Import) → i < length imports → x ≡ get_or imports i x → drop i imports ≡ x ∷ drop (i + 1) imports
imports_from imports i x within is = drop_more imports i x within ∙ ap (λ (y : Import). y ∷ drop (i + 1) imports) (sym is)

-- what is left of places, of names and of the look for one too many, once one import more was taken
pub places_step : (all done : List ℕ) (names : List (List ℕ)) (rest : List Import) (x : Import) (more : List Import) → rest ≡ x ∷ more
    → all ≡ done ++ places names (imported rest) → all ≡ (done ++ place names x.name.text ∷ []) ++ places (with_name names x.name.text) (imported more)
places_step all done names rest x more e h =
    let split : done ++ places names (imported rest) ≡ done ++ places names (imported (x ∷ more)) =
    ap (λ (l : List Import). done ++ places names (imported l)) e in
    h ∙ (split ∙ sym (append_assoc done (place names x.name.text ∷ []) (places (with_name names x.name.text) (imported more))))

pub names_step : (all : List (List ℕ)) (names : List (List ℕ)) (rest : List Import) (x : Import) (more : List Import) → rest ≡ x ∷ more
    → all ≡ with_names names (imported rest) → all ≡ with_names (with_name names x.name.text) (imported more)
names_step all names rest x more e h = h ∙ ap (λ (l : List Import). with_names names (imported l)) e

nat_lt-not : (n : ℕ) → n ≤ 257 → nat_lt 257 n ≡ false
nat_lt-not n h = by_test (nat_lt 257 n) refl where
  by_test : (b : Bool) → nat_lt 257 n ≡ b → b ≡ false
  by_test false e = refl
  by_test true e = absurd (let l : 257 < n = ltb-true 257 n e in omega arith)

pub beyond_step : (all : Option Span) (names : List (List ℕ)) (rest : List Import) (x : Import) (more : List Import) → rest ≡ x ∷ more
    → length (with_name names x.name.text) ≤ 257 → all ≡ beyond names rest → all ≡ beyond (with_name names x.name.text) more
beyond_step all names rest x more e few h =
    let first : beyond names (x ∷ more) ≡ beyond (with_name names x.name.text) more =
    ap (λ (b : Bool). if b then Some x.name.span else beyond (with_name names x.name.text) more) (nat_lt-not (length (with_name names x.name.text)) few) in
    h ∙ (ap (beyond names) e ∙ first)

pub beyond_here : (all : Option Span) (names : List (List ℕ)) (rest : List Import) (x : Import) (more : List Import) (importer : List ℕ) (e : LoadError)
    → rest ≡ x ∷ more
    → all ≡ beyond names rest → IsFull importer (if nat_lt 257 (length (with_name names x.name.text)) then Some x.name.span else None) e → IsFull importer all e
beyond_here all names rest x more importer e r h full = by_error e full where
  first : (b : Bool) (o : Option Span) (span : Span) → (if b then Some x.name.span else None) ≡ Some span → (if b then Some x.name.span else o) ≡ Some span
  first true o span f = f
  first false o span f = absurd (cc)

  by_error : (e : LoadError) → IsFull importer (if nat_lt 257 (length (with_name names x.name.text)) then Some x.name.span else None) e → IsFull importer all e
  by_error (refused.TooMany name span) f =
      (f.0, h ∙ (ap (beyond names) r ∙ first (nat_lt 257 (length (with_name names x.name.text))) (beyond (with_name names x.name.text) more) span f.1))
  by_error refused.NoMemory f = tt
  by_error (refused.Missing file) f = absurd f
  by_error refused.ReadFault f = absurd f
  by_error (refused.TooLarge name n) f = absurd f
  by_error (refused.Cycle span names) f = absurd f
  by_error (refused.Source name error) f = absurd f
