-- What names mean that are no local ones.
use Rattle.std.proofs.Common.{◌≡◌, ℕ, zero, suc, ◌<◌, ◌≤◌, List, [], ◌∷◌, length, map, get_or, Bool, true, false, cond, Option, Some, None, refl, ap, sym}
use Rattle.std.proofs.Common.{subst, ◌∙◌, true≢false, is_some, eq-eqb, ◌+◌, arith}
use Rattle.std.specs.Prelude.{bytes_eq, find, filter, not, ◌&&◌, nat_eq, unwrap_or}
use Rattle.std.proofs.lemmas.Option.{slice_get-get_or, slice_get_past}
use Rattle.ddl_tree.specs.declared.module.SourceUnit.{SourceUnit}
use Rattle.ddl_tree.specs.ModuleTree as mo
use Rattle.ddl_uses.specs.declared.module_names.ModuleNames.{ModuleNames}
use Rattle.ddl_uses.specs.Bindings.{Loaded, or_else, only_or_two, is_bound, is_declared, imported_by, imports_of, declared, decls_of, first_number}
use Rattle.ddl_uses.specs.Bindings.{meaning_among, meaning_of_decl}
use Rattle.ddl_kinds.specs.Meanings.{Meaning, nothing, two_imports, one, decl_name}
use Rattle.ddl_uses.specs.Walks.{AreNames, is_other, meaning_in, unit_view}

-- ---- the names of a module

pub named : (units : List Loaded) (names : List ModuleNames) (m : ℕ) (text : List ℕ) (n : ModuleNames) → AreNames units names → m < length names
    → n ≡ get_or names m n
    → meaning_in (Some n) text ≡ declared units m text
named units names m text n h less e = ap (λ o. meaning_in o text) (ap Some e ∙ sym (slice_get-get_or names m n less)) ∙ h m text

pub unnamed : (units : List Loaded) (names : List ModuleNames) (m : ℕ) (text : List ℕ) → AreNames units names → length names ≤ m
    → nothing ≡ declared units m text
unnamed units names m text h past = ap (λ o. meaning_in o text) (sym (slice_get_past names m past)) ∙ h m text

among : (n : ℕ) (ds : List mo.Decl) (text : List ℕ) → is_bound (meaning_among n ds text) ≡ is_some (find (λ d. bytes_eq (decl_name d).text text) ds)
among n [] text = refl
among n (d ∷ ds) text = by (bytes_eq (decl_name d).text text) (among (n + 1) ds text)
  where
    by : (b : Bool) → is_bound (meaning_among (n + 1) ds text) ≡ is_some (find (λ d. bytes_eq (decl_name d).text text) ds)
        → is_bound (cond b (meaning_of_decl n d) (meaning_among (n + 1) ds text)) ≡ is_some (cond b (Some d) (find (λ d. bytes_eq (decl_name d).text text) ds))
    by true h = refl
    by false h = h

-- a module declares a name where the name means something in it
pub declares : (units : List Loaded) (m : ℕ) (text : List ℕ) → is_bound (declared units m text) ≡ is_declared units text m
declares units m text = among (first_number units m) (decls_of units m) text

-- ---- imports

pub imports_at : (us : List SourceUnit) (m : ℕ) (u : SourceUnit) → m < length us → u ≡ get_or us m u → u.imports.items ≡ imports_of (map unit_view us) m
imports_at [] m u h e = absurd (omega arith)
imports_at (x ∷ us) zero u h e = ap (λ v. v.imports.items) e
imports_at (x ∷ us) (suc m) u h e = imports_at us m u (omega arith) e

pub imports_past : (us : List SourceUnit) (m : ℕ) → length us ≤ m → [] ≡ imports_of (map unit_view us) m
imports_past [] zero h = refl
imports_past [] (suc m) h = refl
imports_past (x ∷ us) zero h = absurd (omega arith)
imports_past (x ∷ us) (suc m) h = imports_past us m (omega arith)

never : (t : Bool) (x y : Option ℕ) → cond (t && false) x y ≡ y
never true x y = refl
never false x y = refl

-- the first element of those that pass a test that passes another one too
find_filter : (p r : ℕ → Bool) (ms : List ℕ) → find r (filter p ms) ≡ find (λ i. r i && p i) ms
find_filter p r [] = refl
find_filter p r (m ∷ ms) = by (p m) (find_filter p r ms)
  where
    passes : (c : Bool) → find r (filter p ms) ≡ find (λ i. r i && p i) ms
        → cond c (Some m) (find r (filter p ms)) ≡ cond (c && true) (Some m) (find (λ i. r i && p i) ms)
    passes true h = refl
    passes false h = h

    by : (b : Bool) → find r (filter p ms) ≡ find (λ i. r i && p i) ms
        → find r (cond b (m ∷ filter p ms) (filter p ms)) ≡ cond (r m && b) (Some m) (find (λ i. r i && p i) ms)
    by true h = passes (r m) h
    by false h = h ∙ sym (never (r m) (Some m) (find (λ i. r i && p i) ms))

-- the imports that declare a name: the first, and the first that differs from it
import_found : (units : List Loaded) (text : List ℕ) (first : ℕ) (ms : List ℕ) → find (is_declared units text) ms ≡ Some first
    → imported_by units text (filter (is_declared units text) ms) ≡ only_or_two first (find (is_other units text first) ms) (declared units first text)
import_found units text first [] h = absurd (true≢false (sym (ap is_some h)))
import_found units text first (m ∷ ms) h = by (is_declared units text m) h (import_found units text first ms)
  where
    others : List ℕ
    others = filter (is_declared units text) ms

    itself : only_or_two m (find (λ i. not (nat_eq i m)) others) (declared units m text)
        ≡ only_or_two m (cond (not (nat_eq m m) && true) (Some m) (find (is_other units text m) ms)) (declared units m text)
    itself =
        ap (λ o. only_or_two m o (declared units m text))
        (find_filter (is_declared units text) (λ i. not (nat_eq i m)) ms
        ∙ sym (ap (λ t. cond (not t && true) (Some m) (find (is_other units text m) ms)) (eq-eqb m m refl)))

    by : (b : Bool) → cond b (Some m) (find (is_declared units text) ms) ≡ Some first
        → (find (is_declared units text) ms ≡ Some first → imported_by units text others
        ≡ only_or_two first (find (is_other units text first) ms) (declared units first text))
        → imported_by units text (cond b (m ∷ others) others)
        ≡ only_or_two first (cond (not (nat_eq m first) && b) (Some m) (find (is_other units text first) ms)) (declared units first text)
    by true h more =
        subst (λ (k : ℕ). only_or_two m (find (λ i. not (nat_eq i m)) others) (declared units m text)
        ≡ only_or_two k (cond (not (nat_eq m k) && true) (Some m) (find (is_other units text k) ms)) (declared units k text))
        (ap (λ o. unwrap_or o 0) h) itself
    by false h more = more h ∙ ap (λ o. only_or_two first o (declared units first text))
        (sym (never (not (nat_eq m first)) (Some m) (find (is_other units text first) ms)))

pub import_one : (units : List Loaded) (text : List ℕ) (first : ℕ) (ms : List ℕ) → find (is_declared units text) ms ≡ Some first
    → find (is_other units text first) ms ≡ None
    → declared units first text ≡ imported_by units text (filter (is_declared units text) ms)
import_one units text first ms h alone = sym (import_found units text first ms h ∙ ap (λ o. only_or_two first o (declared units first text)) alone)

pub import_two : (units : List Loaded) (text : List ℕ) (first second : ℕ) (ms : List ℕ) → find (is_declared units text) ms ≡ Some first
    → find (is_other units text first) ms ≡ Some second
    → two_imports first second ≡ imported_by units text (filter (is_declared units text) ms)
import_two units text first second ms h two = sym (import_found units text first ms h ∙ ap (λ o. only_or_two first o (declared units first text)) two)

pub import_none : (units : List Loaded) (text : List ℕ) (ms : List ℕ) → find (is_declared units text) ms ≡ None
    → nothing ≡ imported_by units text (filter (is_declared units text) ms)
import_none units text [] h = refl
import_none units text (m ∷ ms) h = by (is_declared units text m) h (import_none units text ms)
  where
    by : (b : Bool) → cond b (Some m) (find (is_declared units text) ms) ≡ None
        → (find (is_declared units text) ms ≡ None → nothing ≡ imported_by units text (filter (is_declared units text) ms))
        → nothing ≡ imported_by units text (cond b (m ∷ filter (is_declared units text) ms) (filter (is_declared units text) ms))
    by true h more = absurd (true≢false (ap is_some h))
    by false h more = more h

-- ---- the first that is something

pub or_bound : (m n : Meaning) → is_bound m ≡ true → m ≡ or_else m n
or_bound nothing n h = absurd (true≢false (sym h))
or_bound (two_imports i j) n h = refl
or_bound (one b k ws) n h = refl

pub or_unbound : (m n : Meaning) → is_bound m ≡ false → n ≡ or_else m n
or_unbound nothing n h = refl
or_unbound (two_imports i j) n h = absurd (true≢false h)
or_unbound (one b k ws) n h = absurd (true≢false h)

pub ruleset outside = (named, unnamed, declares, imports_at, imports_past, import_one, import_two, import_none, or_bound, or_unbound)
