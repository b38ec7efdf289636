-- The names of a module, and those of all modules, one more at a time.
use Rattle.std.proofs.Common.{◌≡◌, ℕ, zero, suc, ◌+◌, ◌<◌, ◌≤◌, List, [], ◌∷◌, ◌++◌, length, map, take, get_or, Bool, true, false, cond, Option, Some, None}
use Rattle.std.proofs.Common.{refl, ap, sym, subst, ◌∙◌, add_assoc, add-zero, zero-add, length-append, arith}
use Rattle.std.specs.Prelude.{bytes_eq, slice_get, sum_by}
use Rattle.std.specs.Option.{option_or}
use Rattle.std.specs.HashMap.{HashMap}
use Rattle.std.proofs.lemmas.List.{length-map, length-take-le, map-append, take_all, take_more}
use Rattle.std.proofs.lemmas.List.Sums.{sum_by-append, sum_by-cons}
use denote.Ref.{Bor}
use Rattle.ddl_tree.specs.declared.decl.Decl.{Decl}
use Rattle.ddl_tree.specs.declared.decl.Param.{Param}
use Rattle.ddl_tree.specs.declared.module.SourceUnit.{SourceUnit}
use Rattle.ddl_tree.specs.ModuleTree as mo
use Rattle.ddl_tree.specs.ViewModule.{decl_view, param_view}
use Rattle.ddl_uses.specs.declared.module_names.Numbered.{Numbered}
use Rattle.ddl_uses.specs.declared.module_names.ModuleNames.{ModuleNames}
use Rattle.ddl_uses.specs.Bindings.{Loaded, or_else, declared, decls_of, first_number, meaning_among, meaning_of_decl}
use Rattle.ddl_kinds.specs.Meanings.{Meaning, nothing, two_imports, one, decl_name, param_want}
use Rattle.ddl_uses.specs.Held.{at_text}
use Rattle.ddl_uses.specs.Walks.{AreNames, meaning_in, meaning_of_numbered, unit_view, loaded}

-- what the parameters of a declaration want
pub all_wanted : (ps : List Param) (qs : List mo.Param) → map param_view ps ≡ qs → map (λ p. param_want (param_view p)) ps ≡ map param_want qs
all_wanted ps qs e = by ps ∙ ap (map param_want) e
  where
    by : (ps : List Param) → map (λ p. param_want (param_view p)) ps ≡ map param_want (map param_view ps)
    by [] = refl
    by (p ∷ ps) = ap (λ ws. param_want (param_view p) ∷ ws) (by ps)

-- ---- one declaration more

or_nothing : (m : Meaning) → m ≡ or_else m nothing
or_nothing nothing = refl
or_nothing (two_imports i j) = refl
or_nothing (one b k ws) = refl

or_kept : (o : Option Numbered) (x : Numbered) (b : Bool)
    → meaning_of_numbered (option_or o (cond b (Some x) None))
    ≡ or_else (meaning_of_numbered o) (cond b (meaning_of_decl x.number (decl_view x.decl.now)) nothing)
or_kept None x true = refl
or_kept None x false = refl
or_kept (Some y) x b = refl

pub added : {S : Type 0} (old new : HashMap (Bor (List ℕ)) Numbered S) (text : List ℕ) (x : Numbered) → text ≡ (decl_name (decl_view x.decl.now)).text
    → ((q : List ℕ) → at_text new q ≡ option_or (at_text old q) (cond (bytes_eq text q) (Some x) None))
    → (q : List ℕ) → meaning_of_numbered (at_text new q) ≡ or_else (meaning_of_numbered (at_text old q)) (meaning_among x.number (decl_view x.decl.now ∷ []) q)
added old new text x e u q =
    ap meaning_of_numbered (u q) ∙ or_kept (at_text old q) x (bytes_eq text q)
    ∙ ap (λ t. or_else (meaning_of_numbered (at_text old q)) (cond (bytes_eq t q) (meaning_of_decl x.number (decl_view x.decl.now)) nothing)) e

-- among declarations one after the other a name means what it means among the first, or else what it means among the others
among_append : (n : ℕ) (ds es : List mo.Decl) (text : List ℕ)
    → meaning_among n (ds ++ es) text ≡ or_else (meaning_among n ds text) (meaning_among (n + length ds) es text)
among_append n [] es text = ap (λ k. meaning_among k es text) (sym (add-zero n))
among_append n (d ∷ ds) es text =
    by (bytes_eq (decl_name d).text text) (among_append (n + 1) ds es text
    ∙ ap (λ k. or_else (meaning_among (n + 1) ds text) (meaning_among k es text)) (omega arith))
  where
    by : (b : Bool) → meaning_among (n + 1) (ds ++ es) text ≡ or_else (meaning_among (n + 1) ds text) (meaning_among (n + suc (length ds)) es text)
        → cond b (meaning_of_decl n d) (meaning_among (n + 1) (ds ++ es) text)
        ≡ or_else (cond b (meaning_of_decl n d) (meaning_among (n + 1) ds text)) (meaning_among (n + suc (length ds)) es text)
    by true h = refl
    by false h = h

-- the names of the first k declarations, and one more
pub meanings_more : {S : Type 0} (n k m : ℕ) (ds : List Decl) (d : Decl) (old new : HashMap (Bor (List ℕ)) Numbered S) → k < length ds → d ≡ get_or ds k d
    → m ≡ n + k
    → ((q : List ℕ) → meaning_of_numbered (at_text old q) ≡ meaning_among n (map decl_view (take k ds)) q)
    → ((q : List ℕ) → meaning_of_numbered (at_text new q) ≡ or_else (meaning_of_numbered (at_text old q)) (meaning_among m (decl_view d ∷ []) q))
    → (q : List ℕ) → meaning_of_numbered (at_text new q) ≡ meaning_among n (map decl_view (take (k + 1) ds)) q
meanings_more n k m ds d old new h e number before now q =
    now q ∙ ap (λ x. or_else x (meaning_among m (decl_view d ∷ []) q)) (before q)
    ∙ ap (λ j. or_else (meaning_among n first q) (meaning_among j (decl_view d ∷ []) q)) (number ∙ ap (λ j. n + j) (sym len))
    ∙ sym (among_append n first (decl_view d ∷ []) q) ∙ ap (λ es. meaning_among n es q) (sym more)
  where
    first : List mo.Decl
    first = map decl_view (take k ds)

    len : length first ≡ k
    len = length-map (take k ds) decl_view ∙ length-take-le k ds (omega arith)

    more : map decl_view (take (k + 1) ds) ≡ first ++ decl_view d ∷ []
    more = ap (map decl_view) (take_more ds k d h ∙ ap (λ x. take k ds ++ x ∷ []) (sym e)) ∙ map-append decl_view (take k ds) (d ∷ [])

pub all_meant : {S : Type 0} (n k : ℕ) (ds : List Decl) (by_name : HashMap (Bor (List ℕ)) Numbered S) → length ds ≤ k
    → ((q : List ℕ) → meaning_of_numbered (at_text by_name q) ≡ meaning_among n (map decl_view (take k ds)) q)
    → (q : List ℕ) → meaning_of_numbered (at_text by_name q) ≡ meaning_among n (map decl_view ds) q
all_meant n k ds by_name past h q = h q ∙ ap (λ es. meaning_among n (map decl_view es) q) (take_all k ds past)

-- ---- one module more

abbrev size : Loaded → ℕ
size u = length u.tree.decls

-- a name as a module declares it, where the first declaration of all has this number
abbrev declared_from : ℕ → List Loaded → ℕ → List ℕ → Meaning
declared_from n units m text = meaning_among (n + sum_by size (take m units)) (decls_of units m) text

from_zero : (units : List Loaded) (m : ℕ) (text : List ℕ) → declared_from 0 units m text ≡ declared units m text
from_zero units m text = ap (λ n. meaning_among n (decls_of units m) text) (zero-add (first_number units m))

-- numbers that go on behind a module
behind : (n : ℕ) (v : Loaded) (us : List Loaded) → n + sum_by size (v ∷ us) ≡ (n + size v) + sum_by size us
behind n v us = ap (λ k. n + k) (sum_by-cons size v us) ∙ sym (add_assoc n (size v) (sum_by size us))

one_behind : (n : ℕ) (us : List Loaded) (u : Loaded) (names : List ModuleNames) (x : ModuleNames) → length names ≡ length us
    → ((m : ℕ) (text : List ℕ) → meaning_in (slice_get names m) text ≡ declared_from n us m text)
    → ((text : List ℕ) → meaning_in (Some x) text ≡ meaning_among (n + sum_by size us) u.tree.decls text)
    → (m : ℕ) (text : List ℕ) → meaning_in (slice_get (names ++ x ∷ []) m) text ≡ declared_from n (us ++ u ∷ []) m text
one_behind n [] u [] x e h new zero text = new text
one_behind n [] u [] x e h new (suc m) text = nothing_there m
  where
    nothing_there : (m : ℕ) → nothing ≡ declared_from n (u ∷ []) (suc m) text
    nothing_there zero = refl
    nothing_there (suc m) = refl
one_behind n [] u (y ∷ names) x e h new m text = absurd (omega arith)
one_behind n (v ∷ us) u [] x e h new m text = absurd (omega arith)
one_behind n (v ∷ us) u (y ∷ names) x e h new zero text = h zero text
one_behind n (v ∷ us) u (y ∷ names) x e h new (suc m) text =
    one_behind (n + size v) us u names x (omega arith)
    (λ k t. h (suc k) t ∙ ap (λ j. meaning_among j (decls_of us k) t) (behind n v (take k us)))
    (λ t. new t ∙ ap (λ j. meaning_among j u.tree.decls t) (behind n v us)) m text
    ∙ ap (λ j. meaning_among j (decls_of (us ++ u ∷ []) m) text) (sym (behind n v (take m (us ++ u ∷ []))))

-- modules as far as their names are known, and the number of the next declaration
pub record AreNamed (us : List SourceUnit) (names : List ModuleNames) (next : ℕ) : Type 0 where
  pub known : AreNames (loaded us) names
  pub as_many : length names ≡ length us
  pub numbered : next ≡ sum_by size (loaded us)

pub none_named : (us : List SourceUnit) → AreNamed (take 0 us) [] 0
none_named us = record {
  known = nothing_there;
  as_many = refl;
  numbered = refl;
}
  where
    nothing_there : (m : ℕ) (text : List ℕ) → nothing ≡ declared [] m text
    nothing_there zero text = refl
    nothing_there (suc m) text = refl

pub one_named : (us : List SourceUnit) (k : ℕ) (u : SourceUnit) (names : List ModuleNames) (x : ModuleNames) (first next : ℕ) → k < length us
    → u ≡ get_or us k u
    → AreNamed (take k us) names first → ((text : List ℕ) → meaning_in (Some x) text ≡ meaning_among first (map decl_view u.tree.decls.items) text)
    → next ≡ first + length u.tree.decls.items → AreNamed (take (k + 1) us) (names ++ x ∷ []) next
one_named us k u names x first next less e h new more =
    subst (λ vs. AreNamed vs (names ++ x ∷ []) next) (sym (take_more us k u less ∙ ap (λ v. take k us ++ v ∷ []) (sym e))) one
  where
    units : List Loaded
    units = loaded (take k us)

    split : loaded (take k us ++ u ∷ []) ≡ units ++ unit_view u ∷ []
    split = map-append unit_view (take k us) (u ∷ [])

    known : (m : ℕ) (text : List ℕ) → meaning_in (slice_get (names ++ x ∷ []) m) text ≡ declared (units ++ unit_view u ∷ []) m text
    known m text =
        one_behind 0 units (unit_view u) names x (h.as_many ∙ sym (length-map (take k us) unit_view))
        (λ j t. h.known j t ∙ sym (from_zero units j t))
        (λ t. new t ∙ ap (λ n. meaning_among n (map decl_view u.tree.decls.items) t) (h.numbered ∙ sym (zero-add (sum_by size units)))) m text
        ∙ from_zero (units ++ unit_view u ∷ []) m text

    one : AreNamed (take k us ++ u ∷ []) (names ++ x ∷ []) next
    one = record {
      known = λ m text. known m text ∙ ap (λ vs. declared vs m text) (sym split);
      as_many = length-append names (x ∷ []) ∙ ap (λ n. n + 1) h.as_many ∙ sym (length-append (take k us) (u ∷ []));
      numbered = more ∙ ap (λ n. n + length u.tree.decls.items) h.numbered ∙ sized ∙ ap (sum_by size) (sym split);
    }
      where
        sum_by_single : (v : Loaded) → sum_by size (v ∷ []) ≡ size v
        sum_by_single v = sum_by-cons size v [] ∙ add-zero (size v)

        sized : sum_by size units + length u.tree.decls.items ≡ sum_by size (units ++ unit_view u ∷ [])
        sized = ap (λ n. sum_by size units + n) (sym (length-map u.tree.decls.items decl_view) ∙ sym (sum_by_single (unit_view u)))
            ∙ sym (sum_by-append size units (unit_view u ∷ []))

-- the same, as a program has its parts
pub module_named : (us : List SourceUnit) (k : ℕ) (u : SourceUnit) (ds : List Decl) (names all : List ModuleNames) (x : ModuleNames) (first next : ℕ)
    → k < length us → u ≡ get_or us k u
    → AreNamed (take k us) names first → ds ≡ u.tree.decls.items → ((text : List ℕ) → meaning_in (Some x) text ≡ meaning_among first (map decl_view ds) text)
    → next ≡ first + length ds → all ≡ names ++ x ∷ [] → AreNamed (take (k + 1) us) all next
module_named us k u ds names all x first next less e h same new more more_names =
    subst (λ ns. AreNamed (take (k + 1) us) ns next) (sym more_names)
    (one_named us k u names x first next less e h (λ t. new t ∙ ap (λ es. meaning_among first (map decl_view es) t) same) (more
    ∙ ap (λ es. first + length es) same))

pub all_named : (us : List SourceUnit) (k : ℕ) (names : List ModuleNames) (next : ℕ) → length us ≤ k → AreNamed (take k us) names next
    → AreNames (loaded us) names
all_named us k names next past h = subst (λ vs. AreNames (loaded vs) names) (take_all k us past) h.known

pub ruleset naming = (all_wanted, added, all_meant, none_named, all_named)
