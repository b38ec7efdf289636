-- What comes of the text of a module, once its turn came: the module, or the cause why it is not loaded.
use Rattle.std.proofs.Common.{◌≡◌, ◌≤◌, ◌<◌, ◌+◌, ◌^◌, ◌⊎◌, inl, inr, ℕ, List, length, Option, Some, None, Result, Ok, Err, refl, sym, ap, ◌∙◌, subst, arith}
use Rattle.ddl_base.specs.declared.span.Span.{Span}
use Rattle.ddl_source.specs.Source.{HasTree}
use Rattle.ddl_source.specs.declared.error.SourceError.{SourceError}
use Rattle.ddl_tree.specs.ModuleTree.{Module}
use Rattle.ddl_uses.specs.Bindings.{Loaded}
use Rattle.ddl_modules.specs.Queue.{beyond, imported, places}
use Rattle.ddl_modules.specs.Reading.{IsTooLarge, IsWithin, IsWrongText}
use Rattle.ddl_exact.specs.OneSource.{HasSource}
use Rattle.ddl_exact.proofs.Sources.{one_source, one_tree}
use Rattle.ddl_exact_runs.specs.OneLoading.{Cause, missing, too_large, too_many, cycle, wrong}

-- the module of this name that is read from this text
pub record Takes (text : Option (List ℕ)) (number : ℕ) (names : List (List ℕ)) (name : List ℕ) (before : ℕ) (l : Loaded) (n : ℕ) : Type 0 where
  pub bytes : List ℕ
  pub there : text ≡ Some bytes
  pub long : length bytes ≡ n
  pub inside : IsWithin before n
  pub parsed : HasTree number bytes l.tree
  pub called : l.name ≡ name
  pub numbered : l.imports ≡ places names (imported l.tree.imports)
  pub room : beyond names l.tree.imports ≡ None

-- or why none is
abbrev pub Fails : Option (List ℕ) → ℕ → List (List ℕ) → List ℕ → List ℕ → ℕ → Cause → Type 0
Fails text number names name file before (missing f) = (f ≡ file) × (text ≡ None)
Fails text number names name file before (too_large m n) = (m ≡ name) × (bytes : List ℕ) × (text ≡ Some bytes) × (n ≡ length bytes) × IsTooLarge before n
Fails text number names name file before (too_many m span) =
    (m ≡ name) × (bytes : List ℕ) × (tree : Module) × (text ≡ Some bytes) × IsWithin before (length bytes) × HasTree number bytes tree
    × (beyond names tree.imports ≡ Some span)
Fails text number names name file before (cycle span ms) = ⊥
Fails text number names name file before (wrong m error) =
    (m ≡ name) × (bytes : List ℕ) × (text ≡ Some bytes) × IsWithin before (length bytes) × IsWrongText bytes error

-- ---- parts

same_bytes : (text : Option (List ℕ)) (a b : List ℕ) → text ≡ Some a → text ≡ Some b → a ≡ b
same_bytes text a b h k = cc

no_bytes : (text : Option (List ℕ)) (a : List ℕ) → text ≡ None → text ≡ Some a → ⊥
no_bytes text a h k = cc

within_not_large : (most all before n : ℕ) → (most < n) ⊎ (all < before + n) → n ≤ most → before + n ≤ all → ⊥
within_not_large most all before n (inl h) k l = omega arith
within_not_large most all before n (inr h) k l = omega arith

not_large : (before m n : ℕ) → m ≡ n → IsTooLarge before m → IsWithin before n → ⊥
not_large before m n same h k = within_not_large (2 ^ 22) (2 ^ 24) before n (subst (IsTooLarge before) same h) k.0 k.1

same_tree : (number : ℕ) (a b : List ℕ) (x y : Module) → a ≡ b → HasTree number a x → HasTree number b y → x ≡ y
same_tree number a b x y same h k = one_tree number b x y (subst (λ text. HasTree number text x) same h) k

abbrev Answer : Type 0
Answer = Result Module SourceError

ok_not_err : (x : Module) (error : SourceError) (r s : Answer) → r ≡ Ok x → s ≡ Err error → r ≡ s → ⊥
ok_not_err x error r s h k same = cc

err_is : (error other : SourceError) (r s : Answer) → r ≡ Err error → s ≡ Err other → r ≡ s → error ≡ other
err_is error other r s h k same = cc

tree_not_wrong : (number : ℕ) (a b : List ℕ) (x : Module) (error : SourceError) → a ≡ b → HasTree number a x → IsWrongText b error → ⊥
tree_not_wrong number a b x error same h k = ok_not_err x error (Ok x) (Err error) refl refl
    (one_source number b (Ok x) (Err error) (subst (λ text. HasTree number text x) same h) k)

one_wrong : (a b : List ℕ) (error other : SourceError) → a ≡ b → IsWrongText a error → IsWrongText b other → error ≡ other
one_wrong a b error other same h k = err_is error other (Err error) (Err other) refl refl
    (one_source 0 b (Err error) (Err other) (subst (λ text. IsWrongText text error) same h) k)

some_not_none : (o : Option Span) (span : Span) → o ≡ Some span → o ≡ None → ⊥
some_not_none o span h k = cc

one_span : (o p : Option Span) (s t : Span) → o ≡ p → o ≡ Some s → p ≡ Some t → s ≡ t
one_span o p s t same h k = cc

-- ---- the module is one

pub one_length : (text : Option (List ℕ)) (number : ℕ) (names : List (List ℕ)) (name : List ℕ) (before : ℕ) (l m : Loaded) (n o : ℕ)
    → Takes text number names name before l n → Takes text number names name before m o → n ≡ o
one_length text number names name before l m n o h k = sym h.long ∙ ap length (same_bytes text h.bytes k.bytes h.there k.there) ∙ k.long

loaded_eq : (l m : Loaded) → l.name ≡ m.name → l.tree ≡ m.tree → l.imports ≡ m.imports → l ≡ m
loaded_eq l m a b c =
    ap (λ name. record { name = name; tree = l.tree; imports = l.imports }) a
    ∙ ap (λ tree. record { name = m.name; tree = tree; imports = l.imports }) b
    ∙ ap (λ imports. record { name = m.name; tree = m.tree; imports = imports }) c

pub one_module : (text : Option (List ℕ)) (number : ℕ) (names : List (List ℕ)) (name : List ℕ) (before : ℕ) (l m : Loaded) (n o : ℕ)
    → Takes text number names name before l n → Takes text number names name before m o → l ≡ m
one_module text number names name before l m n o h k =
    let tree : l.tree ≡ m.tree = same_tree number h.bytes k.bytes l.tree m.tree (same_bytes text h.bytes k.bytes h.there k.there) h.parsed k.parsed in
    loaded_eq l m (h.called ∙ sym k.called) tree (h.numbered ∙ ap (λ t. places names (imported t.imports)) tree ∙ sym k.numbered)

-- ---- where there is one, nothing fails

pub not_failed : (text : Option (List ℕ)) (number : ℕ) (names : List (List ℕ)) (name file : List ℕ) (before : ℕ) (l : Loaded) (n : ℕ) (c : Cause)
    → Takes text number names name before l n → Fails text number names name file before c → ⊥
not_failed text number names name file before l n (missing f) h k = no_bytes text h.bytes k.1 h.there
not_failed text number names name file before l n (too_large m o) h k =
    not_large before o n (k.3 ∙ ap length (same_bytes text k.1 h.bytes k.2 h.there) ∙ h.long) k.4 h.inside
not_failed text number names name file before l n (too_many m span) h k =
    let tree : k.2 ≡ l.tree = same_tree number k.1 h.bytes k.2 l.tree (same_bytes text k.1 h.bytes k.3 h.there) k.5 h.parsed in
    some_not_none (beyond names l.tree.imports) span (ap (λ t. beyond names t.imports) (sym tree) ∙ k.6) h.room
not_failed text number names name file before l n (cycle span ms) h k = k
not_failed text number names name file before l n (wrong m error) h k =
    tree_not_wrong number h.bytes k.1 l.tree error (same_bytes text h.bytes k.1 h.there k.2) h.parsed k.4

-- ---- what fails is one

pub one_failure : (text : Option (List ℕ)) (number : ℕ) (names : List (List ℕ)) (name file : List ℕ) (before : ℕ) (c d : Cause)
    → Fails text number names name file before c → Fails text number names name file before d → c ≡ d
one_failure text number names name file before (cycle span ms) d h k = absurd h
one_failure text number names name file before c (cycle span ms) h k = absurd k
one_failure text number names name file before (missing f) (missing g) h k = ap missing (h.0 ∙ sym k.0)
one_failure text number names name file before (missing f) (too_large m n) h k = absurd (no_bytes text k.1 h.1 k.2)
one_failure text number names name file before (missing f) (too_many m span) h k = absurd (no_bytes text k.1 h.1 k.3)
one_failure text number names name file before (missing f) (wrong m error) h k = absurd (no_bytes text k.1 h.1 k.2)
one_failure text number names name file before (too_large m n) (missing f) h k = absurd (no_bytes text h.1 k.1 h.2)
one_failure text number names name file before (too_many m span) (missing f) h k = absurd (no_bytes text h.1 k.1 h.3)
one_failure text number names name file before (wrong m error) (missing f) h k = absurd (no_bytes text h.1 k.1 h.2)
one_failure text number names name file before (too_large m n) (too_large l o) h k =
    ap (λ x. too_large x n) (h.0 ∙ sym k.0) ∙ ap (too_large l) (h.3 ∙ ap length (same_bytes text h.1 k.1 h.2 k.2) ∙ sym k.3)
one_failure text number names name file before (too_large m n) (too_many l span) h k =
    absurd (not_large before n (length k.1) (h.3 ∙ ap length (same_bytes text h.1 k.1 h.2 k.3)) h.4 k.4)
one_failure text number names name file before (too_large m n) (wrong l error) h k =
    absurd (not_large before n (length k.1) (h.3 ∙ ap length (same_bytes text h.1 k.1 h.2 k.2)) h.4 k.3)
one_failure text number names name file before (too_many l span) (too_large m n) h k =
    absurd (not_large before n (length h.1) (k.3 ∙ ap length (same_bytes text k.1 h.1 k.2 h.3)) k.4 h.4)
one_failure text number names name file before (wrong l error) (too_large m n) h k =
    absurd (not_large before n (length h.1) (k.3 ∙ ap length (same_bytes text k.1 h.1 k.2 h.2)) k.4 h.3)
one_failure text number names name file before (too_many m s) (too_many l t) h k =
    let tree : h.2 ≡ k.2 = same_tree number h.1 k.1 h.2 k.2 (same_bytes text h.1 k.1 h.3 k.3) h.5 k.5 in
    ap (λ x. too_many x s) (h.0 ∙ sym k.0) ∙ ap (too_many l)
    (one_span (beyond names h.2.imports) (beyond names k.2.imports) s t (ap (λ x. beyond names x.imports) tree) h.6 k.6)
one_failure text number names name file before (too_many m s) (wrong l error) h k =
    absurd (tree_not_wrong number h.1 k.1 h.2 error (same_bytes text h.1 k.1 h.3 k.2) h.5 k.4)
one_failure text number names name file before (wrong l error) (too_many m s) h k =
    absurd (tree_not_wrong number k.1 h.1 k.2 error (same_bytes text k.1 h.1 k.3 h.2) k.5 h.4)
one_failure text number names name file before (wrong m error) (wrong l other) h k =
    ap (λ x. wrong x error) (h.0 ∙ sym k.0) ∙ ap (wrong l) (one_wrong h.1 k.1 error other (same_bytes text h.1 k.1 h.2 k.2) h.4 k.4)
