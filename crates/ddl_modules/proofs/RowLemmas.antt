-- Rows have the imports of their units.
use Rattle.std.proofs.Common.{◌≡◌, ℕ, zero, suc, ◌<◌, List, [], ◌∷◌, ◌++◌, length, get_or, Contains, Bool, true, false, refl, ap, sym, subst, ◌∙◌, ◌⊎◌, inl}
use Rattle.std.proofs.Common.{inr, arith, take, ◌+◌}
use Rattle.std.specs.Prelude.{◌||◌, ◌==◌}
use Rattle.std.proofs.lemmas.List.{take_more}
use Rattle.std.proofs.lemmas.Slice.Zip.{all_zipped_more}
use Rattle.std.proofs.lemmas.Bool.{eq-eqb, eqb-true, false≢true, or_cases, or_left, or_right}
use Rattle.ddl_tree.specs.declared.module.SourceUnit.{SourceUnit}
use Rattle.ddl_modules.specs.Cycles.{imports_of, IsImport, IsWalk}
use Rattle.ddl_modules.specs.Levels.{has, lists_of, AreRows}
use Rattle.ddl_modules.specs.declared.rows.Row.{Row}

at_or_after : (m : ℕ) (ms : List ℕ) (n k : ℕ) → k < length (m ∷ ms) → get_or (m ∷ ms) k n ≡ n → (m ≡ n) ⊎ Contains ms n
at_or_after m ms n zero l e = inl e
at_or_after m ms n (suc k) l e = inr (k, omega arith, e)

pub first_or_rest : (m : ℕ) (ms : List ℕ) (n : ℕ) → Contains (m ∷ ms) n → (m ≡ n) ⊎ Contains ms n
first_or_rest m ms n c = at_or_after m ms n c.0 c.1 c.2

pub Contains-first : (m : ℕ) (ms : List ℕ) → Contains (m ∷ ms) m
Contains-first m ms = (zero, omega arith, refl)

pub Contains-rest : (m : ℕ) (ms : List ℕ) (n : ℕ) → Contains ms n → Contains (m ∷ ms) n
Contains-rest m ms n c = (suc c.0, omega (arith, c.1), c.2)

pub has_from_Contains : (ms : List ℕ) (n : ℕ) → Contains ms n → has ms n ≡ true
has_from_Contains [] n c = absurd (omega (arith, c.1))
has_from_Contains (m ∷ ms) n c = by (first_or_rest m ms n c) (has_from_Contains ms n)
  where
    by : (m ≡ n) ⊎ Contains ms n → (Contains ms n → has ms n ≡ true) → has (m ∷ ms) n ≡ true
    by (inl e) rest = or_left (m == n) (has ms n) (eq-eqb m n e)
    by (inr d) rest = or_right (m == n) (has ms n) (rest d)

pub Contains_from_has : (ms : List ℕ) (n : ℕ) → has ms n ≡ true → Contains ms n
Contains_from_has [] n h = absurd (false≢true h)
Contains_from_has (m ∷ ms) n h = by (or_cases (m == n) (has ms n) h) (Contains_from_has ms n)
  where
    by : ((m == n) ≡ true) ⊎ (has ms n ≡ true) → (has ms n ≡ true → Contains ms n) → Contains (m ∷ ms) n
    by (inl e) rest = (zero, omega arith, eqb-true m n e)
    by (inr e) rest = Contains-rest m ms n (rest e)

-- a number more at the end
pub has-push : (ms : List ℕ) (m n : ℕ) → has (ms ++ m ∷ []) n ≡ (has ms n || (m == n))
has-push [] m n = elim (m == n) as (λ b. (b || false) ≡ b) [ true ↦ refl | false ↦ refl ]
has-push (k ∷ ms) m n = elim (k == n) as (λ b. (b || has (ms ++ m ∷ []) n) ≡ ((b || has ms n) || (m == n))) [
  | true ↦ refl
  | false ↦ has-push ms m n
]

or_old : (a b : Bool) → (b ≡ true → a ≡ true) → (a || b) ≡ a
or_old true b h = refl
or_old false true h = sym (h refl)
or_old false false h = refl

-- one that is there adds nothing
pub has-old : (ms : List ℕ) (m n : ℕ) → has ms m ≡ true → (has ms n || (m == n)) ≡ has ms n
has-old ms m n h = or_old (has ms n) (m == n) (λ e. ap (has ms) (sym (eqb-true m n e)) ∙ h)

pub same_lists : (us : List SourceUnit) (rows : List Row) (a n : ℕ) → AreRows us rows
    → has (get_or (lists_of rows) a []) n ≡ has (get_or (imports_of us) a []) n
same_lists [] [] a n h = refl
same_lists [] (r ∷ rows) a n h = absurd h
same_lists (u ∷ us) [] a n h = absurd h
same_lists (u ∷ us) (r ∷ rows) zero n h = h.0 n
same_lists (u ∷ us) (r ∷ rows) (suc a) n h = same_lists us rows a n h.1

module _ (us : List SourceUnit) (rows : List Row) (same : AreRows us rows) where
  import_to : (a b : ℕ) → IsImport (lists_of rows) a b → IsImport (imports_of us) a b
  import_to a b h = Contains_from_has (get_or (imports_of us) a []) b (sym (same_lists us rows a b same) ∙ has_from_Contains (get_or (lists_of rows) a []) b h)

  import_from : (a b : ℕ) → IsImport (imports_of us) a b → IsImport (lists_of rows) a b
  import_from a b h = Contains_from_has (get_or (lists_of rows) a []) b (same_lists us rows a b same ∙ has_from_Contains (get_or (imports_of us) a []) b h)

  -- walks by rows are walks by imports
  pub walk_to : (a b : ℕ) (walk : List ℕ) → IsWalk (lists_of rows) a walk b → IsWalk (imports_of us) a walk b
  walk_to a b [] h = import_to a b h
  walk_to a b (next ∷ walk) h = (import_to a next h.0, walk_to next b walk h.1)

  pub walk_from : (a b : ℕ) (walk : List ℕ) → IsWalk (imports_of us) a walk b → IsWalk (lists_of rows) a walk b
  walk_from a b [] h = import_from a b h
  walk_from a b (next ∷ walk) h = (import_from a next h.0, walk_from next b walk h.1)

-- one row more
pub rows_more : (us : List SourceUnit) (rows : List Row) (i : ℕ) (u : SourceUnit) (r : Row) → i < length us → u ≡ get_or us i u → AreRows (take i us) rows
    → ((b : ℕ) → has r.units.items b ≡ has u.imports.items b) → AreRows (take (i + 1) us) (rows ++ r ∷ [])
rows_more us rows i u r l is h same =
    let P : List SourceUnit → Type 0 = λ vs. AreRows vs (rows ++ r ∷ []) in
    let next : take i us ++ u ∷ [] ≡ take (i + 1) us = ap (λ (v : SourceUnit). take i us ++ v ∷ []) is ∙ sym (take_more us i u l) in
    subst P next (all_zipped_more (λ (v : SourceUnit) (q : Row). (b : ℕ) → has q.units.items b ≡ has v.imports.items b) (take i us) rows u r h same)
