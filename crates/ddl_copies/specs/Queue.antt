-- A queue: what it meets from an entry, in order, and the least set that is closed under use.
use Rattle.std.specs.Prelude.{◌≡◌, ℕ, zero, suc, List, [], ◌∷◌, ◌++◌, Option, Some, None, length}

-- it stands in the list
pub data Within {A : Type 0} (x : A) : List A → Type 0 where
  at_front : {xs : List A} → Within x (x ∷ xs)
  behind : {y : A} {xs : List A} → Within x xs → Within x (y ∷ xs)

-- the least set that has the entry and, with each of its elements, what that one uses
pub data Reached {A : Type 0} (uses : A → List A) (entry : A) : A → Type 0 where
  at_entry : Reached uses entry entry
  by_use : {x u : A} → Reached uses entry x → Within u (uses x) → Reached uses entry u

-- the element of a number
abbrev pub item : {A : Type 0} → List A → ℕ → Option A
item [] d = None
item (x ∷ xs) zero = Some x
item (x ∷ xs) (suc d) = item xs d

-- a list with those of other elements that it lacks, each once, in their order
pub data Joins {A : Type 0} : List A → List A → List A → Type 0 where
  all_there : {xs : List A} → Joins xs [] xs
  is_there : {u : A} {xs us ys : List A} → Within u xs → Joins xs us ys → Joins xs (u ∷ us) ys
  is_new : {u : A} {xs us ys : List A} → (Within u xs → ⊥) → Joins (xs ++ (u ∷ [])) us ys → Joins xs (u ∷ us) ys

-- what a queue has met from an entry once so many of its elements were looked at, in order, each for what it uses
pub data Met {A : Type 0} (uses : A → List A) (entry : A) : ℕ → List A → Type 0 where
  at_first : Met uses entry 0 (entry ∷ [])
  and_then : {d : ℕ} {x : A} {xs ys : List A} → Met uses entry d xs → item xs d ≡ Some x → Joins xs (uses x) ys → Met uses entry (suc d) ys

-- all that a queue meets: each element was looked at
abbrev pub MetInAll : {A : Type 0} → (A → List A) → A → List A → Type 0
MetInAll uses entry xs = Met uses entry (length xs) xs
