-- Groups by number: their members, and which groups they need.
use Rattle.std.specs.Prelude.{◌≡◌, ℕ, ◌<◌, ◌≢◌, ◌⊎◌, ◌++◌, List, [], ◌∷◌, Contains, length, slice_index, slice_set}
use Rattle.ddl_groups.specs.Groups.{IsRising, group_at}
use Rattle.ddl_groups.specs.Reach.{Uses}

-- so many lists, which have no members
abbrev pub AreEmpty : ℕ → List (List ℕ) → Type 0
AreEmpty count lists = (length lists ≡ count) × ((l : ℕ) → group_at lists l ≡ [])

-- the value is added to the end of the list at a place
abbrev pub added : List (List ℕ) → ℕ → ℕ → List (List ℕ)
added lists at value = slice_set lists at (group_at lists at ++ value ∷ [])

-- the lists have the declarations below a number by their labels, in text order
pub record AreMembers (labels : List ℕ) (below : ℕ) (members : List (List ℕ)) : Type 0 where
  pub has : (a : ℕ) → a < below → Contains (group_at members (slice_index labels a)) a
  pub only : (l a : ℕ) → Contains (group_at members l) a → (a < below) × (slice_index labels a ≡ l)
  pub rising : (l : ℕ) → IsRising (group_at members l)

-- the lists have the labels that declarations below a number use, by the label of the declaration and apart from it
pub record AreGroupNeeds (needs : List (List ℕ)) (labels : List ℕ) (below : ℕ) (lists : List (List ℕ)) : Type 0 where
  pub has : (a b : ℕ) → a < below → Uses needs a b → slice_index labels b ≢ slice_index labels a
      → Contains (group_at lists (slice_index labels a)) (slice_index labels b)
  pub only : (l h : ℕ) → Contains (group_at lists l) h → (h ≢ l)
      × ((a : ℕ) × (b : ℕ) × Uses needs a b × (slice_index labels a ≡ l) × (slice_index labels b ≡ h))

-- the list at a label has, beside what it had, the labels apart from it that these declarations have
pub record AreNeedsMore (before : List (List ℕ)) (label : ℕ) (used labels : List ℕ) (lists : List (List ℕ)) : Type 0 where
  pub long : length lists ≡ length before
  pub kept : (l h : ℕ) → Contains (group_at before l) h → Contains (group_at lists l) h
  pub has : (b : ℕ) → Contains used b → slice_index labels b ≢ label → Contains (group_at lists label) (slice_index labels b)
  pub only : (l h : ℕ) → Contains (group_at lists l) h → Contains (group_at before l) h
      ⊎ ((l ≡ label) × (h ≢ label) × ((b : ℕ) × Contains used b × (slice_index labels b ≡ h)))
