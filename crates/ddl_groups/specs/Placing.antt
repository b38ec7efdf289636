-- How groups, which have numbers here, are placed: each once all that it needs is.
use Rattle.std.specs.Prelude.{◌≡◌, ℕ, ◌<◌, ◌≤◌, ◌⊎◌, Bool, true, false, List, Contains, length, map, slice_index, slice_index_or, Vec}
use Rattle.std.specs.declared.alloc.Global.{Global}
use Rattle.ddl_groups.specs.Groups.{group_at}

-- the lists that vectors hold
abbrev pub lists_of : List (Vec ℕ Global) → List (List ℕ)
lists_of vectors = map (λ v. v.items) vectors

-- the group of a number is placed
abbrev pub IsPlaced : List Bool → ℕ → Type 0
IsPlaced placed l = slice_index_or placed l false ≡ true

-- the group of a number is not placed
abbrev pub IsOpen : List Bool → ℕ → Type 0
IsOpen placed l = slice_index_or placed l false ≡ false

-- a group needs only groups of lesser numbers, and each has a first member of its number
pub record IsNumbered (needs : List (List ℕ)) (firsts labels : List ℕ) : Type 0 where
  pub firsts_long : length firsts ≡ length needs
  pub lower : (l h : ℕ) → Contains (group_at needs l) h → h < l
  pub first : (l : ℕ) → l < length needs → (slice_index firsts l < length labels) × (slice_index labels (slice_index firsts l) ≡ l)

-- these are the lengths of the lists
abbrev pub AreLengths : List (List ℕ) → List ℕ → Type 0
AreLengths lists counts = (length counts ≡ length lists) × ((l : ℕ) → slice_index counts l ≡ length (group_at lists l))

-- the numbers below n, each at its place
abbrev pub AreNumbers : ℕ → List ℕ → Type 0
AreNumbers n all = (length all ≡ n) × ((k : ℕ) → k < n → slice_index all k ≡ k)

-- `users` has the needs turned round
pub record AreUsers (needs users : List (List ℕ)) : Type 0 where
  pub long : length users ≡ length needs
  pub used : (l h : ℕ) → Contains (group_at needs l) h → Contains (group_at users h) l
  pub using : (l h : ℕ) → Contains (group_at users h) l → Contains (group_at needs l) h

-- the group is ready, has an open need, or is still in hand
abbrev pub IsAwaited : List (List ℕ) → List ℕ → List Bool → List ℕ → List ℕ → ℕ → ℕ → Type 0
IsAwaited needs firsts placed ready hand from l =
    Contains ready (slice_index firsts l) ⊎ (((h : ℕ) × Contains (group_at needs l) h × IsOpen placed h)
    ⊎ ((k : ℕ) × (from ≤ k) × (k < length hand) × (slice_index hand k ≡ l)))

-- What is known while the groups in hand, from a place on, are still to be looked at: of the needs of a group those from a
-- place on are placed, `ready` has the first members of groups that may be placed, and
-- each other group has an open need.
pub record IsWaiting (needs : List (List ℕ)) (firsts labels : List ℕ) (placed : List Bool) (left ready hand : List ℕ) (from : ℕ) : Type 0 where
  pub long : length left ≡ length needs
  pub within : (l : ℕ) → slice_index left l ≤ length (group_at needs l)
  pub kept : (l k : ℕ) → slice_index left l ≤ k → k < length (group_at needs l) → IsPlaced placed (slice_index (group_at needs l) k)
  pub bound : (d : ℕ) → Contains ready d → (d < length labels) × (slice_index labels d < length needs)
  pub own : (d : ℕ) → Contains ready d → slice_index firsts (slice_index labels d) ≡ d
  pub unplaced : (d : ℕ) → Contains ready d → IsOpen placed (slice_index labels d)
  pub met : (d h : ℕ) → Contains ready d → Contains (group_at needs (slice_index labels d)) h → IsPlaced placed h
  pub others : (l : ℕ) → l < length needs → IsOpen placed l → IsAwaited needs firsts placed ready hand from l

-- all that a group needs is among the first j of the order
abbrev pub HasBefore : List (List ℕ) → List ℕ → ℕ → ℕ → Type 0
HasBefore needs order j l = (h : ℕ) → Contains (group_at needs l) h → (i : ℕ) × (i < j) × (slice_index order i ≡ h)

-- The order so far: groups that stand in it are placed, each after its needs, and of those that might stand at a place the
-- one of the least first member does.
pub record IsPlacing (needs : List (List ℕ)) (firsts : List ℕ) (placed : List Bool) (order : List ℕ) : Type 0 where
  pub marks : length placed ≡ length needs
  pub known : (k : ℕ) → k < length order → slice_index order k < length needs
  pub once : (j k : ℕ) → j < length order → k < length order → slice_index order j ≡ slice_index order k → j ≡ k
  pub ready : (k : ℕ) → k < length order → HasBefore needs order k (slice_index order k)
  pub least : (j k : ℕ) → j < k → k < length order → HasBefore needs order j (slice_index order k)
      → slice_index firsts (slice_index order j) < slice_index firsts (slice_index order k)
  pub standing : (l : ℕ) → IsPlaced placed l → Contains order l
  pub stood : (l : ℕ) → Contains order l → IsPlaced placed l
  pub later : (j l : ℕ) → j < length order → l < length needs → IsOpen placed l → HasBefore needs order j l
      → slice_index firsts (slice_index order j) < slice_index firsts l

-- The order of the groups: each stands once, after its needs, and of those that might stand at a place the one of the least
-- first member does.
pub record IsOrder (needs : List (List ℕ)) (firsts order : List ℕ) : Type 0 where
  pub all : (l : ℕ) → l < length needs → Contains order l
  pub known : (k : ℕ) → k < length order → slice_index order k < length needs
  pub once : (j k : ℕ) → j < length order → k < length order → slice_index order j ≡ slice_index order k → j ≡ k
  pub ready : (k : ℕ) → k < length order → HasBefore needs order k (slice_index order k)
  pub least : (j k : ℕ) → j < k → k < length order → HasBefore needs order j (slice_index order k)
      → slice_index firsts (slice_index order j) < slice_index firsts (slice_index order k)
