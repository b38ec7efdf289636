-- The groups of declarations and their order.
use Rattle.std.specs.Prelude.{◌≡◌, ℕ, ◌<◌, ◌⊎◌, List, [], ◌∷◌, Contains, length, slice_index, slice_index_or}
use Rattle.std.specs.List.{AllByRecursion}
use Rattle.ddl_groups.specs.Reach.{Reaches, Uses}

-- each number is less than all after it
abbrev pub IsRising : List ℕ → Type 0
IsRising [] = Unit {0}
IsRising (x ∷ xs) = AllByRecursion (λ y. x < y) xs × IsRising xs

-- the group at a place, which from the end on has no members
abbrev pub group_at : List (List ℕ) → ℕ → List ℕ
group_at groups k = slice_index_or groups k []

abbrev pub StandsIn : List (List ℕ) → ℕ → ℕ → Type 0
StandsIn groups k a = Contains (group_at groups k) a

abbrev pub first_member : List (List ℕ) → ℕ → ℕ
first_member groups k = slice_index (group_at groups k) 0

-- each declaration that the group at k uses is its own or in a group before place j
abbrev pub IsReady : List (List ℕ) → List (List ℕ) → ℕ → ℕ → Type 0
IsReady needs groups j k = (a b i : ℕ) → StandsIn groups k a → StandsIn groups i b → Uses needs a b → (i ≡ k) ⊎ (i < j)

-- these are the groups of the declarations of which `needs` has the uses
pub record AreGroups (needs : List (List ℕ)) (groups : List (List ℕ)) : Type 0 where
  -- declarations, and each of them
  pub declared : (k a : ℕ) → StandsIn groups k a → a < length needs
  pub placed : (a : ℕ) → a < length needs → (k : ℕ) × StandsIn groups k a
  -- two are in one group exactly where each reaches the other
  pub together : (k a b : ℕ) → StandsIn groups k a → StandsIn groups k b → Reaches needs a b
  pub joined : (j k a b : ℕ) → StandsIn groups j a → StandsIn groups k b → Reaches needs a b → Reaches needs b a → j ≡ k
  -- no group is empty, and members are in text order
  pub some : (k : ℕ) → k < length groups → 0 < length (group_at groups k)
  pub rising : (k : ℕ) → k < length groups → IsRising (group_at groups k)
  -- what a group needs stands before it, and of the groups that might stand at a place it has the least first member
  pub ready : (k : ℕ) → k < length groups → IsReady needs groups k k
  pub least : (j k : ℕ) → j < k → k < length groups → IsReady needs groups j k → first_member groups j < first_member groups k
