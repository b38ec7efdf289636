-- Which declarations reach which. Declarations are numbered in text order, and of each there is the list of those that it uses.
use Rattle.std.specs.Prelude.{◌≡◌, ℕ, List, [], ◌∷◌, Contains, slice_index_or}

-- a uses b itself
abbrev pub Uses : List (List ℕ) → ℕ → ℕ → Type 0
Uses needs a b = Contains (slice_index_or needs a []) b

-- uses lead from a through these declarations to b, the last of them
abbrev pub IsWalk : List (List ℕ) → ℕ → List ℕ → ℕ → Type 0
IsWalk needs a [] b = a ≡ b
IsWalk needs a (next ∷ path) b = Uses needs a next × IsWalk needs next path b

-- a list of uses leads from a to b; the empty one leads to a itself
abbrev pub Reaches : List (List ℕ) → ℕ → ℕ → Type 0
Reaches needs a b = (path : List ℕ) × IsWalk needs a path b
