-- What a search for groups finds, and what a list of uses has to be.
use Rattle.std.specs.Prelude.{◌≡◌, ℕ, ◌<◌, List, length, slice_index}
use Rattle.std.specs.List.{All}
use Rattle.ddl_groups.specs.Labels.{AreLabels}
use Rattle.ddl_groups.specs.Reach.{Uses}

-- what a declaration uses is a declaration
abbrev pub AreDeclared : List (List ℕ) → Type 0
AreDeclared needs = (a b : ℕ) → Uses needs a b → b < length needs

-- labels that tell the groups, and are the numbers below a count
pub record AreCounted (needs : List (List ℕ)) (labels : List ℕ) (count : ℕ) : Type 0 where
  pub are : AreLabels needs labels
  pub below : All (λ l. l < count) labels
  pub some : (l : ℕ) → l < count → (a : ℕ) × (a < length labels) × (slice_index labels a ≡ l)
