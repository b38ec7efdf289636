-- Numbers that tell the groups.
use Rattle.std.specs.Prelude.{◌≡◌, ℕ, ◌<◌, ◌≤◌, List, length, slice_index}
use Rattle.ddl_groups.specs.Reach.{Reaches, Uses}

-- a use leads to no greater label, and where two labels are one there is a way
pub record AreLabels (needs : List (List ℕ)) (labels : List ℕ) : Type 0 where
  pub long : length labels ≡ length needs
  pub falls : (a b : ℕ) → Uses needs a b → slice_index labels b ≤ slice_index labels a
  pub joins : (a b : ℕ) → a < length needs → b < length needs → slice_index labels a ≡ slice_index labels b → Reaches needs a b
