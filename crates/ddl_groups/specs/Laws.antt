-- The laws of groups.
use Rattle.std.specs.Prelude.{◌≡◌, ℕ, ◌<◌, ◌↔◌, List, length, slice_index}
use Rattle.ddl_groups.specs.Groups.{AreGroups}
use Rattle.ddl_groups.specs.Labels.{AreLabels}
use Rattle.ddl_groups.specs.Reach.{Reaches}

-- at most one list is that of the groups
abbrev pub OneGrouping : Type 0
OneGrouping = (needs : List (List ℕ)) (groups others : List (List ℕ)) → AreGroups needs groups → AreGroups needs others → groups ≡ others

-- labels are equal exactly where each reaches the other
abbrev pub LabelsTellGroups : Type 0
LabelsTellGroups = (needs : List (List ℕ)) (labels : List ℕ) → AreLabels needs labels → (a b : ℕ) → a < length needs → b < length needs
    → (slice_index labels a ≡ slice_index labels b) ↔ (Reaches needs a b × Reaches needs b a)
