-- Labels tell the groups.
use Rattle.std.proofs.Common.{◌≡◌, ℕ, ◌<◌, ◌≤◌, ◌↔◌, List, [], ◌∷◌, length, slice_index, sym, subst, arith}
use Rattle.ddl_groups.specs.Labels.{AreLabels}
use Rattle.ddl_groups.specs.Reach.{IsWalk, Reaches}

module _ (needs : List (List ℕ)) (labels : List ℕ) (is : AreLabels needs labels) where
  -- a walk leads to no greater label
  walk_falls : (a : ℕ) (path : List ℕ) (b : ℕ) → IsWalk needs a path b → slice_index labels b ≤ slice_index labels a
  walk_falls a [] b e = subst (λ c. slice_index labels c ≤ slice_index labels a) e (omega arith)
  walk_falls a (next ∷ path) b w =
      let one : slice_index labels next ≤ slice_index labels a = is.falls a next w.0 in
      let more : slice_index labels b ≤ slice_index labels next = walk_falls next path b w.1 in
      omega arith

  both_fall : (a b : ℕ) → Reaches needs a b → Reaches needs b a → slice_index labels a ≡ slice_index labels b
  both_fall a b there back =
      let k : slice_index labels b ≤ slice_index labels a = walk_falls a there.0 b there.1 in
      let l : slice_index labels a ≤ slice_index labels b = walk_falls b back.0 a back.1 in
      omega arith

  pub labels_tell : (a b : ℕ) → a < length needs → b < length needs → (slice_index labels a ≡ slice_index labels b) ↔ (Reaches needs a b × Reaches needs b a)
  labels_tell a b k l = ((λ e. (is.joins a b k l e, is.joins b a l k (sym e))), (λ w. both_fall a b w.0 w.1))
