-- Where uses lead to the same group or one before, so do lists of uses.
use Rattle.std.proofs.Common.{◌≡◌, ℕ, ◌<◌, ◌≤◌, List, [], ◌∷◌, length, Contains, sym, subst, ◌⊎◌, inl, inr, arith}
use Rattle.std.proofs.lemmas.Bool.{cases_lt}
use Rattle.ddl_groups.specs.Groups.{IsReady, StandsIn}
use Rattle.ddl_groups.specs.Reach.{IsWalk, Reaches, Uses}
use Rattle.ddl_groups.proofs.OneGrouping.{past_end, within}
use Rattle.ddl_groups.proofs.Rising.{none_in_empty}

module _ (needs groups : List (List ℕ))
    (declared : (k a : ℕ) → StandsIn groups k a → a < length needs)
    (placed : (a : ℕ) → a < length needs → (k : ℕ) × StandsIn groups k a)
    (own : (j k a : ℕ) → StandsIn groups j a → StandsIn groups k a → j ≡ k)
    (ready : (k : ℕ) → k < length groups → IsReady needs groups k k) where
  none_beyond : (a b : ℕ) → length needs ≤ a → Uses needs a b → ⊥
  none_beyond a b past u = none_in_empty b (subst (λ xs. Contains xs b) (past_end needs a past) u)

  -- what is no declaration is not on the way to one
  on_the_way : (a b k : ℕ) (path : List ℕ) → IsWalk needs a path b → StandsIn groups k b → (a < length needs) ⊎ (length needs ≤ a) → a < length needs
  on_the_way a b k path w q (inl l) = l
  on_the_way a b k [] w q (inr past) =
      let P : ℕ → Type 0 = λ c. c < length needs in
      subst P (sym w) (declared k b q)
  on_the_way a b k (next ∷ path) w q (inr past) = absurd (none_beyond a next past w.0)

  not_after : (i j k : ℕ) → (i ≡ j) ⊎ (i < j) → k ≤ i → k ≤ j
  not_after i j k (inl e) l = omega arith
  not_after i j k (inr m) l = omega arith

  walk_goes_back : (a b j k : ℕ) (path : List ℕ) → IsWalk needs a path b → StandsIn groups j a → StandsIn groups k b → k ≤ j
  walk_goes_back a b j k [] w p q =
      let P : ℕ → Type 0 = λ c. StandsIn groups j c in
      let e : j ≡ k = own j k b (subst P w p) q in
      omega arith
  walk_goes_back a b j k (next ∷ path) w p q =
      let l : next < length needs = on_the_way next b k path w.1 q (cases_lt next (length needs)) in
      let there : (i : ℕ) × StandsIn groups i next = placed next l in
      not_after there.0 j k (ready j (within groups j a p) a next there.0 p there.1 w.0) (walk_goes_back next b there.0 k path w.1 there.1 q)

  pub joined_if_ready : (j k a b : ℕ) → StandsIn groups j a → StandsIn groups k b → Reaches needs a b → Reaches needs b a → j ≡ k
  joined_if_ready j k a b p q there back =
      let l : k ≤ j = walk_goes_back a b j k there.0 there.1 p q in
      let m : j ≤ k = walk_goes_back b a k j back.0 back.1 q p in
      omega arith
