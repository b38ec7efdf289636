-- Worked rows.
use Rattle.std.proofs.Common.{◌≡◌, ℕ, zero, suc, ◌<◌, List, [], ◌∷◌, length, Contains, refl, ◌⊎◌, inl, inr, arith}
use Rattle.ddl_groups.specs.Groups.{AreGroups, IsReady, IsRising, StandsIn, first_member, group_at}
use Rattle.ddl_groups.specs.Reach.{Uses}
use Rattle.ddl_groups.proofs.Reached.{joined_if_ready}
use Rattle.ddl_groups.proofs.Rising.{Contains-first, first_or_rest, none_in_empty}

only_or_none : (x a : ℕ) → (a ≡ x) ⊎ Contains [] a → a ≡ x
only_or_none x a (inl e) = e
only_or_none x a (inr c) = absurd (none_in_empty a c)

only : (x a : ℕ) → Contains (x ∷ []) a → a ≡ x
only x a c = only_or_none x a (first_or_rest x [] a c)

-- Three declarations, of which the first uses the last: it waits for it, and the second stands before both. A walk that
-- goes down at the first declaration would have the last one first.
abbrev needs : List (List ℕ)
needs = (2 ∷ []) ∷ [] ∷ [] ∷ []

abbrev groups : List (List ℕ)
groups = (1 ∷ []) ∷ (2 ∷ []) ∷ (0 ∷ []) ∷ []

abbrev Place : ℕ → ℕ → Type 0
Place k a = ((k ≡ 0) × (a ≡ 1)) ⊎ (((k ≡ 1) × (a ≡ 2)) ⊎ ((k ≡ 2) × (a ≡ 0)))

place : (k a : ℕ) → StandsIn groups k a → Place k a
place zero a c = inl (refl, only 1 a c)
place (suc zero) a c = inr (inl (refl, only 2 a c))
place (suc (suc zero)) a c = inr (inr (refl, only 0 a c))
place (suc (suc (suc k))) a c = absurd (none_in_empty a c)

small : (k a : ℕ) → Place k a → a < 3
small k a (inl p) = omega arith
small k a (inr (inl p)) = omega arith
small k a (inr (inr p)) = omega arith

same_place : (j k a : ℕ) → Place j a → Place k a → j ≡ k
same_place j k a (inl p) (inl q) = omega arith
same_place j k a (inl p) (inr (inl q)) = absurd (omega arith)
same_place j k a (inl p) (inr (inr q)) = absurd (omega arith)
same_place j k a (inr (inl p)) (inl q) = absurd (omega arith)
same_place j k a (inr (inl p)) (inr (inl q)) = omega arith
same_place j k a (inr (inl p)) (inr (inr q)) = absurd (omega arith)
same_place j k a (inr (inr p)) (inl q) = absurd (omega arith)
same_place j k a (inr (inr p)) (inr (inl q)) = absurd (omega arith)
same_place j k a (inr (inr p)) (inr (inr q)) = omega arith

same_member : (k a b : ℕ) → Place k a → Place k b → a ≡ b
same_member k a b (inl p) (inl q) = omega arith
same_member k a b (inl p) (inr (inl q)) = absurd (omega arith)
same_member k a b (inl p) (inr (inr q)) = absurd (omega arith)
same_member k a b (inr (inl p)) (inl q) = absurd (omega arith)
same_member k a b (inr (inl p)) (inr (inl q)) = omega arith
same_member k a b (inr (inl p)) (inr (inr q)) = absurd (omega arith)
same_member k a b (inr (inr p)) (inl q) = absurd (omega arith)
same_member k a b (inr (inr p)) (inr (inl q)) = absurd (omega arith)
same_member k a b (inr (inr p)) (inr (inr q)) = omega arith

one_use : (a b : ℕ) → Uses needs a b → (a ≡ 0) × (b ≡ 2)
one_use zero b u = (refl, only 2 b u)
one_use (suc zero) b u = absurd (none_in_empty b u)
one_use (suc (suc zero)) b u = absurd (none_in_empty b u)
one_use (suc (suc (suc a))) b u = absurd (none_in_empty b u)

before : (i k a b : ℕ) → a ≡ 0 → b ≡ 2 → Place k a → Place i b → i < k
before i k a b d e (inl p) q = absurd (omega arith)
before i k a b d e (inr (inl p)) q = absurd (omega arith)
before i k a b d e (inr (inr p)) (inl q) = absurd (omega arith)
before i k a b d e (inr (inr p)) (inr (inl q)) = omega arith
before i k a b d e (inr (inr p)) (inr (inr q)) = absurd (omega arith)

declared : (k a : ℕ) → StandsIn groups k a → a < length needs
declared k a p = small k a (place k a p)

placed : (a : ℕ) → a < length needs → (k : ℕ) × StandsIn groups k a
placed zero l = (2, Contains-first 0 [])
placed (suc zero) l = (0, Contains-first 1 [])
placed (suc (suc zero)) l = (1, Contains-first 2 [])
placed (suc (suc (suc a))) l = absurd (omega arith)

own : (j k a : ℕ) → StandsIn groups j a → StandsIn groups k a → j ≡ k
own j k a p q = same_place j k a (place j a p) (place k a q)

ready : (k : ℕ) → k < length groups → IsReady needs groups k k
ready k l a b i p q u =
    let e : (a ≡ 0) × (b ≡ 2) = one_use a b u in
    inr (before i k a b e.0 e.1 (place k a p) (place i b q))

some : (k : ℕ) → k < length groups → 0 < length (group_at groups k)
some zero l = omega arith
some (suc zero) l = omega arith
some (suc (suc zero)) l = omega arith
some (suc (suc (suc k))) l = absurd (omega arith)

rising : (k : ℕ) → k < length groups → IsRising (group_at groups k)
rising zero l = (tt, tt)
rising (suc zero) l = (tt, tt)
rising (suc (suc zero)) l = (tt, tt)
rising (suc (suc (suc k))) l = absurd (omega arith)

-- the group of the first declaration is not ready before the last one is placed
too_early : (j : ℕ) → j < 2 → IsReady needs groups j 2 → ⊥
too_early j l r = by (r 0 2 1 (Contains-first 0 []) (Contains-first 2 []) (Contains-first 2 []))
  where
    by : (◌≡◌ {A = ℕ} 1 2) ⊎ (1 < j) → ⊥
    by (inl e) = omega arith
    by (inr m) = omega arith

least : (j k : ℕ) → j < k → k < length groups → IsReady needs groups j k → first_member groups j < first_member groups k
least j zero l m r = absurd (omega arith)
least zero (suc zero) l m r = omega arith
least (suc j) (suc zero) l m r = absurd (omega arith)
least j (suc (suc zero)) l m r = absurd (too_early j l r)
least j (suc (suc (suc k))) l m r = absurd (omega arith)

pub least_that_is_ready : AreGroups needs groups
least_that_is_ready = record {
  declared = declared;
  placed = placed;
  together = λ k a b p q. ([], same_member k a b (place k a p) (place k b q));
  joined = joined_if_ready needs groups declared placed own ready;
  some = some;
  rising = rising;
  ready = ready;
  least = least;
}
