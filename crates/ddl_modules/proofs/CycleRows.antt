-- Worked rows of cycles. Unit 0 is the prelude, which imports nothing.
use Rattle.std.proofs.Common.{◌≡◌, ℕ, zero, suc, ◌<◌, ◌≤◌, List, [], ◌∷◌, length, Contains, sym, ◌⊎◌, inl, inr, arith}
use Rattle.ddl_modules.specs.Cycles.{HaveNoCycle, IsCycle, IsFirstCycle, IsImport, IsNotAfter, IsWalk}
use Rattle.ddl_modules.proofs.RowLemmas.{Contains-first, Contains-rest, first_or_rest}

none : (a : ℕ) → Contains [] a → ⊥
none a c = omega (arith, c.1)

one : (x a : ℕ) → Contains (x ∷ []) a → a ≡ x
one x a c = by (first_or_rest x [] a c)
  where
    by : (x ≡ a) ⊎ Contains [] a → a ≡ x
    by (inl e) = sym e
    by (inr d) = absurd (none a d)

two : (x y a : ℕ) → Contains (x ∷ y ∷ []) a → (a ≡ x) ⊎ (a ≡ y)
two x y a c = by (first_or_rest x (y ∷ []) a c)
  where
    by : (x ≡ a) ⊎ Contains (y ∷ []) a → (a ≡ x) ⊎ (a ≡ y)
    by (inl e) = inl (sym e)
    by (inr d) = inr (one y a d)

-- where each import leads further, there is no cycle
module _ (lists : List (List ℕ)) (further : (a b : ℕ) → IsImport lists a b → a < b) where
  walk_further : (a b : ℕ) (walk : List ℕ) → IsWalk lists a walk b → a < b
  walk_further a b [] w = further a b w
  walk_further a b (next ∷ walk) w =
      let one_on : a < next = further a next w.0 in
      let rest : next < b = walk_further next b walk w.1 in
      omega arith

  no_cycle_further : HaveNoCycle lists
  no_cycle_further a rest w = let h : a < a = walk_further a a rest w in omega arith

-- some unit imports the last one of a walk
imported_by : (lists : List (List ℕ)) (a b : ℕ) (walk : List ℕ) → IsWalk lists a walk b → (c : ℕ) × IsImport lists c b
imported_by lists a b [] w = (a, w)
imported_by lists a b (next ∷ walk) w = imported_by lists next b walk w.1

-- a unit imports two, which lead together again
abbrev diamond : List (List ℕ)
diamond = [] ∷ (2 ∷ 3 ∷ []) ∷ (4 ∷ []) ∷ (4 ∷ []) ∷ [] ∷ []

diamond_further : (a b : ℕ) → IsImport diamond a b → a < b
diamond_further zero b c = absurd (none b c)
diamond_further (suc zero) b c = by (two 2 3 b c)
  where
    by : (b ≡ 2) ⊎ (b ≡ 3) → 1 < b
    by (inl e) = omega arith
    by (inr e) = omega arith
diamond_further (suc (suc zero)) b c = let e : b ≡ 4 = one 4 b c in omega arith
diamond_further (suc (suc (suc zero))) b c = let e : b ≡ 4 = one 4 b c in omega arith
diamond_further (suc (suc (suc (suc zero)))) b c = absurd (none b c)
diamond_further (suc (suc (suc (suc (suc a))))) b c = absurd (none b c)

pub no_cycle_in_a_diamond : HaveNoCycle diamond
no_cycle_in_a_diamond = no_cycle_further diamond diamond_further

-- nothing leads from the prelude
from_prelude : (lists : List (List ℕ)) (rest : List ℕ) → ¬ IsCycle ([] ∷ lists) zero rest
from_prelude lists [] w = none zero w
from_prelude lists (next ∷ rest) w = none next w.0

behind_prelude : (lists : List (List ℕ)) (b : ℕ) (other : List ℕ) → IsCycle ([] ∷ lists) b other → 1 ≤ b
behind_prelude lists zero other w = absurd (from_prelude lists other w)
behind_prelude lists (suc b) other w = omega arith

-- a unit that imports itself
pub self_import : IsFirstCycle ([] ∷ (1 ∷ []) ∷ []) 1 []
self_import = record {
  cycle = Contains-first 1 [];
  first = behind_prelude ((1 ∷ []) ∷ []);
  shortest = λ other w. omega arith;
  least = λ other w e. tt;
}

-- two cycles, of which that of the earlier unit is told, though it is longer
abbrev two_cycles : List (List ℕ)
two_cycles = [] ∷ (2 ∷ 3 ∷ []) ∷ (1 ∷ []) ∷ (3 ∷ []) ∷ []

two_or_three : (b : ℕ) → (b ≡ 2) ⊎ (b ≡ 3) → 2 ≤ b
two_or_three b (inl e) = omega arith
two_or_three b (inr e) = omega arith

two_cycles_shortest : (other : List ℕ) → IsCycle two_cycles 1 other → 1 ≤ length other
two_cycles_shortest [] w = absurd (let h = two_or_three 1 (two 2 3 1 w) in omega arith)
two_cycles_shortest (b ∷ other) w = omega arith

-- `rest` is 2 alone, and no list of one unit comes before it
not_before : (b : ℕ) → (b ≡ 2) ⊎ (b ≡ 3) → (2 < b) ⊎ ((◌≡◌ {A = ℕ} 2 b) × Unit {0})
not_before b (inl e) = inr (sym e, tt)
not_before b (inr e) = inl (omega arith)

two_cycles_least : (other : List ℕ) → IsCycle two_cycles 1 other → length other ≡ 1 → IsNotAfter (2 ∷ []) other
two_cycles_least [] w e = absurd (omega arith)
two_cycles_least (b ∷ []) w e = not_before b (two 2 3 b w.0)
two_cycles_least (b ∷ c ∷ other) w e = absurd (omega arith)

pub cycle_of_the_earlier_unit : IsFirstCycle two_cycles 1 (2 ∷ [])
cycle_of_the_earlier_unit = record {
  cycle = (Contains-first 2 (3 ∷ []), Contains-first 1 []);
  first = behind_prelude ((2 ∷ 3 ∷ []) ∷ (1 ∷ []) ∷ (3 ∷ []) ∷ []);
  shortest = two_cycles_shortest;
  least = two_cycles_least;
}

-- two shortest cycles of one unit, of which the less is told, though its import stands behind the other
abbrev two_shortest : List (List ℕ)
two_shortest = [] ∷ (3 ∷ 2 ∷ []) ∷ (1 ∷ []) ∷ (1 ∷ []) ∷ []

three_or_two : (b : ℕ) → (b ≡ 3) ⊎ (b ≡ 2) → (b ≡ 2) ⊎ (b ≡ 3)
three_or_two b (inl e) = inr e
three_or_two b (inr e) = inl e

two_shortest_shortest : (other : List ℕ) → IsCycle two_shortest 1 other → 1 ≤ length other
two_shortest_shortest [] w = absurd (let h = two_or_three 1 (three_or_two 1 (two 3 2 1 w)) in omega arith)
two_shortest_shortest (b ∷ other) w = omega arith

two_shortest_least : (other : List ℕ) → IsCycle two_shortest 1 other → length other ≡ 1 → IsNotAfter (2 ∷ []) other
two_shortest_least [] w e = absurd (omega arith)
two_shortest_least (b ∷ []) w e = not_before b (three_or_two b (two 3 2 b w.0))
two_shortest_least (b ∷ c ∷ other) w e = absurd (omega arith)

pub the_less_of_two_shortest : IsFirstCycle two_shortest 1 (2 ∷ [])
the_less_of_two_shortest = record {
  cycle = (Contains-rest 3 (2 ∷ []) 2 (Contains-first 2 []), Contains-first 1 []);
  first = behind_prelude ((3 ∷ 2 ∷ []) ∷ (1 ∷ []) ∷ (1 ∷ []) ∷ []);
  shortest = two_shortest_shortest;
  least = two_shortest_least;
}

-- the root leads to a cycle and is not on it
abbrev lead_in : List (List ℕ)
lead_in = [] ∷ (2 ∷ []) ∷ (3 ∷ []) ∷ (2 ∷ []) ∷ []

two_at_least : (a b : ℕ) → IsImport lead_in a b → 2 ≤ b
two_at_least zero b c = absurd (none b c)
two_at_least (suc zero) b c = let e : b ≡ 2 = one 2 b c in omega arith
two_at_least (suc (suc zero)) b c = let e : b ≡ 3 = one 3 b c in omega arith
two_at_least (suc (suc (suc zero))) b c = let e : b ≡ 2 = one 2 b c in omega arith
two_at_least (suc (suc (suc (suc a)))) b c = absurd (none b c)

lead_in_first : (b : ℕ) (other : List ℕ) → IsCycle lead_in b other → 2 ≤ b
lead_in_first b other w = let c = imported_by lead_in b b other w in two_at_least c.0 b c.1

lead_in_shortest : (other : List ℕ) → IsCycle lead_in 2 other → 1 ≤ length other
lead_in_shortest [] w = absurd (let e : ◌≡◌ {A = ℕ} 2 3 = one 3 2 w in omega arith)
lead_in_shortest (b ∷ other) w = omega arith

lead_in_least : (other : List ℕ) → IsCycle lead_in 2 other → length other ≡ 1 → IsNotAfter (3 ∷ []) other
lead_in_least [] w e = absurd (omega arith)
lead_in_least (b ∷ []) w e = inr (sym (one 3 b w.0), tt)
lead_in_least (b ∷ c ∷ other) w e = absurd (omega arith)

pub the_root_is_not_on_it : IsFirstCycle lead_in 2 (3 ∷ [])
the_root_is_not_on_it = record {
  cycle = (Contains-first 3 [], Contains-first 2 []);
  first = lead_in_first;
  shortest = lead_in_shortest;
  least = lead_in_least;
}
