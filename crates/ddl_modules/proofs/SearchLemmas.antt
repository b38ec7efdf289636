-- What the search for a cycle of one unit holds from level to level.
use Rattle.std.proofs.Common.{◌≡◌, ◌≢◌, ℕ, zero, suc, ◌<◌, ◌≤◌, List, [], ◌∷◌, ◌++◌, length, get_or, Bool, true, false, refl, ap, sym, ◌∙◌, ◌⊎◌, inl, inr}
use Rattle.std.proofs.Common.{add-one, arith, vec_len}
use Rattle.std.specs.Prelude.{map, Some, None}
use Rattle.std.proofs.lemmas.Bool.{both_ways, cases_lt}
use Rattle.std.proofs.lemmas.List.{get_or_past, length-map}
use Rattle.std.proofs.lemmas.Slice.Zip.{AllZip-long}
use Rattle.ddl_tree.specs.declared.module.SourceUnit.{SourceUnit}
use Rattle.ddl_modules.specs.Cycles.{imports_of, HaveNoCycle, IsCycle, IsFirstCycle, IsImport, IsWalk}
use Rattle.ddl_modules.specs.Levels.{down, flag, has, joined, level, levels, lifted, lists_of, AreRows, IsClimb, IsShortestCycle}
use Rattle.ddl_modules.specs.declared.levels.Levels.{Levels}
use Rattle.ddl_modules.specs.declared.rows.Row.{Row}
use Rattle.ddl_modules.proofs.LevelLemmas.{any_up_from, down-joined, flag-first, flag-lifted, joined_cases, joined_left, joined_right, length-joined}
use Rattle.ddl_modules.proofs.LevelLemmas.{level_from_walk, lifted-joined, row}
use Rattle.ddl_modules.proofs.RowLemmas.{has_from_Contains, walk_from, walk_to}

import_within : (lists : List (List ℕ)) (a b : ℕ) → IsImport lists a b → a < length lists
import_within lists a b c = by (cases_lt a (length lists))
  where
    by : (a < length lists) ⊎ (length lists ≤ a) → a < length lists
    by (inl l) = l
    by (inr l) =
        let past : get_or lists a [] ≡ [] = get_or_past lists a [] l in
        absurd (omega (arith, c.1, ap length past))

-- the levels of a unit below the top one, and what was seen on all of them
pub record AreLevels (rows : List Row) (unit : ℕ) (l : Levels) : Type 0 where
  pub top : l.top.items ≡ level rows unit (vec_len l.lower)
  pub lower : map (λ x. x.flags.items) l.lower.items ≡ levels rows unit (vec_len l.lower)
  pub long : length l.seen.items ≡ length rows
  -- no cycle is shorter
  pub below : (j : ℕ) → j < vec_len l.lower → flag (level rows unit j) unit ≡ false
  -- who imports the unit or one that was seen was seen, or is seen on the next level
  pub first : (a : ℕ) → flag (level rows unit zero) a ≡ true → flag l.seen.items a ≡ true
  pub closed : (a : ℕ) → flag (lifted rows l.seen.items) a ≡ true → (flag l.seen.items a ≡ true) ⊎ (flag (lifted rows l.top.items) a ≡ true)
  pub own : flag l.seen.items unit ≡ true → flag l.top.items unit ≡ true

pub first_levels : (rows : List Row) (unit : ℕ) (l : Levels) → l.lower.items ≡ [] → vec_len l.lower ≡ 0 → l.top.items ≡ level rows unit 0
    → l.seen.items ≡ l.top.items → AreLevels rows unit l
first_levels rows unit l none n top seen = record {
  top = top ∙ ap (level rows unit) (sym n);
  lower = ap (map (λ x. x.flags.items)) none ∙ ap (levels rows unit) (sym n);
  long = ap length (seen ∙ top) ∙ long;
  below = λ j h. absurd (omega arith);
  first = λ a h. ap (λ (f : List Bool). flag f a) (seen ∙ top) ∙ h;
  closed = λ a h. inr (ap (λ (f : List Bool). flag (lifted rows f) a) (sym seen) ∙ h);
  own = λ h. ap (λ (f : List Bool). flag f unit) (sym seen) ∙ h;
} where
  long : length (level rows unit zero) ≡ length rows
  long = length-first rows
    where
      length-first : (rows : List Row) → length (level rows unit zero) ≡ length rows
      length-first [] = refl
      length-first (r ∷ rows) = ap suc (length-first rows)

length-lifted : (rows : List Row) (flags : List Bool) → length (lifted rows flags) ≡ length rows
length-lifted [] flags = refl
length-lifted (r ∷ rows) flags = ap suc (length-lifted rows flags)

-- one level more
module _ (rows : List Row) (unit : ℕ) (old new : Levels) (l : AreLevels rows unit old) (not_top : flag old.top.items unit ≡ false)
    (h : IsClimb rows old (Some new)) where
  same_length : length old.seen.items ≡ length new.top.items
  same_length = l.long ∙ (sym (length-lifted rows old.top.items) ∙ ap length (sym h.2))

  count : vec_len new.lower ≡ suc (vec_len old.lower)
  count = h.1 ∙ add-one (vec_len old.lower)

  new_top : new.top.items ≡ level rows unit (vec_len new.lower)
  new_top = h.2 ∙ (ap (lifted rows) l.top ∙ ap (level rows unit) (sym count))

  new_lower : map (λ x. x.flags.items) new.lower.items ≡ levels rows unit (vec_len new.lower)
  new_lower = h.0 ∙ (ap (λ (fs : List (List Bool)). fs ++ old.top.items ∷ []) l.lower
      ∙ (ap (λ (f : List Bool). levels rows unit (vec_len old.lower) ++ f ∷ []) l.top ∙ ap (levels rows unit) (sym count)))

  none_below : (j : ℕ) → j < vec_len new.lower → (j < vec_len old.lower) ⊎ (vec_len old.lower ≤ j) → flag (level rows unit j) unit ≡ false
  none_below j m (inl b) = l.below j b
  none_below j m (inr b) =
      let e : vec_len old.lower ≡ j = omega (arith, count) in
      ap (λ (k : ℕ). flag (level rows unit k) unit) (sym e) ∙ (ap (λ (f : List Bool). flag f unit) (sym l.top) ∙ not_top)

  seen_left : (a : ℕ) → flag old.seen.items a ≡ true → flag new.seen.items a ≡ true
  seen_left a e = ap (λ (f : List Bool). flag f a) h.3 ∙ joined_left old.seen.items new.top.items a same_length e

  seen_right : (a : ℕ) → flag new.top.items a ≡ true → flag new.seen.items a ≡ true
  seen_right a e = ap (λ (f : List Bool). flag f a) h.3 ∙ joined_right old.seen.items new.top.items a same_length e

  seen_by : (a : ℕ) → (flag old.seen.items a ≡ true) ⊎ (flag (lifted rows old.top.items) a ≡ true) → flag new.seen.items a ≡ true
  seen_by a (inl e) = seen_left a e
  seen_by a (inr e) = seen_right a (ap (λ (f : List Bool). flag f a) h.2 ∙ e)

  new_closed : (a : ℕ) → (flag (lifted rows old.seen.items) a ≡ true) ⊎ (flag (lifted rows new.top.items) a ≡ true)
      → (flag new.seen.items a ≡ true) ⊎ (flag (lifted rows new.top.items) a ≡ true)
  new_closed a (inl e) = inl (seen_by a (l.closed a e))
  new_closed a (inr e) = inr e

  new_own : (flag old.seen.items unit ≡ true) ⊎ (flag new.top.items unit ≡ true) → flag new.top.items unit ≡ true
  new_own (inl e) = absurd (both_ways (flag old.top.items unit) not_top (l.own e))
  new_own (inr e) = e

  pub climbed : AreLevels rows unit new
  climbed = record {
    top = new_top;
    lower = new_lower;
    long = ap length h.3 ∙ (length-joined old.seen.items new.top.items same_length ∙ l.long);
    below = λ j m. none_below j m (cases_lt j (vec_len old.lower));
    first = λ a e. seen_left a (l.first a e);
    closed = λ a e. new_closed a (lifted-joined rows old.seen.items new.top.items a (ap (λ (f : List Bool). flag (lifted rows f) a) (sym h.3) ∙ e));
    own = λ e. new_own (joined_cases old.seen.items new.top.items unit (ap (λ (f : List Bool). flag f unit) (sym h.3) ∙ e));
  }

  pub fewer_down : down new.seen.items < down old.seen.items
  fewer_down =
      let other : joined old.seen.items new.top.items ≢ old.seen.items = λ e. h.4 (h.3 ∙ e) in
      let less : down (joined old.seen.items new.top.items) < down old.seen.items = down-joined old.seen.items new.top.items same_length other in
      rw h.3 less

-- no level more
module _ (rows : List Row) (unit : ℕ) (old : Levels) (l : AreLevels rows unit old) (not_top : flag old.top.items unit ≡ false) (h : IsClimb rows old None) where
  lifted_seen : (a : ℕ) → (flag old.seen.items a ≡ true) ⊎ (flag (lifted rows old.top.items) a ≡ true) → flag old.seen.items a ≡ true
  lifted_seen a (inl e) = e
  lifted_seen a (inr e) = ap (λ (f : List Bool). flag f a) (sym h)
      ∙ joined_right old.seen.items (lifted rows old.top.items) a (l.long ∙ sym (length-lifted rows old.top.items)) e

  walk_seen : (a : ℕ) (walk : List ℕ) → IsWalk (lists_of rows) a walk unit → flag old.seen.items a ≡ true
  walk_seen a [] w = l.first a (flag-first rows unit a ∙ has_from_Contains (row rows a) unit w)
  walk_seen a (next ∷ walk) w =
      lifted_seen a (l.closed a (flag-lifted rows old.seen.items a ∙ any_up_from old.seen.items (row rows a) next w.0 (walk_seen next walk w.1)))

  pub no_cycle : (rest : List ℕ) → ¬ IsCycle (lists_of rows) unit rest
  no_cycle rest w = both_ways (flag old.top.items unit) not_top (l.own (walk_seen unit rest w))

-- no cycle of the unit is shorter than its first level that shows the unit
pub none_shorter : (rows : List Row) (unit : ℕ) (l : Levels) → AreLevels rows unit l → (rest : List ℕ) → IsCycle (lists_of rows) unit rest
    → vec_len l.lower ≤ length rest
none_shorter rows unit l h rest w = by (cases_lt (length rest) (vec_len l.lower))
  where
    by : (length rest < vec_len l.lower) ⊎ (vec_len l.lower ≤ length rest) → vec_len l.lower ≤ length rest
    by (inl b) = absurd (both_ways (flag (level rows unit (length rest)) unit) (h.below (length rest) b) (level_from_walk rows unit unit rest w))
    by (inr b) = b

-- a cycle begins at a unit
pub cycle_within : (lists : List (List ℕ)) (a b : ℕ) (walk : List ℕ) → IsWalk lists a walk b → a < length lists
cycle_within lists a b [] w = import_within lists a b w
cycle_within lists a b (next ∷ walk) w = import_within lists a next w.0

module _ (us : List SourceUnit) (rows : List Row) (same : AreRows us rows) where
  not_earlier : (a b : ℕ) (other : List ℕ) → ((c : ℕ) → c < a → (rest : List ℕ) → ¬ IsCycle (lists_of rows) c rest) → IsCycle (imports_of us) b other
      → (b < a) ⊎ (a ≤ b) → a ≤ b
  not_earlier a b other none w (inl l) = absurd (none b l other (walk_from us rows same b b other w))
  not_earlier a b other none w (inr l) = l

  -- the cycle that is told
  pub first_found : (a : ℕ) (rest : List ℕ) → IsShortestCycle (lists_of rows) a rest → ((c : ℕ) → c < a → (other : List ℕ) → ¬ IsCycle (lists_of rows) c other)
      → IsFirstCycle (imports_of us) a rest
  first_found a rest s none = record {
    cycle = walk_to us rows same a a rest s.0.0;
    first = λ b other w. not_earlier a b other none w (cases_lt b a);
    shortest = λ other w. s.1 other (walk_from us rows same a a other w);
    least = λ other w e. s.0.1 other (walk_from us rows same a a other w) e;
  }

  pub none_found : (n : ℕ) → length us ≤ n → ((c : ℕ) → c < n → (other : List ℕ) → ¬ IsCycle (lists_of rows) c other) → HaveNoCycle (imports_of us)
  none_found n long none a rest w =
      let within : a < length (imports_of us) = cycle_within (imports_of us) a a rest w in
      none a (omega (arith, length-map us (λ (u : SourceUnit). u.imports.items))) rest (walk_from us rows same a a rest w)

pub rows_long : (us : List SourceUnit) (rows : List Row) → AreRows us rows → length rows ≡ length us
rows_long us rows same = AllZip-long (λ (u : SourceUnit) (r : Row). (b : ℕ) → has r.units.items b ≡ has u.imports.items b) us rows same
