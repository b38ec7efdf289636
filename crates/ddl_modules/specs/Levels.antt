-- How the search for cycles goes: by flags for units, up or down.
use Rattle.std.specs.Prelude.{◌≡◌, ◌≢◌, ℕ, zero, suc, ◌+◌, ◌≤◌, ◌==◌, ◌||◌, Bool, true, false, List, [], ◌∷◌, ◌++◌, length, map, slice_index_or, vec_len}
use Rattle.std.specs.Prelude.{Contains, Option, Some, None}
use Rattle.std.specs.List.{AllZip}
use Rattle.ddl_tree.specs.declared.module.SourceUnit.{SourceUnit}
use Rattle.ddl_modules.specs.Cycles.{IsCycle, IsNotAfter, IsWalk}
use Rattle.ddl_modules.specs.declared.levels.Levels.{Levels}
use Rattle.ddl_modules.specs.declared.rows.Row.{Row}

-- whether a number is among these
abbrev pub has : List ℕ → ℕ → Bool
has [] n = false
has (m ∷ numbers) n = (m == n) || has numbers n

-- each row has the imports of its unit
abbrev pub AreRows : List SourceUnit → List Row → Type 0
AreRows us rows = AllZip (λ u r. (b : ℕ) → has r.units.items b ≡ has u.imports.items b) us rows

abbrev pub lists_of : List Row → List (List ℕ)
lists_of rows = map (λ r. r.units.items) rows

-- the flag of a unit, which is down where there is none
abbrev pub flag : List Bool → ℕ → Bool
flag flags unit = slice_index_or flags unit false

-- whether the flag of one of these units is up
abbrev pub any_up : List Bool → List ℕ → Bool
any_up flags [] = false
any_up flags (unit ∷ units) = flag flags unit || any_up flags units

-- up for the units that import one that is up
abbrev pub lifted : List Row → List Bool → List Bool
lifted rows flags = map (λ r. any_up flags r.units.items) rows

-- up for the units from which a walk of k units between leads to this one
abbrev pub level : List Row → ℕ → ℕ → List Bool
level rows unit zero = map (λ r. has r.units.items unit) rows
level rows unit (suc k) = lifted rows (level rows unit k)

-- the first k levels
abbrev pub levels : List Row → ℕ → ℕ → List (List Bool)
levels rows unit zero = []
levels rows unit (suc k) = levels rows unit k ++ level rows unit k ∷ []

-- up where one of two is
abbrev pub joined : List Bool → List Bool → List Bool
joined [] others = []
joined (a ∷ flags) [] = []
joined (a ∷ flags) (b ∷ others) = (a || b) ∷ joined flags others

-- how many flags are down
abbrev pub down : List Bool → ℕ
down [] = 0
down (true ∷ flags) = down flags
down (false ∷ flags) = down flags + 1

-- one level more, or none where it shows no unit that was not seen
abbrev pub IsClimb : List Row → Levels → Option Levels → Type 0
IsClimb rows old None = joined old.seen.items (lifted rows old.top.items) ≡ old.seen.items
IsClimb rows old (Some new) =
    (map (λ l. l.flags.items) new.lower.items ≡ map (λ l. l.flags.items) old.lower.items ++ old.top.items ∷ [])
    × (vec_len new.lower ≡ vec_len old.lower + 1)
    × (new.top.items ≡ lifted rows old.top.items)
    × (new.seen.items ≡ joined old.seen.items new.top.items)
    × (new.seen.items ≢ old.seen.items)

-- a walk, and the least of its length
abbrev pub IsLeastWalk : List (List ℕ) → ℕ → List ℕ → ℕ → Type 0
IsLeastWalk lists a walk b = IsWalk lists a walk b × ((other : List ℕ) → IsWalk lists a other b → length other ≡ length walk → IsNotAfter walk other)

-- a cycle of a unit, and the least of its shortest ones
abbrev pub IsShortestCycle : List (List ℕ) → ℕ → List ℕ → Type 0
IsShortestCycle lists a rest = IsLeastWalk lists a rest a × ((other : List ℕ) → IsCycle lists a other → length rest ≤ length other)

-- the least of these units whose flag is up
pub record IsLeastUp (flags : List Bool) (units : List ℕ) (a : ℕ) : Type 0 where
  pub among : Contains units a
  pub up : flag flags a ≡ true
  pub least : (b : ℕ) → Contains units b → flag flags b ≡ true → a ≤ b
