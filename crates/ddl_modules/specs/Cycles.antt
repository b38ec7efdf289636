-- Cycles of imports. Units are known by their numbers, and of each there is the list of those that it imports.
use Rattle.std.specs.Prelude.{◌≡◌, ◌⊎◌, ℕ, ◌<◌, ◌≤◌, ◌==◌, if◌then◌else◌, List, [], ◌∷◌, Contains, Option, Some, None, length, map, slice_get, slice_index_or}
use Rattle.ddl_base.specs.declared.span.Span.{Span}
use Rattle.ddl_tree.specs.declared.module.Import.{Import}
use Rattle.ddl_tree.specs.declared.module.SourceUnit.{SourceUnit}

-- of each unit the units that it imports
abbrev pub imports_of : List SourceUnit → List (List ℕ)
imports_of us = map (λ u. u.imports.items) us

-- unit a imports unit b
abbrev pub IsImport : List (List ℕ) → ℕ → ℕ → Type 0
IsImport lists a b = Contains (slice_index_or lists a []) b

-- unit a imports the first of these, each of them the next, and the last one unit b
abbrev pub IsWalk : List (List ℕ) → ℕ → List ℕ → ℕ → Type 0
IsWalk lists a [] b = IsImport lists a b
IsWalk lists a (next ∷ walk) b = IsImport lists a next × IsWalk lists next walk b

-- unit a and the rest are a cycle: each imports the next, and the last one unit a
abbrev pub IsCycle : List (List ℕ) → ℕ → List ℕ → Type 0
IsCycle lists a rest = IsWalk lists a rest a

-- of two lists of one length, the first is the other one or is less where they first differ
abbrev pub IsNotAfter : List ℕ → List ℕ → Type 0
IsNotAfter [] others = Unit {0}
IsNotAfter (a ∷ walk) [] = ⊥
IsNotAfter (a ∷ walk) (b ∷ others) = (a < b) ⊎ ((a ≡ b) × IsNotAfter walk others)

-- the cycle that is told: of the first unit that reaches itself, a shortest one, and of these the least by unit numbers
pub record IsFirstCycle (lists : List (List ℕ)) (a : ℕ) (rest : List ℕ) : Type 0 where
  pub cycle : IsCycle lists a rest
  pub first : (b : ℕ) (other : List ℕ) → IsCycle lists b other → a ≤ b
  pub shortest : (other : List ℕ) → IsCycle lists a other → length rest ≤ length other
  pub least : (other : List ℕ) → IsCycle lists a other → length other ≡ length rest → IsNotAfter rest other

-- no unit reaches itself
abbrev pub HaveNoCycle : List (List ℕ) → Type 0
HaveNoCycle lists = (a : ℕ) (rest : List ℕ) → ¬ IsCycle lists a rest

-- the unit behind the first one of a cycle
abbrev pub second_of : ℕ → List ℕ → ℕ
second_of a [] = a
second_of a (b ∷ rest) = b

-- the name in the first of these imports that is one of unit b, where the imports are of these units
abbrev pub import_span : List ℕ → List Import → ℕ → Option Span
import_span [] imports b = None
import_span (a ∷ units) [] b = None
import_span (a ∷ units) (i ∷ imports) b = if a == b then Some i.name.span else import_span units imports b

-- the first import of unit b in unit a stands here
abbrev pub IsFirstImport : List SourceUnit → ℕ → ℕ → Span → Type 0
IsFirstImport us a b span = (u : SourceUnit) × (slice_get us a ≡ Some u) × (import_span u.imports.items u.tree.imports.items b ≡ Some span)

-- the name of a unit
abbrev pub unit_name : List SourceUnit → ℕ → List ℕ
unit_name us a = slice_index_or (map (λ u. u.name) us) a []

-- the cycle of these units that is told, by the place of its first import and by the names of its modules
abbrev pub IsToldCycle : List SourceUnit → Span → List (List ℕ) → Type 0
IsToldCycle us span names = (a : ℕ) × (rest : List ℕ) × IsFirstCycle (imports_of us) a rest
    × IsFirstImport us a (second_of a rest) span × (names ≡ map (unit_name us) (a ∷ rest))
