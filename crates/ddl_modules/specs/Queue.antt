-- The queue of names of modules: the prelude's, the root's, and then each where its first import is met.
use Rattle.std.specs.Prelude.{ℕ, ◌+◌, List, [], ◌∷◌, length, map, slice_get, Option, Some, None, nat_lt, if◌then◌else◌, codes, ◌≡◌}
use Rattle.std.specs.Str.{bytes_eq}
use Rattle.ddl_base.specs.declared.span.Span.{Span}
use Rattle.ddl_tree.specs.declared.module.Import.{Import}
use Rattle.ddl_tree.specs.declared.module.SourceUnit.{SourceUnit}
use Rattle.ddl_modules.specs.Files.{module_name}

abbrev pub prelude_name : List ℕ
prelude_name = codes "Prelude"

-- where a name stands first, or would stand at the end
abbrev pub place : List (List ℕ) → List ℕ → ℕ
place [] name = 0
place (other ∷ names) name = if bytes_eq other name then 0 else place names name + 1

-- the names with one more at the end, unless it is among them
abbrev pub with_name : List (List ℕ) → List ℕ → List (List ℕ)
with_name [] name = name ∷ []
with_name (other ∷ names) name = if bytes_eq other name then other ∷ names else other ∷ with_name names name

-- the names with each of these in turn
abbrev pub with_names : List (List ℕ) → List (List ℕ) → List (List ℕ)
with_names names [] = names
with_names names (name ∷ more) = with_names (with_name names name) more

-- the place that each of these gets in turn
abbrev pub places : List (List ℕ) → List (List ℕ) → List ℕ
places names [] = []
places names (name ∷ more) = place names name ∷ places (with_name names name) more

-- the names that a list of imports gives
abbrev pub imported : List Import → List (List ℕ)
imported imports = map (λ i. i.name.text) imports

-- the place of the first import that names module 257, the prelude at place 0 not counted
abbrev pub beyond : List (List ℕ) → List Import → Option Span
beyond names [] = None
beyond names (i ∷ imports) = if nat_lt 257 (length (with_name names i.name.text)) then Some i.name.span else beyond (with_name names i.name.text) imports

-- the names that are known once these units were read behind such ones
abbrev pub known : List (List ℕ) → List SourceUnit → List (List ℕ)
known names [] = names
known names (u ∷ us) = known (with_names names (imported u.tree.imports.items)) us

-- the queue of a root once these units were read
abbrev pub queue : List ℕ → List SourceUnit → List (List ℕ)
queue root us = known (prelude_name ∷ module_name root ∷ []) us

-- behind these units, the turn is at the module of this name
abbrev pub IsNext : List ℕ → List SourceUnit → List ℕ → Type 0
IsNext root us name = slice_get (queue root us) (length us) ≡ Some name
