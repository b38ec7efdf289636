-- What names mean in a module, and where a walk over its parts stands.
use Rattle.std.specs.Prelude.{◌≡◌, ℕ, List, map, slice_get, Bool, not, ◌&&◌, nat_eq, Option, Some, None}
use Rattle.ddl_tree.specs.declared.module.SourceUnit.{SourceUnit}
use Rattle.ddl_tree.specs.ViewModule.{decl_view, module_view}
use Rattle.ddl_kinds.specs.Meanings.{Meaning, nothing}
use Rattle.ddl_uses.specs.declared.module_names.ModuleNames.{ModuleNames}
use Rattle.ddl_uses.specs.declared.module_names.Numbered.{Numbered}
use Rattle.ddl_uses.specs.declared.outer.Outer.{Outer}
use Rattle.ddl_uses.specs.declared.walk.Walk.{Walk}
use Rattle.ddl_uses.specs.Bindings.{Loaded, Site, declared, is_declared, meaning_of_decl}
use Rattle.ddl_uses.specs.Held.{IsScope, at_text, scope_view}

abbrev pub unit_view : SourceUnit → Loaded
unit_view u = record { name = u.name; tree = module_view u.tree; imports = u.imports.items }

-- the modules of the definitions that these are
abbrev pub loaded : List SourceUnit → List Loaded
loaded us = map unit_view us

-- the modules, and the one whose names these are
abbrev pub site_view : Outer → Site
site_view outer = record { units = map unit_view outer.units.now; here = outer.here }

-- what the name of a numbered declaration means
abbrev pub meaning_of_numbered : Option Numbered → Meaning
meaning_of_numbered None = nothing
meaning_of_numbered (Some d) = meaning_of_decl d.number (decl_view d.decl.now)

-- a name among those of a module, if there is one
abbrev pub meaning_in : Option ModuleNames → List ℕ → Meaning
meaning_in None text = nothing
meaning_in (Some names) text = meaning_of_numbered (at_text names.by_name text)

-- for each module, what its names mean
abbrev pub AreNames : List Loaded → List ModuleNames → Type 0
AreNames units names = (m : ℕ) (text : List ℕ) → meaning_in (slice_get names m) text ≡ declared units m text

abbrev pub IsOuter : Outer → Type 0
IsOuter outer = AreNames (site_view outer).units outer.names.items

-- an import that declares the name, and is not this one
abbrev pub is_other : List Loaded → List ℕ → ℕ → ℕ → Bool
is_other units text first m = not (nat_eq m first) && is_declared units text m

-- ---- where a walk stands

-- names mean what they do in its module, and the local ones are those in scope
abbrev pub IsWalk : Walk → Type 0
IsWalk walk = IsOuter walk.outer × IsScope walk.scope

-- it stands in the same module, with the same names in scope
abbrev pub IsKept : Walk → Walk → Type 0
IsKept before after = (after.outer ≡ before.outer) × (scope_view after.scope ≡ scope_view before.scope) × IsWalk after
