-- Modules whose names are bound: the uses in them and what is kept of them, or the first refusal.
use Rattle.std.specs.Prelude.{◌≡◌, ℕ, ◌+◌, List, [], ◌∷◌, ◌++◌, length, map, sum_by, take, None}
use Rattle.ddl_tree.specs.declared.kind.Kind.{Kind}
use Rattle.ddl_tree.specs.declared.module.SourceUnit.{SourceUnit}
use Rattle.ddl_tree.specs.ModuleTree as mo
use Rattle.ddl_tree.specs.ViewModule.{decl_view}
use Rattle.ddl_names.specs.declared.resolved.DeclInfo.{DeclInfo}
use Rattle.ddl_names.specs.declared.resolved.Resolved.{Resolved}
use Rattle.ddl_names.specs.declared.resolved.Uses.{Uses}
use Rattle.ddl_kinds.specs.declared.error.NameError.{NameError}
use Rattle.ddl_uses.specs.Scope.{param_kind}
use Rattle.ddl_uses.specs.Bindings.{Loaded}
use Rattle.ddl_kinds.specs.Meanings.{decl_kind, decl_name, decl_params}
use Rattle.ddl_kinds.specs.Found.{IsFirst}
use Rattle.ddl_uses.specs.Walks.{loaded}
use Rattle.ddl_names.specs.Modules.{all_findings, refusal, uses_in, uses_of_each}
use Rattle.ddl_names.specs.Cutting.{begins, cut_at}

-- each rule is met, and these are the uses in the modules, with what binds them, where those of each declaration begin, and
-- those in each declaration
abbrev pub AreBound : List SourceUnit → Uses → Type 0
AreBound us found =
    (refusal (loaded us) ≡ None) × (found.all.items ≡ uses_in (loaded us)) × (found.firsts.items ≡ begins 0 (uses_of_each (loaded us)))
    × (cut_at found.all.items found.firsts.items ≡ uses_of_each (loaded us))

-- the first rule that is not met; where memory ran out nothing is said
abbrev pub IsUnbound : List SourceUnit → NameError → Type 0
IsUnbound us e = IsFirst (all_findings (loaded us)) e

-- ---- what is kept

-- a declaration as it is kept: its module, its name, what that stands for, and what its parameters stand for
pub record Info : Type 0 where
  pub unit : ℕ
  pub name : List ℕ
  pub kind : Kind
  pub params : List Kind
  pub decl : mo.Decl

abbrev pub info_view : DeclInfo → Info
info_view d = record { unit = d.unit; name = d.name; kind = d.kind; params = d.params.items; decl = decl_view d.decl }

-- of a declaration of the module at place m
abbrev pub info : ℕ → mo.Decl → Info
info m d = record { unit = m; name = (decl_name d).text; kind = decl_kind d; params = map param_kind (decl_params d); decl = d }

-- of all declarations of these modules, of which the first stands at place m
abbrev pub infos_from : ℕ → List Loaded → List Info
infos_from m [] = []
infos_from m (u ∷ us) = map (info m) u.tree.decls ++ infos_from (m + 1) us

-- where the uses of each declaration begin that is kept
abbrev pub firsts_of : List DeclInfo → List ℕ
firsts_of ds = map (λ d. d.first_use) ds

-- the declarations that are kept have the first of these places
abbrev pub AreFirst : List ℕ → List DeclInfo → Type 0
AreFirst firsts kept = firsts_of kept ≡ take (length kept) firsts

-- how many declarations these modules have
abbrev pub decl_count : List SourceUnit → ℕ
decl_count us = sum_by (λ u. length u.tree.decls.items) us

-- these uses have a first one for each declaration
abbrev pub HaveFirsts : List SourceUnit → Uses → Type 0
HaveFirsts us found = length found.firsts.items ≡ decl_count us

-- these are the modules with these uses: their names, their declarations module by module in text order, the uses, and
-- those in each declaration
abbrev pub IsResolved : List SourceUnit → Uses → Resolved → Type 0
IsResolved us found r =
    (r.units.items ≡ map (λ u. u.name) us) × (map info_view r.decls.items ≡ infos_from 0 (loaded us)) × (r.uses.items ≡ found.all.items)
    × (firsts_of r.decls.items ≡ found.firsts.items)

-- the modules, where each rule is met, with the uses in them, where those of each declaration begin, and those in each declaration
abbrev pub AreResolved : List SourceUnit → Resolved → Type 0
AreResolved us r =
    (refusal (loaded us) ≡ None) × (r.units.items ≡ map (λ u. u.name) us) × (map info_view r.decls.items ≡ infos_from 0 (loaded us))
    × (r.uses.items ≡ uses_in (loaded us)) × (firsts_of r.decls.items ≡ begins 0 (uses_of_each (loaded us)))
    × (cut_at r.uses.items (firsts_of r.decls.items) ≡ uses_of_each (loaded us))
