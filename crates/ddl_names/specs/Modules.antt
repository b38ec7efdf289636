-- What is found in declarations and modules: the first refusal of all, and the uses.
use Rattle.std.specs.Prelude.{ℕ, ◌+◌, List, [], ◌∷◌, ◌++◌, drop, map, flat_map, slice_get, Bool, true, false, Option, Some, None}
use Rattle.ddl_tree.specs.declared.kind.Kind.{Kind}
use Rattle.ddl_tree.specs.declared.kind.Kind.TheVariants as k
use Rattle.ddl_tree.specs.declared.name.Name.{Name}
use Rattle.ddl_tree.specs.TypeTree as ty
use Rattle.ddl_tree.specs.ModuleTree as mo
use Rattle.ddl_kinds.specs.declared.want.Want.TheVariants as w
use Rattle.ddl_kinds.specs.declared.bound.Use.{Use}
use Rattle.ddl_kinds.specs.declared.error.NameError.{NameError}
use Rattle.ddl_kinds.specs.declared.error.NameError.TheVariants as e
use Rattle.ddl_uses.specs.Scope.{Scope, param_kind, param_name, param_scope}
use Rattle.ddl_uses.specs.Bindings.{Loaded, Site}
use Rattle.ddl_kinds.specs.Meanings.{decl_name}
use Rattle.ddl_kinds.specs.Findings.{Finding, refuses, demand, again, twice_among, first_refusal, all_uses}
use Rattle.ddl_uses.specs.Forms.{class_findings, findings, type_findings, typed_findings}

-- the parameters of a value are values
abbrev pub may_take : Kind → Kind → Bool
may_take k.Value k.Grammar = false
may_take k.Value k.Class = false
may_take kind of = true

abbrev pub param_type : mo.Param → Option ty.TypeExpr
param_type (mo.TypedUpper x t s) = Some t
param_type (mo.TypedLower x t s) = Some t
param_type p = None

-- the name of a part of a layout, where it has one
abbrev pub part_names : mo.Part → List Name
part_names (mo.Fixed n) = []
part_names (mo.Named x t s) = x ∷ []
part_names (mo.Unnamed t s) = []

abbrev pub part_type : mo.Part → Option ty.TypeExpr
part_type (mo.Fixed n) = None
part_type (mo.Named x t s) = Some t
part_type (mo.Unnamed t s) = Some t

module _ (site : Site) where
  -- parameters of a declaration of this kind, after those of the names `before`: no two are the same
  abbrev pub param_findings : Kind → List Name → Scope → List mo.Param → List Finding
  param_findings kind before scope [] = []
  param_findings kind before scope (p ∷ ps) =
      again before (param_name p) ++ demand (may_take kind (param_kind p)) (e.WrongKind (param_name p).span) ++ typed_findings site (param_type p) scope
      ++ param_findings kind (before ++ param_name p ∷ []) scope ps

  -- the parts of a layout after those of the names `before`: no two are named the same
  abbrev pub part_findings : List Name → List mo.Part → List Finding
  part_findings before [] = []
  part_findings before (mo.Fixed n ∷ ps) = part_findings before ps
  part_findings before (mo.Named x t s ∷ ps) = again before x ++ type_findings site t [] ++ part_findings (before ++ x ∷ []) ps
  part_findings before (mo.Unnamed t s ∷ ps) = type_findings site t [] ++ part_findings before ps

  abbrev pub bits_findings : mo.Bits → List Finding
  bits_findings (mo.Exactly n) = []
  bits_findings (mo.Parts ps s) = part_findings [] ps

  -- constructors after those of the names `before`: no two are the same
  abbrev pub con_findings : List Name → List mo.Con → List Finding
  con_findings before [] = []
  con_findings before (c ∷ cs) = again before c.name ++ bits_findings c.bits ++ con_findings (before ++ c.name ∷ []) cs

  -- the body of a declaration is of the kind of its name
  abbrev pub decl_findings : mo.Decl → List Finding
  decl_findings (mo.Grammar x ps t e s) = param_findings k.Grammar [] (param_scope ps) ps ++ typed_findings site t (param_scope ps)
      ++ findings site e w.Grammar (param_scope ps)
  decl_findings (mo.Value x ps t e s) = param_findings k.Value [] (param_scope ps) ps ++ typed_findings site t (param_scope ps)
      ++ findings site e w.Value (param_scope ps)
  decl_findings (mo.ClassDef x c s) = class_findings site c []
  decl_findings (mo.BitsDef x b s) = bits_findings b
  decl_findings (mo.BitsUnion x cs s) = con_findings [] cs

-- ---- all modules

-- at most 65,535 declarations, those of the prelude not counted
abbrev pub too_many : Option mo.Decl → List Finding
too_many None = []
too_many (Some d) = refuses (e.TooManyDecls (decl_name d).span) ∷ []

abbrev pub one_too_many : List Loaded → Option mo.Decl
one_too_many units = slice_get (flat_map (λ u. u.tree.decls) (drop 1 units)) 65535

-- no two declarations of a module are the same
abbrev pub declared_twice : Loaded → List Finding
declared_twice u = twice_among [] (map decl_name u.tree.decls)

-- these modules, of which the first stands at place n of all
abbrev pub findings_from : List Loaded → ℕ → List Loaded → List Finding
findings_from units n [] = []
findings_from units n (u ∷ us) = flat_map (decl_findings (record { units = units; here = n })) u.tree.decls ++ findings_from units (n + 1) us

-- too many declarations, then declarations that stand twice, then all else in text order, module by module
abbrev pub all_findings : List Loaded → List Finding
all_findings units = too_many (one_too_many units) ++ flat_map declared_twice units ++ findings_from units 0 units

-- why the names of these modules have no bindings, where they have none
abbrev pub refusal : List Loaded → Option NameError
refusal units = first_refusal (all_findings units)

-- the uses in them
abbrev pub uses_in : List Loaded → List Use
uses_in units = all_uses (all_findings units)

-- ---- the uses in each declaration

-- in each of these declarations of a module
abbrev pub uses_in_each : Site → List mo.Decl → List (List Use)
uses_in_each site ds = map (λ d. all_uses (decl_findings site d)) ds

-- in each of these modules, of which the first stands at place n of all
abbrev pub uses_from : List Loaded → ℕ → List Loaded → List (List Use)
uses_from units n [] = []
uses_from units n (u ∷ us) = uses_in_each (record { units = units; here = n }) u.tree.decls ++ uses_from units (n + 1) us

-- in each declaration, module by module in text order
abbrev pub uses_of_each : List Loaded → List (List Use)
uses_of_each units = uses_from units 0 units
