-- Scope: which local names are bound at a place, the innermost first.
use Rattle.std.specs.Prelude.{ℕ, ◌-◌, List, ◌∷◌, Option, Some, None, find, map, reverse, length, drop, bytes_eq}
use Rattle.ddl_tree.specs.declared.kind.Kind.{Kind}
use Rattle.ddl_tree.specs.declared.kind.Kind.TheVariants as k
use Rattle.ddl_tree.specs.declared.name.Name.{Name}
use Rattle.ddl_tree.specs.declared.pattern.Names.{Names}
use Rattle.ddl_tree.specs.declared.pattern.Binder.{Binder}
use Rattle.ddl_tree.specs.declared.pattern.Binder.TheVariants.{Called, Ignored}
use Rattle.ddl_tree.specs.declared.pattern.Pat.{Pat}
use Rattle.ddl_tree.specs.declared.pattern.Pat.TheVariants as pat
use Rattle.ddl_tree.specs.ExprTree as ex
use Rattle.ddl_tree.specs.ModuleTree as mo

-- a local name, and what it stands for
pub record Local : Type 0 where
  pub name : Name
  pub kind : Kind

abbrev pub Scope : Type 0
Scope = List Local

-- a name is the innermost one that is written so
abbrev pub in_scope : Scope → List ℕ → Option Local
in_scope scope text = find (λ l. bytes_eq l.name.text text) scope

-- so many names, those that were bound first
unfoldable pub outermost : ℕ → Scope → Scope
outermost n scope = drop (length scope - n) scope

abbrev pub value : Name → Local
value x = record { name = x; kind = k.Value }

-- `let x =` and `x =` bind x in what follows in their block
abbrev pub after_item : ex.Item → Scope → Scope
after_item (ex.Result e s) scope = scope
after_item (ex.Let x e s) scope = value x ∷ scope
after_item (ex.Field x e s) scope = value x ∷ scope
after_item (ex.Plain e) scope = scope

abbrev pub after_second : Option Name → Scope → Scope
after_second None scope = scope
after_second (Some x) scope = value x ∷ scope

-- the names for the elements of a list hold in the loop's body
abbrev pub after_names : Names → Scope → Scope
after_names ns scope = after_second ns.second (value ns.first ∷ scope)

abbrev pub after_binder : Binder → Scope → Scope
after_binder (Called x) scope = value x ∷ scope
after_binder (Ignored s) scope = scope

abbrev pub after_content : Option Binder → Scope → Scope
after_content None scope = scope
after_content (Some b) scope = after_binder b scope

-- the name for the content of what a pattern fits holds in the alternative's body
abbrev pub after_pattern : Pat → Scope → Scope
after_pattern (pat.Any s) scope = scope
after_pattern (pat.Num n) scope = scope
after_pattern (pat.Char b s) scope = scope
after_pattern (pat.True s) scope = scope
after_pattern (pat.False s) scope = scope
after_pattern (pat.Nothing s) scope = scope
after_pattern (pat.Just b s) scope = after_binder b scope
after_pattern (pat.Tag x b s) scope = after_content b scope

abbrev pub param_name : mo.Param → Name
param_name (mo.Upper x) = x
param_name (mo.Lower x) = x
param_name (mo.Class x) = x
param_name (mo.TypedUpper x t s) = x
param_name (mo.TypedLower x t s) = x

-- a parameter stands for what its name is spelled as
abbrev pub param_kind : mo.Param → Kind
param_kind (mo.Upper x) = k.Grammar
param_kind (mo.Lower x) = k.Value
param_kind (mo.Class x) = k.Class
param_kind (mo.TypedUpper x t s) = k.Grammar
param_kind (mo.TypedLower x t s) = k.Value

abbrev pub local_of : mo.Param → Local
local_of p = record { name = param_name p; kind = param_kind p }

-- all parameters hold in the whole declaration, in the types of the others too
abbrev pub param_scope : List mo.Param → Scope
param_scope ps = reverse (map local_of ps)
