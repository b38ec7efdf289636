-- A specialised specification, as definitions see it, and what the meaning reads of it.
use Rattle.std.specs.Prelude.{ℕ, zero, suc, Bool, true, false, List, [], ◌∷◌, map, Option, Some, None}
use Rattle.ddl_base.specs.declared.span.Span.{Span}
use Rattle.ddl_tree.specs.declared.kind.Kind.{Kind}
use Rattle.ddl_tree.specs.declared.kind.Kind.TheVariants.{Value}
use Rattle.ddl_types.specs.Types.{Ty}
use Rattle.ddl_typed.specs.Specification.{Place, Bitdata}
use Rattle.ddl_typed.specs.Tree.{Name, Expr, Decl, Spec, of_form}

-- a copy: its declaration, that one's module and name and where the name stands, its kind, its parameters' names and types, its
-- value's type, its form
pub record Copy : Type 0 where
  pub declaration : ℕ
  pub unit : ℕ
  pub name : List ℕ
  pub span : Span
  pub kind : Kind
  pub names : List Name
  pub params : List Ty
  pub result : Ty
  pub body : Expr

-- a specialised specification: its modules' names, the texts of `Fail`, the copy that is run, the copies, places and bitdata
pub record Mono : Type 0 where
  pub units : List (List ℕ)
  pub texts : List (List ℕ)
  pub entry : ℕ
  pub copies : List Copy
  pub places : List Place
  pub bitdata : List Bitdata

-- what the meaning reads of a copy: the same as of a declaration
abbrev pub decl_of : Copy → Decl
decl_of c = record { name = c.span; body = of_form c.body }

-- what the meaning reads of a specialised specification
abbrev pub spec_of : Mono → Spec
spec_of m = record { decls = map decl_of m.copies; bits = map (λ b. b.layout) m.bitdata }

-- the copy of a number
abbrev pub copy_at : List Copy → ℕ → Option Copy
copy_at [] f = None
copy_at (c ∷ cs) zero = Some c
copy_at (c ∷ cs) (suc f) = copy_at cs f

-- the names of variables, the innermost first; some have none
abbrev pub Scope : Type 0
Scope = List (Option Name)

-- names in front of others, the last one in front
abbrev pub names_before : List Name → Scope → Scope
names_before [] os = os
names_before (n ∷ ns) os = names_before ns (Some n ∷ os)

-- the parameters of a copy as a scope, the last one in front
abbrev pub scope_of : Option Copy → Scope
scope_of None = []
scope_of (Some c) = names_before c.names []

abbrev pub params_of : Mono → ℕ → Scope
params_of m f = scope_of (copy_at m.copies f)

-- a kind is that of values
abbrev pub is_value_kind : Kind → Bool
is_value_kind Value = true
is_value_kind kind = false

-- a copy is one of a value
abbrev pub is_value_copy : Option Copy → Bool
is_value_copy None = false
is_value_copy (Some c) = is_value_kind c.kind

abbrev pub is_value : Mono → ℕ → Bool
is_value m f = is_value_copy (copy_at m.copies f)
