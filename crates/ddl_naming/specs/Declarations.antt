-- A whole declaration takes the uses that are found in it: its header first, then its body.
use Rattle.std.specs.Prelude.{◌≡◌, ℕ, List, [], ◌∷◌, Option, Some, None}
use Rattle.ddl_base.specs.declared.span.Span.{Span}
use Rattle.ddl_kinds.specs.declared.bound.Use.{Use}
use Rattle.ddl_kinds.specs.Findings.{all_uses, first_refusal}
use Rattle.ddl_tree.specs.declared.name.Name.{Name}
use Rattle.ddl_tree.specs.ExprTree as ex
use Rattle.ddl_tree.specs.ModuleTree as mo
use Rattle.ddl_tree.specs.TypeTree as y
use Rattle.ddl_types.specs.Types.{Ty}
use Rattle.ddl_names.specs.Modules.{decl_findings}
use Rattle.ddl_uses.specs.Bindings.{Site}
use Rattle.ddl_rules.specs.Asks.{Known, State}
use Rattle.ddl_typing.specs.Groups.{in_body}
use Rattle.ddl_typing.specs.Typed.{Typed, TypedType}
use Rattle.ddl_typing.specs.Typing.{Typing, Writing}
use Rattle.ddl_headers.specs.Headers.{header, param_of, read_params}
use Rattle.ddl_naming.specs.Laws.{KnowsKinds}
use Rattle.ddl_naming.specs.Named.{IsNamed, IsTypeNamed}

-- at each name in a written type that is read in a state the next use is its own
abbrev pub AreNext : (ℕ → Known) → y.TypeExpr → State → Type 0
AreNext known t z = (m : TypedType) (h : Writing known t z m) → IsTypeNamed known t z m h

abbrev pub IsParamNamed : (ℕ → Known) → mo.Param → State → Type 0
IsParamNamed known (mo.TypedUpper x t s) z = AreNext known t z
IsParamNamed known (mo.TypedLower x t s) z = AreNext known t z
IsParamNamed known p z = Unit {0}

abbrev pub AreParamsNamed : (ℕ → Known) → List mo.Param → State → Type 0
AreParamsNamed known [] z = Unit {0}
AreParamsNamed known (p ∷ ps) z = IsParamNamed known p z × AreParamsNamed known ps (param_of known p z).state

abbrev pub IsResultNamed : (ℕ → Known) → Option y.TypeExpr → State → Type 0
IsResultNamed known None z = Unit {0}
IsResultNamed known (Some t) z = AreNext known t z

-- of a declaration with these uses: in its header, and in each typing of its body from those that the header leaves, behind
-- which none is left
pub record IsHeld (heads known : ℕ → Known) (ps : List mo.Param) (t : Option y.TypeExpr) (e : ex.Expr) (own : Ty) (us : List Use) (z : State) : Type 0 where
  pub params : AreParamsNamed heads ps (record z { uses = us })
  pub result : IsResultNamed heads t (read_params heads ps (record z { uses = us })).state
  pub body : (begun : State) (m : Typed) (h : Typing e (in_body (header heads ps t e own us z).body known) begun m)
      → begun.uses ≡ (header heads ps t e own us z).body.uses
      → IsNamed e (in_body (header heads ps t e own us z).body known) begun m h × (m.state.uses ≡ [])

-- `heads` is what written types of headers read, `known` what bodies read
abbrev pub TakesGrammars : Type 0
TakesGrammars = (site : Site) (heads known : ℕ → Known) (x : Name) (ps : List mo.Param) (t : Option y.TypeExpr) (e : ex.Expr) (s : Span) (own : Ty) (z : State)
    → KnowsKinds site known (decl_findings site (mo.Grammar x ps t e s)) → first_refusal (decl_findings site (mo.Grammar x ps t e s)) ≡ None
    → IsHeld heads known ps t e own (all_uses (decl_findings site (mo.Grammar x ps t e s))) z

abbrev pub TakesValues : Type 0
TakesValues = (site : Site) (heads known : ℕ → Known) (x : Name) (ps : List mo.Param) (t : Option y.TypeExpr) (e : ex.Expr) (s : Span) (own : Ty) (z : State)
    → KnowsKinds site known (decl_findings site (mo.Value x ps t e s)) → first_refusal (decl_findings site (mo.Value x ps t e s)) ≡ None
    → IsHeld heads known ps t e own (all_uses (decl_findings site (mo.Value x ps t e s))) z
