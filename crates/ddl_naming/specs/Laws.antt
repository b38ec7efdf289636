-- Elaboration takes the uses of names that are found, each at its name.
use Rattle.std.specs.Prelude.{◌≡◌, ℕ, List, [], ◌∷◌, ◌++◌, map, None}
use Rattle.ddl_kinds.specs.declared.bound.Bound.TheVariants as bound
use Rattle.ddl_kinds.specs.declared.bound.Use.{Use}
use Rattle.ddl_kinds.specs.declared.want.Want.{Want}
use Rattle.ddl_kinds.specs.declared.want.Want.TheVariants as w
use Rattle.ddl_kinds.specs.Findings.{Finding, all_uses, first_refusal}
use Rattle.ddl_kinds.specs.Meanings.{one}
use Rattle.ddl_tree.specs.declared.kind.Kind.{Kind}
use Rattle.ddl_tree.specs.declared.kind.Kind.TheVariants as k
use Rattle.ddl_tree.specs.ClassTree as cls
use Rattle.ddl_tree.specs.ExprTree as ex
use Rattle.ddl_tree.specs.TypeTree as y
use Rattle.ddl_uses.specs.Bindings.{Site, outer_meaning}
use Rattle.ddl_uses.specs.Forms.{class_findings, findings, type_findings}
use Rattle.ddl_uses.specs.Scope.{Scope}
use Rattle.ddl_rules.specs.Asks.{Env, Known, State}
use Rattle.ddl_rules.specs.ClassForms.{class_made}
use Rattle.ddl_typing.specs.Typed.{Typed, TypedType}
use Rattle.ddl_typing.specs.Typing.{Typing, Writing}
use Rattle.ddl_naming.specs.Named.{IsClassNamed, IsNamed, IsTypeNamed}

-- no rule is broken, and a list begins with the uses that are found; then this follows
abbrev pub BeginsWith : List Finding → List Use → List Use → Type 0
BeginsWith fs us rest = (first_refusal fs ≡ None) × (us ≡ all_uses fs ++ rest)

-- what an argument for a parameter of a kind has to be
abbrev pub want_of : Kind → Want
want_of k.Grammar = w.Grammar
want_of k.Class = w.Class
want_of kind = w.Value

-- where a use leads to a declaration that the module can name, the kinds of its parameters are known
abbrev pub IsKnownUse : Site → (ℕ → Known) → Use → Type 0
IsKnownUse site known u = (d : ℕ) (text : List ℕ) (kind : Kind) (ws : List Want) → u.bound ≡ bound.Decl d
    → outer_meaning site.units site.here text ≡ one (bound.Decl d) kind ws → ws ≡ map want_of (known d).kinds

abbrev pub EachUse : (Use → Type 0) → List Use → Type 0
EachUse holds [] = Unit {0}
EachUse holds (u ∷ us) = holds u × EachUse holds us

-- so it is of each use that is found
abbrev pub KnowsKinds : Site → (ℕ → Known) → List Finding → Type 0
KnowsKinds site known fs = EachUse (IsKnownUse site known) (all_uses fs)

-- in each reading of a written type with a list that begins with the uses that are found in it, each name has its own use
-- next, and what follows is left
abbrev pub TakesTypes : Type 0
TakesTypes = (site : Site) (known : ℕ → Known) (t : y.TypeExpr) (scope : Scope) (z : State) (m : TypedType) (h : Writing known t z m) (rest : List Use)
    → BeginsWith (type_findings site t scope) z.uses rest → IsTypeNamed known t z m h × (m.state.uses ≡ rest)

-- and so it is of a class
abbrev pub TakesClasses : Type 0
TakesClasses = (site : Site) (c : cls.Cls) (scope : Scope) (env : Env) (z : State) (rest : List Use)
    → BeginsWith (class_findings site c scope) z.uses rest → IsClassNamed c env z × ((class_made c env z).state.uses ≡ rest)

-- and in each typing of an expression
abbrev pub TakesUses : Type 0
TakesUses = (site : Site) (e : ex.Expr) (want : Want) (scope : Scope) (env : Env) (z : State) (m : Typed) (h : Typing e env z m) (rest : List Use)
    → KnowsKinds site env.known (findings site e want scope) → BeginsWith (findings site e want scope) z.uses rest
    → IsNamed e env z m h × (m.state.uses ≡ rest)
