-- Written types take the uses that are found in them.
use Rattle.std.proofs.Common.{◌≡◌, ℕ, List, ◌++◌, ap, ◌∙◌}
use Rattle.ddl_kinds.specs.declared.bound.Use.{Use}
use Rattle.ddl_kinds.specs.Findings.{all_uses}
use Rattle.ddl_tree.specs.TypeTree as y
use Rattle.ddl_types.specs.Types.{Sub}
use Rattle.ddl_uses.specs.Bindings.{Site, meaning}
use Rattle.ddl_uses.specs.Forms.{type_findings}
use Rattle.ddl_uses.specs.Scope.{Scope}
use Rattle.ddl_rules.specs.Asks.{Known, State}
use Rattle.ddl_typing.specs.Making.{made_type}
use Rattle.ddl_typing.specs.Typed.{TypedType}
use Rattle.ddl_typing.specs.Typing.{Writing}
use Rattle.ddl_naming.specs.Laws.{TakesTypes}
use Rattle.ddl_naming.specs.Named.{IsTypeNamed}
use Rattle.ddl_naming.proofs.Beginning.{Begins, each_any, split, type_next}

left : {m n : TypedType} → m ≡ n → m.state.uses ≡ n.state.uses
left e = ap (λ w. w.state.uses) e

pub type_taken : (K : Use → Type 0) (site : Site) (known : ℕ → Known) (t : y.TypeExpr) (scope : Scope) (z : State) (m : TypedType) (h : Writing known t z m)
    (rest : List Use)
    → Begins K (type_findings site t scope) z.uses rest → IsTypeNamed known t z m h × (m.state.uses ≡ rest)
type_taken K site known (y.Int s) scope z m h rest g = (tt, left h ∙ g.1)
type_taken K site known (y.Uint n s) scope z m h rest g = (tt, left h ∙ g.1)
type_taken K site known (y.Sint n s) scope z m h rest g = (tt, left h ∙ g.1)
type_taken K site known (y.Bool s) scope z m h rest g = (tt, left h ∙ g.1)
type_taken K site known (y.Stream s) scope z m h rest g = (tt, left h ∙ g.1)
type_taken K site known (y.Float s) scope z m h rest g = (tt, left h ∙ g.1)
type_taken K site known (y.Double s) scope z m h rest g = (tt, left h ∙ g.1)
type_taken K site known (y.Maybe t s) scope z m h rest g =
    let r = type_taken K site known t scope z h.0 h.1 rest g in (r.0, left h.2 ∙ r.1)
type_taken K site known (y.ArrayOf t s) scope z m h rest g =
    let r = type_taken K site known t scope z h.0 h.1 rest g in (r.0, left h.2 ∙ r.1)
type_taken K site known (y.MapOf t u s) scope z m h rest g =
    let gs = type_findings site u scope in
    let p = split K (type_findings site t scope) gs z.uses rest g in
    let l = type_taken K site known t scope z h.0 h.1 (all_uses gs ++ rest) p.0 in
    let r = type_taken K site known u scope h.0.state h.2.0 h.2.1 rest (p.1, l.1, p.2) in
    ((l.0, r.0), left h.2.2 ∙ r.1)
type_taken K site known (y.Empty s) scope z m h rest g = (tt, left h ∙ g.1)
type_taken K site known (y.Named x) scope z m h rest g = let n = type_next K x (meaning site scope x) z.uses rest g in (n.0, left h.2 ∙ n.1)
type_taken K site known (y.Within t s) scope z m h rest g = type_taken K site known t scope z m h rest g

-- what is made of a type leaves what each reading of it leaves
pub made_type_left : (K : Use → Type 0) (site : Site) (free : Sub) (known : ℕ → Known) (t : y.TypeExpr) (scope : Scope) (z : State) (rest : List Use)
    → Begins K (type_findings site t scope) z.uses rest → (made_type free known t z).state.uses ≡ rest
made_type_left K site free known (y.Int s) scope z rest h = h.1
made_type_left K site free known (y.Uint n s) scope z rest h = h.1
made_type_left K site free known (y.Sint n s) scope z rest h = h.1
made_type_left K site free known (y.Bool s) scope z rest h = h.1
made_type_left K site free known (y.Stream s) scope z rest h = h.1
made_type_left K site free known (y.Float s) scope z rest h = h.1
made_type_left K site free known (y.Double s) scope z rest h = h.1
made_type_left K site free known (y.Maybe t s) scope z rest h = made_type_left K site free known t scope z rest h
made_type_left K site free known (y.ArrayOf t s) scope z rest h = made_type_left K site free known t scope z rest h
made_type_left K site free known (y.MapOf t u s) scope z rest h =
    let gs = type_findings site u scope in
    let p = split K (type_findings site t scope) gs z.uses rest h in
    made_type_left K site free known u scope (made_type free known t z).state rest (
      p.1,
      made_type_left K site free known t scope z (all_uses gs ++ rest) p.0,
      p.2,
    )
made_type_left K site free known (y.Empty s) scope z rest h = h.1
made_type_left K site free known (y.Named x) scope z rest h = (type_next K x (meaning site scope x) z.uses rest h).1
made_type_left K site free known (y.Within t s) scope z rest h = made_type_left K site free known t scope z rest h

pub takes_types : TakesTypes
takes_types site known t scope z m h rest g =
    type_taken (λ u. Unit {0}) site known t scope z m h rest (g.0, g.1, each_any (all_uses (type_findings site t scope)))
