-- A whole declaration takes the uses that are found in it.
use Rattle.std.proofs.Common.{◌≡◌, ℕ, List, [], ◌∷◌, ◌++◌, Bool, true, false, Option, Some, None, refl, ap, ◌∙◌}
use Rattle.ddl_kinds.specs.declared.bound.Use.{Use}
use Rattle.ddl_kinds.specs.declared.error.NameError.{NameError}
use Rattle.ddl_kinds.specs.declared.error.NameError.TheVariants as e
use Rattle.ddl_kinds.specs.declared.want.Want.{Want}
use Rattle.ddl_kinds.specs.declared.want.Want.TheVariants as w
use Rattle.ddl_kinds.specs.Findings.{again, all_uses, demand}
use Rattle.ddl_tree.specs.declared.kind.Kind.{Kind}
use Rattle.ddl_tree.specs.declared.kind.Kind.TheVariants as k
use Rattle.ddl_tree.specs.declared.name.Name.{Name}
use Rattle.ddl_tree.specs.ExprTree as ex
use Rattle.ddl_tree.specs.ModuleTree as mo
use Rattle.ddl_tree.specs.TypeTree as y
use Rattle.ddl_types.specs.Types.{Ty, Ty.var}
use Rattle.ddl_names.specs.Modules.{decl_findings, may_take, param_findings, param_type}
use Rattle.ddl_uses.specs.Bindings.{Site}
use Rattle.ddl_uses.specs.Forms.{findings, type_findings, typed_findings}
use Rattle.ddl_uses.specs.Scope.{Scope, param_kind, param_name, param_scope}
use Rattle.ddl_rules.specs.Asks.{Known, State}
use Rattle.ddl_typing.specs.Groups.{in_body}
use Rattle.ddl_typing.specs.Making.{made_type}
use Rattle.ddl_headers.specs.Headers.{header, param_of, read_params, result_of}
use Rattle.ddl_naming.specs.Declarations.{AreNext, AreParamsNamed, IsHeld, IsParamNamed, IsResultNamed, TakesGrammars, TakesValues}
use Rattle.ddl_naming.specs.Laws.{IsKnownUse}
use Rattle.ddl_naming.proofs.Beginning.{Begins, not_none, past_again, split}
use Rattle.ddl_naming.proofs.NamedTypes.{made_type_left, type_taken}
use Rattle.ddl_naming.proofs.Taken.{takes_uses}

demand_alone : (K : Use → Type 0) (b : Bool) (r : NameError) (us rest : List Use) → Begins K (demand b r) us rest → us ≡ rest
demand_alone K true r us rest h = h.1
demand_alone K false r us rest h = absurd (not_none r h.0)

nil : (us : List Use) → us ≡ us ++ []
nil [] = refl
nil (u ∷ us) = ap (λ xs. u ∷ xs) (nil us)

-- what is found in the type of a parameter, behind its name
at_type : (K : Use → Type 0) (site : Site) (kind : Kind) (before : List Name) (scope : Scope) (p : mo.Param) (us rest : List Use)
    → Begins K (again before (param_name p) ++ demand (may_take kind (param_kind p)) (e.WrongKind (param_name p).span)
    ++ typed_findings site (param_type p) scope) us rest
    → Begins K (typed_findings site (param_type p) scope) us rest
at_type K site kind before scope p us rest h =
    let b = may_take kind (param_kind p) in let r = e.WrongKind (param_name p).span in let fs = typed_findings site (param_type p) scope in
    let q = split K (again before (param_name p) ++ demand b r) fs us rest h in
    (q.1, demand_alone K b r us (all_uses fs ++ rest) (past_again K before (param_name p) (demand b r) us (all_uses fs ++ rest) q.0), q.2)

written_taken : (K : Use → Type 0) (site : Site) (known : ℕ → Known) (t : y.TypeExpr) (scope : Scope) (z : State) (rest : List Use)
    → Begins K (type_findings site t scope) z.uses rest → AreNext known t z × ((made_type var known t z).state.uses ≡ rest)
written_taken K site known t scope z rest g = (λ m h. (type_taken K site known t scope z m h rest g).0, made_type_left K site var known t scope z rest g)

param_taken : (K : Use → Type 0) (site : Site) (known : ℕ → Known) (scope : Scope) (p : mo.Param) (z : State) (rest : List Use)
    → Begins K (typed_findings site (param_type p) scope) z.uses rest → IsParamNamed known p z × ((param_of known p z).state.uses ≡ rest)
param_taken K site known scope (mo.Upper x) z rest h = (tt, h.1)
param_taken K site known scope (mo.Lower x) z rest h = (tt, h.1)
param_taken K site known scope (mo.Class x) z rest h = (tt, h.1)
param_taken K site known scope (mo.TypedUpper x t s) z rest h = written_taken K site known t scope z rest h
param_taken K site known scope (mo.TypedLower x t s) z rest h = written_taken K site known t scope z rest h

params_taken : (K : Use → Type 0) (site : Site) (known : ℕ → Known) (kind : Kind) (before : List Name) (scope : Scope) (ps : List mo.Param) (z : State)
    (rest : List Use)
    → Begins K (param_findings site kind before scope ps) z.uses rest → AreParamsNamed known ps z × ((read_params known ps z).state.uses ≡ rest)
params_taken K site known kind before scope [] z rest h = (tt, h.1)
params_taken K site known kind before scope (p ∷ ps) z rest h =
    let gs = param_findings site kind (before ++ param_name p ∷ []) scope ps in
    let fs = again before (param_name p) ++ demand (may_take kind (param_kind p)) (e.WrongKind (param_name p).span) ++ typed_findings site (param_type p) scope
    in
    let q = split K fs gs z.uses rest h in
    let l = param_taken K site known scope p z (all_uses gs ++ rest) (at_type K site kind before scope p z.uses (all_uses gs ++ rest) q.0) in
    let r = params_taken K site known kind (before ++ param_name p ∷ []) scope ps (param_of known p z).state rest (q.1, l.1, q.2) in
    ((l.0, r.0), r.1)

result_taken : (K : Use → Type 0) (site : Site) (known : ℕ → Known) (scope : Scope) (t : Option y.TypeExpr) (own : Ty) (z : State) (rest : List Use)
    → Begins K (typed_findings site t scope) z.uses rest → IsResultNamed known t z × ((result_of known t own z).state.uses ≡ rest)
result_taken K site known scope None own z rest h = (tt, h.1)
result_taken K site known scope (Some t) own z rest h = written_taken K site known t scope z rest h

held : (site : Site) (heads known : ℕ → Known) (kind : Kind) (want : Want) (ps : List mo.Param) (t : Option y.TypeExpr) (x : ex.Expr) (own : Ty) (us : List Use)
    (z : State)
    → Begins (IsKnownUse site known) (param_findings site kind [] (param_scope ps) ps ++ typed_findings site t (param_scope ps)
    ++ findings site x want (param_scope ps)) us []
    → IsHeld heads known ps t x own us z
held site heads known kind want ps t x own us z h =
    let scope = param_scope ps in let K = IsKnownUse site known in
    let es = param_findings site kind [] scope ps in let fs = typed_findings site t scope in let gs = findings site x want scope in
    let p = split K (es ++ fs) gs us [] h in
    let q = split K es fs us (all_uses gs ++ []) p.0 in
    let l = params_taken K site heads kind [] scope ps (record z { uses = us }) (all_uses fs ++ (all_uses gs ++ [])) q.0 in
    let r = result_taken K site heads scope t own (read_params heads ps (record z { uses = us })).state (all_uses gs ++ []) (q.1, l.1, q.2) in
    record {
      params = l.0;
      result = r.0;
      body = λ begun m d same. takes_uses site x want scope (in_body (header heads ps t x own us z).body known) begun m d [] p.2 (p.1, same ∙ r.1);
    }

pub takes_grammars : TakesGrammars
takes_grammars site heads known x ps t a s own z knows h =
    let us = all_uses (decl_findings site (mo.Grammar x ps t a s)) in held site heads known k.Grammar w.Grammar ps t a own us z (h, nil us, knows)

pub takes_values : TakesValues
takes_values site heads known x ps t a s own z knows h =
    let us = all_uses (decl_findings site (mo.Value x ps t a s)) in held site heads known k.Value w.Value ps t a own us z (h, nil us, knows)
