-- Classes and arguments for classes take the uses that are found in them.
use Rattle.std.proofs.Common.{◌≡◌, ◌+◌, List, [], ◌++◌, length, Bool, true, false, Some, None, refl, ap, true≢false, arith}
use Rattle.std.specs.Prelude.{nat_eq}
use Rattle.std.proofs.lemmas.Bool.{eqb-true}
use Rattle.ddl_kinds.specs.declared.bound.Use.{Use}
use Rattle.ddl_kinds.specs.declared.error.NameError.{NameError}
use Rattle.ddl_kinds.specs.declared.error.NameError.TheVariants as e
use Rattle.ddl_kinds.specs.declared.want.Form.TheVariants as f
use Rattle.ddl_kinds.specs.declared.want.Want.TheVariants as w
use Rattle.ddl_kinds.specs.Findings.{Finding, all_uses, first_refusal, demand, fits, use_of, name_use, wants}
use Rattle.ddl_kinds.specs.Kinds.{form_of_cast, form_of_infix, takes, sides}
use Rattle.ddl_kinds.specs.Meanings.{Meaning, nothing, two_imports, one}
use Rattle.ddl_tree.specs.declared.kind.Kind.TheVariants as k
use Rattle.ddl_tree.specs.declared.name.Name.{Name}
use Rattle.ddl_tree.specs.declared.operator.CastOp.{CastOp}
use Rattle.ddl_tree.specs.declared.operator.CastOp.TheVariants as cast
use Rattle.ddl_tree.specs.declared.operator.InfixOp.{InfixOp}
use Rattle.ddl_tree.specs.declared.operator.InfixOp.TheVariants as op
use Rattle.ddl_tree.specs.ClassTree as cls
use Rattle.ddl_tree.specs.ExprTree as ex
use Rattle.ddl_uses.specs.Bindings.{Site, meaning}
use Rattle.ddl_uses.specs.Forms.{arguments, class_findings, count, findings, type_findings}
use Rattle.ddl_uses.specs.Scope.{Scope}
use Rattle.ddl_rules.specs.Asks.{Env, State, behind_use}
use Rattle.ddl_rules.specs.ClassForms.{class_made}
use Rattle.ddl_typing.specs.Names.{class_argument}
use Rattle.ddl_naming.specs.Laws.{TakesClasses}
use Rattle.ddl_naming.specs.Named.{IsClassArgumentNamed, IsClassNamed, IsNext}
use Rattle.ddl_naming.proofs.Bare.{IsBare, meaning_bare}
use Rattle.ddl_naming.proofs.Beginning.{Begins, each_any, first_none, name_next, not_none, past_fits, split}

-- ---- classes

pub class_taken : (K : Use → Type 0) (site : Site) (c : cls.Cls) (scope : Scope) (env : Env) (z : State) (rest : List Use)
    → Begins K (class_findings site c scope) z.uses rest → IsClassNamed c env z × ((class_made c env z).state.uses ≡ rest)
class_taken K site (cls.Union a b s) scope env z rest h =
    let fs = class_findings site a scope in let gs = class_findings site b scope in
    let p = split K fs gs z.uses rest h in
    let l = class_taken K site a scope env z (all_uses gs ++ rest) p.0 in
    let r = class_taken K site b scope env (class_made a env z).state rest (p.1, l.1, p.2) in
    ((l.0, r.0), r.1)
class_taken K site (cls.One x) scope env z rest h = (tt, h.1)
class_taken K site (cls.Range x y s) scope env z rest h = (tt, h.1)
class_taken K site (cls.Known x) scope env z rest h = name_next K w.Class x 0 (meaning site scope x) z.uses rest h
class_taken K site (cls.Other c s) scope env z rest h = class_taken K site c scope env z rest h
class_taken K site (cls.Grouped c s) scope env z rest h = class_taken K site c scope env z rest h
class_taken K site (cls.Set c s) scope env z rest h = class_taken K site c scope env z rest h

-- ---- forms that are no classes

infix_none : (o : InfixOp) → takes w.Class (form_of_infix o) ≡ false
infix_none op.Either = refl
infix_none op.OrElse = refl
infix_none o = refl

cast_none : (o : CastOp) → takes w.Class (form_of_cast o) ≡ false
cast_none cast.Fit = refl
cast_none cast.Lossless = refl
cast_none cast.Cut = refl

unmet : (b : Bool) (r : NameError) (gs : List Finding) → b ≡ false → first_refusal (demand b r ++ gs) ≡ None → ⊥
unmet true r gs p h = true≢false p
unmet false r gs p h = not_none r h

-- ---- a name with arguments: a class takes none

demanded : (b : Bool) (r : NameError) → first_refusal (demand b r) ≡ None → b ≡ true
demanded true r h = refl
demanded false r h = absurd (not_none r h)

class_called : (K : Use → Type 0) (site : Site) (x : Name) (xs : ex.Exprs) (m : Meaning) (scope : Scope) (us rest : List Use) → IsBare m
    → Begins K (name_use w.Class x (count xs) m ++ arguments site xs (wants m) scope) us rest → IsNext x us × (behind_use us ≡ rest)
class_called K site x ex.no_exprs m scope us rest p h = name_next K w.Class x 0 m us rest (split K (name_use w.Class x 0 m) [] us rest h).0
class_called K site x (ex.an_expr a xs) nothing scope us rest p h = absurd (not_none (e.Unknown x.span) h.0)
class_called K site x (ex.an_expr a xs) (two_imports i j) scope us rest p h = absurd (not_none (e.TwoImports x.span i j) h.0)
class_called K site x (ex.an_expr a xs) (one b k.Grammar ws) scope us rest p h = absurd (not_none (e.WrongKind x.span) h.0)
class_called K site x (ex.an_expr a xs) (one b k.Value ws) scope us rest p h = absurd (not_none (e.WrongKind x.span) h.0)
class_called K site x (ex.an_expr a xs) (one b k.Bits ws) scope us rest p h = absurd (not_none (e.WrongKind x.span) h.0)
class_called K site x (ex.an_expr a xs) (one b k.Class ws) scope us rest p h =
    let q : first_refusal (name_use w.Class x (1 + count xs) (one b k.Class ws)) ≡ None =
    (first_none (name_use w.Class x (1 + count xs) (one b k.Class ws)) (arguments site (ex.an_expr a xs) ws scope) h.0).0 in
    let r : first_refusal (demand (nat_eq (1 + count xs) (length ws)) (e.WrongCount x.span (1 + count xs) (length ws))) ≡ None =
    (first_none (demand (nat_eq (1 + count xs) (length ws)) (e.WrongCount x.span (1 + count xs) (length ws))) (use_of x b) q).0 in
    let n : 1 + count xs ≡ length ws = eqb-true (1 + count xs) (length ws)
    (demanded (nat_eq (1 + count xs) (length ws)) (e.WrongCount x.span (1 + count xs) (length ws)) r) in
    let m : length ws ≡ 0 = ap length p in
    absurd (omega (arith, n, m))

-- ---- arguments

pub class_argument_taken : (K : Use → Type 0) (site : Site) (a : ex.Expr) (scope : Scope) (env : Env) (z : State) (rest : List Use)
    → Begins K (findings site a w.Class scope) z.uses rest → IsClassArgumentNamed a env z × ((class_argument a env z).state.uses ≡ rest)
class_argument_taken K site (ex.Class x) scope env z rest h = name_next K w.Class x 0 (meaning site scope x) z.uses rest h
class_argument_taken K site (ex.Upper x) scope env z rest h = name_next K w.Class x 0 (meaning site scope x) z.uses rest h
class_argument_taken K site (ex.Lower x) scope env z rest h = name_next K w.Class x 0 (meaning site scope x) z.uses rest h
class_argument_taken K site (ex.CallGrammar x xs s) scope env z rest h =
    class_called K site x xs (meaning site scope x) scope z.uses rest (meaning_bare site scope x) h
class_argument_taken K site (ex.CallValue x xs s) scope env z rest h =
    class_called K site x xs (meaning site scope x) scope z.uses rest (meaning_bare site scope x) h
class_argument_taken K site (ex.Set c s) scope env z rest h =
    class_taken K site c scope env z rest (past_fits K w.Class f.Class s (class_findings site c scope) z.uses rest h)
class_argument_taken K site (ex.Paren a None s) scope env z rest h =
    class_argument_taken K site a scope env z rest (split K (findings site a w.Class scope) [] z.uses rest h).0
class_argument_taken K site (ex.Paren a (Some u) s) scope env z rest h = absurd (not_none (e.WrongKind s) h.0)
class_argument_taken K site (ex.Infix o a b s) scope env z rest h =
    let fs = fits w.Class (form_of_infix o) s ++ findings site a (sides o) scope in
    absurd (unmet (takes w.Class (form_of_infix o)) (e.WrongKind s) (findings site a (sides o) scope) (infix_none o)
    (first_none fs (findings site b (sides o) scope) h.0).0)
class_argument_taken K site (ex.Cast o a u s) scope env z rest h =
    let fs = fits w.Class (form_of_cast o) s ++ findings site a w.Value scope in
    absurd (unmet (takes w.Class (form_of_cast o)) (e.WrongKind s) (findings site a w.Value scope) (cast_none o)
    (first_none fs (type_findings site u scope) h.0).0)
class_argument_taken K site (ex.Pure a s) scope env z rest h = absurd (not_none (e.WrongKind s) h.0)
class_argument_taken K site (ex.If c a b s) scope env z rest h = absurd (not_none (e.WrongKind s) h.0)
class_argument_taken K site (ex.For x i ns l b s) scope env z rest h = absurd (not_none (e.WrongKind s) h.0)
class_argument_taken K site (ex.Map ns l b s) scope env z rest h = absurd (not_none (e.WrongKind s) h.0)
class_argument_taken K site (ex.Is a p s) scope env z rest h = absurd (not_none (e.WrongKind s) h.0)
class_argument_taken K site (ex.Prefix o a s) scope env z rest h = absurd (not_none (e.WrongKind s) h.0)
class_argument_taken K site (ex.Just a s) scope env z rest h = absurd (not_none (e.WrongKind s) h.0)
class_argument_taken K site (ex.Many o n a s) scope env z rest h = absurd (not_none (e.WrongKind s) h.0)
class_argument_taken K site (ex.Optional o a s) scope env z rest h = absurd (not_none (e.WrongKind s) h.0)
class_argument_taken K site (ex.Select a x s) scope env z rest h = absurd (not_none (e.WrongKind s) h.0)
class_argument_taken K site (ex.Num n) scope env z rest h = absurd (not_none (e.WrongKind n.span) h.0)
class_argument_taken K site (ex.Char c s) scope env z rest h = absurd (not_none (e.WrongKind s) h.0)
class_argument_taken K site (ex.Text bs s) scope env z rest h = absurd (not_none (e.WrongKind s) h.0)
class_argument_taken K site (ex.True s) scope env z rest h = absurd (not_none (e.WrongKind s) h.0)
class_argument_taken K site (ex.False s) scope env z rest h = absurd (not_none (e.WrongKind s) h.0)
class_argument_taken K site (ex.Nothing s) scope env z rest h = absurd (not_none (e.WrongKind s) h.0)
class_argument_taken K site (ex.Array xs s) scope env z rest h = absurd (not_none (e.WrongKind s) h.0)
class_argument_taken K site (ex.RecordOf bs s) scope env z rest h = absurd (not_none (e.WrongKind s) h.0)
class_argument_taken K site (ex.Tag x s) scope env z rest h = absurd (not_none (e.WrongKind s) h.0)
class_argument_taken K site (ex.TagWith x a s) scope env z rest h = absurd (not_none (e.WrongKind s) h.0)
class_argument_taken K site (ex.Block is s) scope env z rest h = absurd (not_none (e.WrongKind s) h.0)
class_argument_taken K site (ex.Choice o xs s) scope env z rest h = absurd (not_none (e.WrongKind s) h.0)
class_argument_taken K site (ex.Case a xs s) scope env z rest h = absurd (not_none (e.WrongKind s) h.0)

pub takes_classes : TakesClasses
takes_classes site c scope env z rest g = class_taken (λ u. Unit {0}) site c scope env z rest (g.0, g.1, each_any (all_uses (class_findings site c scope)))
