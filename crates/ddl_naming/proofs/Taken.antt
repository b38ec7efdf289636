-- Elaboration takes the uses that are found in an expression, each at its name.
use Rattle.std.proofs.Common.{◌≡◌, ℕ, List, [], ◌∷◌, ◌++◌, Bool, true, false, Some, None, refl, ap, ◌∙◌}
use Rattle.std.specs.Prelude.{drop}
use Rattle.ddl_kinds.specs.declared.bound.Use.{Use}
use Rattle.ddl_kinds.specs.declared.want.Form.TheVariants as f
use Rattle.ddl_kinds.specs.declared.want.Want.{Want}
use Rattle.ddl_kinds.specs.declared.want.Want.TheVariants as w
use Rattle.ddl_kinds.specs.Findings.{all_uses, again, fits}
use Rattle.ddl_kinds.specs.Kinds.{first_want, form_of_cast, form_of_infix, free_want, next_want, settled, sides}
use Rattle.ddl_tree.specs.declared.kind.Kind.{Kind}
use Rattle.ddl_tree.specs.declared.kind.Kind.TheVariants as k
use Rattle.ddl_tree.specs.declared.name.Name.{Name}
use Rattle.ddl_tree.specs.ExprTree as ex
use Rattle.ddl_types.specs.Types.{Ty}
use Rattle.ddl_uses.specs.Bindings.{Site, meaning}
use Rattle.ddl_uses.specs.Forms.{arguments, bindings, bound_findings, branches, class_findings, each, findings, item_findings, items, once, once_again}
use Rattle.ddl_uses.specs.Forms.{type_findings}
use Rattle.ddl_uses.specs.Scope.{Scope, after_item, after_names, after_pattern, value}
use Rattle.ddl_rules.specs.Asks.{Env, Known, State, after_use, after_variables, bound_next, unit_type, with_value}
use Rattle.ddl_rules.specs.Patterns.{with_names}
use Rattle.ddl_typing.specs.Branches.{pattern_env, pattern_vars}
use Rattle.ddl_typing.specs.Names.{next_kind, rest_kinds, target}
use Rattle.ddl_typing.specs.Typed.{Typed, TypedAll, TypedArgs, TypedBounds, TypedCases, TypedItems, TypedNamed, first_type, rest_types}
use Rattle.ddl_typing.specs.Typing.{Typing, TypingAll, TypingArgs, TypingBounds, TypingCases, TypingItems, TypingMembers, TypingMore, TypingMoreCases}
use Rattle.ddl_naming.specs.Laws.{IsKnownUse, TakesUses}
use Rattle.ddl_naming.specs.Named.{AreArgsNamed, AreBoundsNamed, AreCasesNamed, AreItemsNamed, AreMembersNamed, AreMoreCasesNamed, AreMoreNamed, AreNamed}
use Rattle.ddl_naming.specs.Named.{IsNamed}
use Rattle.ddl_naming.proofs.Beginning.{Begins, alone, name_next, past_again, past_fits, past_once, split, two}
use Rattle.ddl_naming.proofs.NamedArguments.{Agree, agree_next, agree_rest, call, one_argument}
use Rattle.ddl_naming.proofs.NamedClasses.{class_taken}
use Rattle.ddl_naming.proofs.NamedTypes.{type_taken}
use Rattle.ddl_naming.proofs.States.{block_uses, cast_uses, names_known, noted_uses, pattern_known, prefix_uses, record_uses}

left : {m n : Typed} → m ≡ n → m.state.uses ≡ n.state.uses
left p = ap (λ w. w.state.uses) p

module _ (site : Site) (known : ℕ → Known) where
  -- what is known of each use
  abbrev K : Use → Type 0
  K = IsKnownUse site known

  mutual
    taken : (x : ex.Expr) (want : Want) (scope : Scope) (env : Env) (z : State) (m : Typed) (h : Typing x env z m) (rest : List Use) → env.known ≡ known
        → Begins K (findings site x want scope) z.uses rest → IsNamed x env z m h × (m.state.uses ≡ rest)
    taken (ex.Infix o a b s) want scope env z m h rest q g =
        let fs = findings site a (sides o) scope in let gs = findings site b (sides o) scope in
        let p = two K want (form_of_infix o) s fs gs z.uses rest g in
        let l = taken a (sides o) scope env z h.0 h.1 (all_uses gs ++ rest) q p.0 in
        let r = taken b (sides o) scope env h.0.state h.2.0 h.2.1 rest q (p.1, l.1, p.2) in
        ((l.0, r.0), left h.2.2.2 ∙ r.1)
    taken (ex.Pure a s) want scope env z m h rest q g =
        let l = taken a w.Value scope env z h.0 h.1 rest q (past_fits K want f.Grammar s (findings site a w.Value scope) z.uses rest g) in (l.0, left h.2 ∙ l.1)
    taken (ex.If c a b s) want scope env z m h rest q g =
        let v = settled want (free_want a) in
        let es = findings site c w.Value scope in let fs = findings site a v scope in let gs = findings site b v scope in
        let p = split K (fits want f.Either s ++ es ++ fs) gs z.uses rest g in
        let n = two K want f.Either s es fs z.uses (all_uses gs ++ rest) p.0 in
        let test = taken c w.Value scope env z h.0 h.1 (all_uses fs ++ (all_uses gs ++ rest)) q n.0 in
        let l = taken a v scope env h.0.state h.2.0 h.2.1 (all_uses gs ++ rest) q (n.1, test.1, n.2) in
        let r = taken b v scope env h.2.0.state h.2.2.0 h.2.2.1 rest q (p.1, l.1, p.2) in
        ((test.0, l.0, r.0), left h.2.2.2 ∙ r.1)
    taken (ex.For x i ns l b s) want scope env z m h rest q g =
        let last = after_names ns (value x ∷ scope) in
        let es = findings site i w.Value scope in let fs = findings site l w.Value scope in let gs = findings site b want last in
        let p = split K (fits want f.Either s ++ es ++ fs) gs z.uses rest g in
        let n = two K want f.Either s es fs z.uses (all_uses gs ++ rest) p.0 in
        let start = taken i w.Value scope env z h.0 h.1 (all_uses fs ++ (all_uses gs ++ rest)) q n.0 in
        let list = taken l w.Value scope env h.0.state h.2.0 h.2.1 (all_uses gs ++ rest) q (n.1, start.1, n.2) in
        let inner = with_value x.span h.0.of env in
        let turn = taken b want last (with_names ns.first.span ns.second h.2.2.0 h.2.2.1.0 inner) (after_variables 2 h.2.0.state) h.2.2.1.1.0 h.2.2.1.1.1 rest
        (names_known ns.first.span ns.second h.2.2.0 h.2.2.1.0 inner ∙ q) (p.1, list.1, p.2) in
        ((start.0, list.0, turn.0), left h.2.2.1.1.2 ∙ turn.1)
    taken (ex.Map ns l b s) want scope env z m h rest q g =
        let fs = findings site l w.Value scope in let gs = findings site b want (after_names ns scope) in
        let p = two K want f.Either s fs gs z.uses rest g in
        let list = taken l w.Value scope env z h.0 h.1 (all_uses gs ++ rest) q p.0 in
        let turn = taken b want (after_names ns scope) (with_names ns.first.span ns.second h.2.0 h.2.1.0 env) (after_variables 3 h.0.state) h.2.1.1.1.0
        h.2.1.1.1.1 rest (names_known ns.first.span ns.second h.2.0 h.2.1.0 env ∙ q) (p.1, list.1, p.2) in
        ((list.0, turn.0), left h.2.1.1.1.2 ∙ turn.1)
    taken (ex.Is a p s) want scope env z m h rest q g =
        let l = taken a w.Value scope env z h.0 h.1 rest q (past_fits K want f.Grammar s (findings site a w.Value scope) z.uses rest g)
        in (l.0, left h.2.2 ∙ l.1)
    taken (ex.Prefix o a s) want scope env z m h rest q g =
        let l = taken a w.Value scope env z h.0 h.1 rest q (past_fits K want f.Value s (findings site a w.Value scope) z.uses rest g) in
        (l.0, left h.2 ∙ prefix_uses o s h.0 ∙ l.1)
    taken (ex.Cast o a u s) want scope env z m h rest q g =
        let fs = findings site a w.Value scope in let gs = type_findings site u scope in
        let p = two K want (form_of_cast o) s fs gs z.uses rest g in
        let l = taken a w.Value scope env z h.0 h.1 (all_uses gs ++ rest) q p.0 in
        let r = type_taken K site env.known u scope h.0.state h.2.0 h.2.1 rest (p.1, l.1, p.2) in
        ((l.0, r.0), left h.2.2 ∙ cast_uses o s h.0 h.2.0 ∙ r.1)
    taken (ex.CallGrammar x xs s) want scope env z m h rest q g =
        call site known k.Grammar x xs s want scope env z m h rest (λ i kinds us ws scope2 env2 z2 m2 h2 rest2 q2 a2 g2.
        args_taken xs i kinds us ws scope2 env2 z2 m2 h2 rest2 q2 a2 g2) q g
    taken (ex.CallValue x xs s) want scope env z m h rest q g =
        call site known k.Value x xs s want scope env z m h rest (λ i kinds us ws scope2 env2 z2 m2 h2 rest2 q2 a2 g2.
        args_taken xs i kinds us ws scope2 env2 z2 m2 h2 rest2 q2 a2 g2) q g
    taken (ex.Just a s) want scope env z m h rest q g =
        let l = taken a w.Value scope env z h.0 h.1 rest q (past_fits K want f.Value s (findings site a w.Value scope) z.uses rest g) in (l.0, left h.2 ∙ l.1)
    taken (ex.Many o n a s) want scope env z m h rest q g =
        let fs = bound_findings site n scope in let gs = findings site a w.Grammar scope in
        let p = two K want f.Grammar s fs gs z.uses rest g in
        let l = bounds_taken n scope env z h.0 h.1 (all_uses gs ++ rest) q p.0 in
        let r = taken a w.Grammar scope env h.0.state h.2.0 h.2.1 rest q (p.1, l.1, p.2) in
        ((l.0, r.0), left h.2.2 ∙ r.1)
    taken (ex.Optional o a s) want scope env z m h rest q g =
        let l = taken a w.Grammar scope env z h.0 h.1 rest q (past_fits K want f.Grammar s (findings site a w.Grammar scope) z.uses rest g) in
        (l.0, left h.2 ∙ l.1)
    taken (ex.Select a x s) want scope env z m h rest q g =
        let l = taken a w.Value scope env z h.0 h.1 rest q (past_fits K want f.Value s (findings site a w.Value scope) z.uses rest g) in (l.0, left h.2.1 ∙ l.1)
    taken (ex.Num n) want scope env z m h rest q g = (tt, left h.1 ∙ alone K want f.Value n.span z.uses rest g)
    taken (ex.Char c s) want scope env z m h rest q g = (tt, left h ∙ alone K want f.Value s z.uses rest g)
    taken (ex.Text bs s) want scope env z m h rest q g = (tt, left h ∙ alone K want f.Text s z.uses rest g)
    taken (ex.True s) want scope env z m h rest q g = (tt, left h ∙ alone K want f.Value s z.uses rest g)
    taken (ex.False s) want scope env z m h rest q g = (tt, left h ∙ alone K want f.Value s z.uses rest g)
    taken (ex.Nothing s) want scope env z m h rest q g = (tt, left h.1 ∙ alone K want f.Value s z.uses rest g)
    taken (ex.Upper x) want scope env z m h rest q g =
        let n = name_next K want x 0 (meaning site scope x) z.uses rest g in let o = bound_next z.uses in
        (n.0, left h.2 ∙ noted_uses o [] (after_variables (target o env).vars (after_use z)) ∙ n.1)
    taken (ex.Lower x) want scope env z m h rest q g =
        let n = name_next K want x 0 (meaning site scope x) z.uses rest g in let o = bound_next z.uses in
        (n.0, left h.2 ∙ noted_uses o [] (after_variables (target o env).vars (after_use z)) ∙ n.1)
    taken (ex.Class x) want scope env z m h rest q g =
        let n = name_next K want x 0 (meaning site scope x) z.uses rest g in (n.0, left h ∙ n.1)
    taken (ex.Set c s) want scope env z m h rest q g =
        let n = class_taken K site c scope env z rest (past_fits K want f.Class s (class_findings site c scope) z.uses rest g) in (n.0, left h ∙ n.1)
    taken (ex.Paren a None s) want scope env z m h rest q g =
        let p = two K want f.Group s (findings site a want scope) [] z.uses rest g in
        let l = taken a want scope env z h.0 h.1 rest q p.0 in (l.0, left h.2 ∙ l.1)
    taken (ex.Paren a (Some u) s) want scope env z m h rest q g =
        let fs = findings site a want scope in let gs = type_findings site u scope in
        let p = two K want f.Either s fs gs z.uses rest g in
        let l = taken a want scope env z h.0 h.1 (all_uses gs ++ rest) q p.0 in
        let r = type_taken K site env.known u scope h.0.state h.2.0 h.2.1 rest (p.1, l.1, p.2) in
        ((l.0, r.0), left h.2.2 ∙ r.1)
    taken (ex.Array xs s) want scope env z m h rest q g =
        let r = all_taken xs w.Value scope env z h.0 h.1 rest q (past_fits K want f.Value s (each site xs w.Value scope) z.uses rest g) in (r.0, left h.2 ∙ r.1)
    taken (ex.RecordOf bs s) want scope env z m h rest q g =
        let r = members_taken false bs w.Value [] scope env z h.0 h.1 rest q
        (past_fits K want f.Value s (bindings site bs w.Value [] scope) z.uses rest g) in
        (r.0, left h.2 ∙ record_uses h.0.names s h.0 ∙ r.1)
    taken (ex.Tag x s) want scope env z m h rest q g = (tt, left h.1 ∙ alone K want f.Value s z.uses rest g)
    taken (ex.TagWith x a s) want scope env z m h rest q g =
        let l = taken a w.Value scope env (after_variables 1 z) h.1.0 h.1.1 rest q
        (past_fits K want f.Value s (findings site a w.Value scope) z.uses rest g) in
        (l.0, left h.1.2 ∙ l.1)
    taken (ex.Block is s) want scope env z m h rest q g =
        let r = items_taken is unit_type [] scope env z h.0 h.1 rest q (past_fits K want f.Grammar s (items site is [] scope) z.uses rest g) in
        (r.0, left h.2 ∙ block_uses h.0.result h.0.names s h.0 ∙ r.1)
    taken (ex.Choice o (ex.WithTags bs) s) want scope env z m h rest q g =
        let r = members_taken true bs w.Free [] scope env z h.0 h.1 rest q
        (past_fits K want f.Grammar s (bindings site bs w.Free [] scope) z.uses rest g) in
        (r.0, left h.2 ∙ r.1)
    taken (ex.Choice o (ex.Untagged xs) s) want scope env z m h rest q g =
        let r = all_taken xs w.Grammar scope env z h.0 h.1 rest q (past_fits K want f.Grammar s (each site xs w.Grammar scope) z.uses rest g) in
        (r.0, left h.2 ∙ r.1)
    taken (ex.Case a xs s) want scope env z m h rest q g =
        let v = settled want (first_want xs) in
        let fs = findings site a w.Value scope in let gs = branches site xs v scope in
        let p = two K want f.Either s fs gs z.uses rest g in
        let l = taken a w.Value scope env z h.0 h.1 (all_uses gs ++ rest) q p.0 in
        let r = cases_taken xs h.0.of v scope env h.0.state h.2.0 h.2.1 rest q (p.1, l.1, p.2) in
        ((l.0, r.0), left h.2.2 ∙ r.1)

    all_taken : (xs : ex.Exprs) (want : Want) (scope : Scope) (env : Env) (z : State) (m : TypedAll) (h : TypingAll xs env z m) (rest : List Use)
        → env.known ≡ known → Begins K (each site xs want scope) z.uses rest → AreNamed xs env z m h × (m.state.uses ≡ rest)
    all_taken ex.no_exprs want scope env z m h rest q g = (tt, ap (λ w. w.state.uses) h.1 ∙ g.1)
    all_taken (ex.an_expr a xs) want scope env z m h rest q g =
        let gs = each site xs want scope in
        let p = split K (findings site a want scope) gs z.uses rest g in
        let l = taken a want scope env z h.0 h.1 (all_uses gs ++ rest) q p.0 in
        let r = more_taken xs h.0.of want scope env h.0.state h.2.0 h.2.1 rest q (p.1, l.1, p.2) in
        ((l.0, r.0), ap (λ w. w.state.uses) h.2.2 ∙ r.1)

    more_taken : (xs : ex.Exprs) (u : Ty) (want : Want) (scope : Scope) (env : Env) (z : State) (m : TypedAll) (h : TypingMore xs u env z m)
        (rest : List Use) → env.known ≡ known → Begins K (each site xs want scope) z.uses rest → AreMoreNamed xs u env z m h × (m.state.uses ≡ rest)
    more_taken ex.no_exprs u want scope env z m h rest q g = (tt, ap (λ w. w.state.uses) h ∙ g.1)
    more_taken (ex.an_expr a xs) u want scope env z m h rest q g =
        let gs = each site xs want scope in
        let p = split K (findings site a want scope) gs z.uses rest g in
        let l = taken a want scope env z h.0 h.1 (all_uses gs ++ rest) q p.0 in
        let r = more_taken xs u want scope env h.0.state h.2.0 h.2.1 rest q (p.1, l.1, p.2) in
        ((l.0, r.0), ap (λ w. w.state.uses) h.2.2 ∙ r.1)

    members_taken : (open_ : Bool) (bs : ex.Bindings) (want : Want) (before : List Name) (scope : Scope) (env : Env) (z : State) (m : TypedNamed)
        (h : TypingMembers open_ bs env z m) (rest : List Use) → env.known ≡ known → Begins K (bindings site bs want before scope) z.uses rest
        → AreMembersNamed open_ bs env z m h × (m.state.uses ≡ rest)
    members_taken open_ ex.no_bindings want before scope env z m h rest q g = (tt, ap (λ w. w.state.uses) h ∙ g.1)
    members_taken open_ (ex.a_binding x a s bs) want before scope env z m h rest q g =
        let fs = findings site a want scope in let gs = bindings site bs want (before ++ x ∷ []) scope in
        let p = split K (again before x ++ fs) gs z.uses rest g in
        let l = taken a want scope env z h.0 h.1 (all_uses gs ++ rest) q (past_again K before x fs z.uses (all_uses gs ++ rest) p.0) in
        let r = members_taken open_ bs want (before ++ x ∷ []) scope env h.0.state h.2.0 h.2.1 rest q (p.1, l.1, p.2) in
        ((l.0, r.0), ap (λ w. w.state.uses) h.2.2 ∙ r.1)

    args_taken : (xs : ex.Exprs) (i : ℕ) (kinds : List Kind) (us : List Ty) (ws : List Want) (scope : Scope) (env : Env) (z : State) (m : TypedArgs)
        (h : TypingArgs xs i kinds us env z m) (rest : List Use) → env.known ≡ known → Agree kinds ws → Begins K (arguments site xs ws scope) z.uses rest
        → AreArgsNamed xs i kinds us env z m h × (m.state.uses ≡ rest)
    args_taken ex.no_exprs i kinds us ws scope env z m h rest q b g = (tt, ap (λ w. w.state.uses) h ∙ g.1)
    args_taken (ex.an_expr a xs) i kinds us ws scope env z m h rest q b g =
        one_argument site known (next_kind kinds) a xs i (rest_kinds kinds) (first_type us) (rest_types us) (next_want ws) (drop 1 ws) scope env z m h rest
        (λ want scope2 env2 z2 m2 h2 rest2 q2 g2. taken a want scope2 env2 z2 m2 h2 rest2 q2 g2)
        (λ i2 kinds2 us2 ws2 scope2 env2 z2 m2 h2 rest2 q2 b2 g2. args_taken xs i2 kinds2 us2 ws2 scope2 env2 z2 m2 h2 rest2 q2 b2 g2) q
        (agree_next kinds ws b) (agree_rest kinds ws b) g

    bounds_taken : (n : ex.Bound) (scope : Scope) (env : Env) (z : State) (m : TypedBounds) (h : TypingBounds n env z m) (rest : List Use)
        → env.known ≡ known → Begins K (bound_findings site n scope) z.uses rest → AreBoundsNamed n env z m h × (m.state.uses ≡ rest)
    bounds_taken ex.Free scope env z m h rest q g = (tt, ap (λ w. w.state.uses) h ∙ g.1)
    bounds_taken (ex.Exactly a) scope env z m h rest q g =
        let l = taken a w.Value scope env z h.0 h.1 rest q g in (l.0, ap (λ w. w.state.uses) h.2 ∙ l.1)
    bounds_taken (ex.AtLeast a s) scope env z m h rest q g =
        let l = taken a w.Value scope env z h.0 h.1 rest q g in (l.0, ap (λ w. w.state.uses) h.2 ∙ l.1)
    bounds_taken (ex.AtMost a s) scope env z m h rest q g =
        let l = taken a w.Value scope env z h.0 h.1 rest q g in (l.0, ap (λ w. w.state.uses) h.2 ∙ l.1)
    bounds_taken (ex.Between a b s) scope env z m h rest q g =
        let gs = findings site b w.Value scope in
        let p = split K (findings site a w.Value scope) gs z.uses rest g in
        let l = taken a w.Value scope env z h.0 h.1 (all_uses gs ++ rest) q p.0 in
        let r = taken b w.Value scope env h.0.state h.2.0 h.2.1 rest q (p.1, l.1, p.2) in
        ((l.0, r.0), ap (λ w. w.state.uses) h.2.2 ∙ r.1)

    items_taken : (is : ex.Items) (u : Ty) (before : List Name) (scope : Scope) (env : Env) (z : State) (m : TypedItems) (h : TypingItems is u env z m)
        (rest : List Use) → env.known ≡ known → Begins K (items site is before scope) z.uses rest → AreItemsNamed is u env z m h × (m.state.uses ≡ rest)
    items_taken ex.no_items u before scope env z m h rest q g = (tt, ap (λ w. w.state.uses) h ∙ g.1)
    items_taken (ex.an_item (ex.Result a s) is) u before scope env z m h rest q g =
        let i = ex.Result a s in let gs = items site is (before ++ once i) (after_item i scope) in
        let p = split K (once_again before (once i) ++ item_findings site i scope) gs z.uses rest g in
        let l = taken a w.Free scope env z h.0 h.1 (all_uses gs ++ rest) q
        (past_once K before (once i) (findings site a w.Free scope) z.uses (all_uses gs ++ rest) p.0) in
        let r = items_taken is h.0.of (before ++ once i) (after_item i scope) env h.0.state h.2.0 h.2.1 rest q (p.1, l.1, p.2) in
        ((l.0, r.0), ap (λ w. w.state.uses) h.2.2 ∙ r.1)
    items_taken (ex.an_item (ex.Let x a s) is) u before scope env z m h rest q g =
        let i = ex.Let x a s in let gs = items site is (before ++ once i) (after_item i scope) in
        let p = split K (once_again before (once i) ++ item_findings site i scope) gs z.uses rest g in
        let l = taken a w.Free scope env z h.0 h.1 (all_uses gs ++ rest) q
        (past_once K before (once i) (findings site a w.Free scope) z.uses (all_uses gs ++ rest) p.0) in
        let r = items_taken is unit_type (before ++ once i) (after_item i scope) (with_value x.span h.0.of env) h.0.state h.2.0 h.2.1 rest q (p.1, l.1, p.2) in
        ((l.0, r.0), ap (λ w. w.state.uses) h.2.2 ∙ r.1)
    items_taken (ex.an_item (ex.Field x a s) is) u before scope env z m h rest q g =
        let i = ex.Field x a s in let gs = items site is (before ++ once i) (after_item i scope) in
        let p = split K (once_again before (once i) ++ item_findings site i scope) gs z.uses rest g in
        let l = taken a w.Free scope env z h.0 h.1 (all_uses gs ++ rest) q
        (past_once K before (once i) (findings site a w.Free scope) z.uses (all_uses gs ++ rest) p.0) in
        let r = items_taken is unit_type (before ++ once i) (after_item i scope) (with_value x.span h.0.of env) h.0.state h.2.0 h.2.1 rest q (p.1, l.1, p.2) in
        ((l.0, r.0), ap (λ w. w.state.uses) h.2.2 ∙ r.1)
    items_taken (ex.an_item (ex.Plain a) is) u before scope env z m h rest q g =
        let i = ex.Plain a in let gs = items site is (before ++ once i) (after_item i scope) in
        let p = split K (once_again before (once i) ++ item_findings site i scope) gs z.uses rest g in
        let l = taken a w.Grammar scope env z h.0 h.1 (all_uses gs ++ rest) q
        (past_once K before (once i) (findings site a w.Grammar scope) z.uses (all_uses gs ++ rest) p.0) in
        let r = items_taken is h.0.of (before ++ once i) (after_item i scope) env h.0.state h.2.0 h.2.1 rest q (p.1, l.1, p.2) in
        ((l.0, r.0), ap (λ w. w.state.uses) h.2.2 ∙ r.1)

    cases_taken : (xs : ex.Alts) (u : Ty) (want : Want) (scope : Scope) (env : Env) (z : State) (m : TypedCases) (h : TypingCases xs u env z m)
        (rest : List Use)
        → env.known ≡ known → Begins K (branches site xs want scope) z.uses rest → AreCasesNamed xs u env z m h × (m.state.uses ≡ rest)
    cases_taken ex.no_alts u want scope env z m h rest q g = (tt, ap (λ w. w.state.uses) h.1 ∙ g.1)
    cases_taken (ex.an_alt p a s xs) u want scope env z m h rest q g =
        let gs = branches site xs want scope in
        let n = split K (findings site a want (after_pattern p scope)) gs z.uses rest g in
        let c = first_type h.0 in
        let l = taken a want (after_pattern p scope) (pattern_env p c env) (after_variables (pattern_vars p) z) h.2.0 h.2.1 (all_uses gs ++ rest)
        (pattern_known p c env ∙ q) n.0 in
        let r = more_cases_taken xs u h.2.0.of want scope env h.2.0.state h.2.2.0 h.2.2.1 rest q (n.1, l.1, n.2) in
        ((l.0, r.0), ap (λ w. w.state.uses) h.2.2.2 ∙ r.1)

    more_cases_taken : (xs : ex.Alts) (u v : Ty) (want : Want) (scope : Scope) (env : Env) (z : State) (m : TypedCases) (h : TypingMoreCases xs u v env z m)
        (rest : List Use)
        → env.known ≡ known → Begins K (branches site xs want scope) z.uses rest → AreMoreCasesNamed xs u v env z m h × (m.state.uses ≡ rest)
    more_cases_taken ex.no_alts u v want scope env z m h rest q g = (tt, ap (λ w. w.state.uses) h ∙ g.1)
    more_cases_taken (ex.an_alt p a s xs) u v want scope env z m h rest q g =
        let gs = branches site xs want scope in
        let n = split K (findings site a want (after_pattern p scope)) gs z.uses rest g in
        let c = first_type h.0 in
        let l = taken a want (after_pattern p scope) (pattern_env p c env) (after_variables (pattern_vars p) z) h.2.0 h.2.1 (all_uses gs ++ rest)
        (pattern_known p c env ∙ q) n.0 in
        let r = more_cases_taken xs u v want scope env h.2.0.state h.2.2.0 h.2.2.1 rest q (n.1, l.1, n.2) in
        ((l.0, r.0), ap (λ w. w.state.uses) h.2.2.2 ∙ r.1)

pub takes_uses : TakesUses
takes_uses site x want scope env z m h rest knows g = taken site env.known x want scope env z m h rest refl (g.0, g.1, knows)
