-- A value form costs what it pays.
use Rattle.std.proofs.Common.{◌≡◌, ℕ, Bool, true, false, if◌then◌else◌, List, [], ◌∷◌, ◌++◌, Some, None, refl, ap, subst, sym, ◌∙◌, arith}
use Rattle.ddl_base.specs.declared.span.Span.{Span}
use Rattle.ddl_types.specs.Types.{Ty}
use Rattle.ddl_types.specs.Value.{Value, Values, Stream, boolean, unit, nothing, just, tagged, array, no_values, value}
use Rattle.ddl_types.specs.Value as vs
use Rattle.ddl_types.specs.Outcome.{Stuck, ends, tick, parsed}
use Rattle.ddl_types.specs.Joining.{leave}
use Rattle.ddl_ops.specs.declared.operators.Infix.TheVariants.{Arithmetic, Compare, Beside, Append, And, Or}
use Rattle.ddl_ops.specs.declared.pattern.Pattern.{Pattern}
use Rattle.ddl_ops.specs.Valued.{Valued, gives, counts, given, then_value, then_parse}
use Rattle.ddl_ops.specs.Numbers.{number_type, number_at}
use Rattle.ddl_ops.specs.Operators.{truth_of, infix_value, prefix_value}
use Rattle.ddl_ops.specs.Records.{selected, record_of}
use Rattle.ddl_ops.specs.Primitives.{byte_values}
use Rattle.ddl_ops.specs.Patterns.{matched, name_of}
use Rattle.ddl_ops.specs.Casts.{target, cast_value}
use Rattle.ddl_ops.specs.Builtins.{builtin_value}
use Rattle.ddl_ops.proofs.Paid.{Costs, paid, spent, is_stuck, costs_more, costs_fewer, costs_keep, costs_then, performs, costs_exit, count_then}
use Rattle.ddl_typed.specs.Tree.{Name, own, Expr, Form, Exprs, Named, Cases, Args, Spec, expr, text, local, literal, truth, nothing_, just_, list, record_}
use Rattle.ddl_typed.specs.Tree.{union_, select, infix_, prefix_, cast, builtin, value_call, paren, if_, case_, for_, map_, no_exprs, more, no_named, named}
use Rattle.ddl_typed.specs.Tree.{no_content, content, no_cases, when, no_args, by_value, by_hand}
use Rattle.ddl_typed.specs.Env.{Env, empty, with_value, with_name, named_in, value_in, with_optional}
use Rattle.ddl_typed.specs.Lower as typed
use Rattle.ddl_typed.specs.Blocks.{add_field}
use Rattle.ddl_typed.specs.Choices.{branch_value}
use Rattle.ddl_typed.specs.Meaning.{called, val, form_val, vals, args_env}
use Rattle.ddl_typed.specs.Meaning as meaning
use Rattle.ddl_mono.specs.Copies.{Scope}
use Rattle.ddl_mono.specs.IsMono.{arg_scope}
use Rattle.ddl_mono.specs.IsMono as mono
use Rattle.ddl_core.specs.Core as c
use Rattle.ddl_core.specs.Meaning.{at, all_at, listed, Current, outside}
use Rattle.ddl_core.specs.Meaning as core
use Rattle.ddl_core.specs.Operations.{named_fields, applied, performed}
use Rattle.ddl_lowering.specs.Scopes.{index, has_name, shifted, named_at}
use Rattle.ddl_lowering.specs.PartTypes.{array_type, type_of}
use Rattle.ddl_lowering.specs.Choices.{wrong, by_truth}
use Rattle.ddl_lowering.specs.Lowered.{valued, form_valued, exprs_valued, named_valued, cases_valued, args_called}
use Rattle.ddl_lowering.proofs.Positions.{over}
use Rattle.ddl_lowering.proofs.Variables.{Zip, nil, zip, scope, values, look, Matches, at_index, match_skip, match_name, match_value_name, match_optional}
use Rattle.ddl_lowering.proofs.Variables.{all_shift, closed_closed, is_there, not_there, none_named}
use Rattle.ddl_lowering.proofs.Listed.{joined, joined_end, joined_more, then_assoc, hand_all, all_app, named_app, fields_after, after_more, after_none}
use Rattle.ddl_lowering.proofs.Steps.{local_cost, strict, case_cost}
use Rattle.ddl_lowering.proofs.Below.{LowerCosts}
use Rattle.ddl_lowering.proofs.LoopBegins.{for_begins, map_begins}

module _ {spec : Spec} {params : ℕ → Scope} {is_value : ℕ → Bool} {within : Pattern → Ty
    → Ty} {l : typed.Lower} {k : core.Lower} (h : LowerCosts spec params is_value within l k) where
  abbrev Calls : ℕ → Bool → Scope → Type 0
  Calls = mono.Calls spec params is_value

  abbrev IsValue : Expr → Type 0
  IsValue = mono.IsValue spec params is_value

  abbrev IsValueForm : Form → Ty → Type 0
  IsValueForm = mono.IsValueForm spec params is_value

  abbrev AreArguments : Args → Type 0
  AreArguments = mono.AreArguments spec params is_value

  abbrev AreFields : Named → Type 0
  AreFields = mono.AreFields spec params is_value

  abbrev AreValues : Exprs → Type 0
  AreValues = mono.AreValues spec params is_value

  abbrev AreValueCases : Cases → Type 0
  AreValueCases = mono.AreValueCases spec params is_value

  -- a value form and its core
  abbrev Cost : Expr → Env → Zip → Current → Stream → Type 0
  Cost e env z cur s = Costs 5 s 0 (val spec l e env) (core.core k (valued spec.bits within e (scope z)) cur (values z) s)

  pub hand_cost : (b : Bool) (here : Name) (env : Env) (z : Zip) (s : Stream) → has_name (scope z) here ≡ b → Matches z env
      → (rest : Value → Valued) (g : c.Form) (cur : Current) (span : Span) →
      ((v : Value) → look z here ≡ Some v → Costs 5 s 8 (rest v) (core.core k g cur (values z) s))
      → Costs 5 s 8 (then_value (given (named_in env here)) rest) (core.core k (if b then g else wrong span) cur (values z) s)
  hand_cost true here env z s e m rest g cur span r =
      let w = is_there z here e in subst (λ o. Costs 5 s 8 (then_value (given o) rest) (core.core k g cur (values z) s)) (sym (m.by here ∙ w.is))
      (r w.value w.is)
  hand_cost false here env z s e m rest g cur span r =
      subst (λ o. Costs 5 s 8 (then_value (given o) rest) (tick (ends Stuck))) (sym (m.by here ∙ not_there z here e))
      (spent {b = 7} (omega arith) is_stuck)

  mutual
    pub val_costs : (e : Expr) (env : Env) (z : Zip) (cur : Current) (s : Stream) → IsValue e → Matches z env → Cost e env z cur s
    val_costs (expr form ty span) env z cur s ok m = form_costs form ty span env z cur s ok m

    form_costs : (form : Form) (ty : Ty) (span : Span) (env : Env) (z : Zip) (cur : Current) (s : Stream) → IsValueForm form ty → Matches z env →
        Costs 5 s 0 (form_val spec l form ty span env) (core.core k (form_valued spec.bits within form ty span (scope z)) cur (values z) s)
    form_costs (text bs) ty span env z cur s ok m = paid {b = 8} (omega arith) (performs (gives (array (byte_values bs))) (omega arith))
    form_costs (local x) ty span env z cur s ok m = local_cost (at (values z) (index (scope z) (own x))) (value_in env x) s (at_index z (own x)
        ∙ sym (m.by (own x)))
    form_costs (literal n) ty span env z cur s ok m =
        subst (λ u. Costs 5 s 0 (counts (number_at n (number_type u))) (tick (then_parse (number_at n (number_type ty)) (λ v. parsed v s))))
        (sym (closed_closed env ty ok))
        (paid {b = 8} (omega arith) (performs (number_at n (number_type ty)) (omega arith)))
    form_costs (truth b) ty span env z cur s ok m = paid {b = 8} (omega arith) (performs (gives (boolean b)) (omega arith))
    form_costs nothing_ ty span env z cur s ok m = paid {b = 8} (omega arith) (performs (gives nothing) (omega arith))
    form_costs (just_ e) ty span env z cur s ok m = count_then _ _ (val_costs e env z outside s ok m) (λ v. performs (gives (just v)) (omega arith))
    form_costs (union_ name no_content) ty span env z cur s ok m =
        paid {b = 8} (omega arith) (costs_then (λ v. gives (tagged name v)) (λ v t. tick (parsed (tagged name v) t))
        (performs {e = 7} (gives unit) (omega arith)) (λ v. performs (gives (tagged name v)) (omega arith)))
    form_costs (union_ name (content e)) ty span env z cur s ok m =
        count_then _ _ (val_costs e env z outside s ok m) (λ v. performs (gives (tagged name v)) (omega arith))
    form_costs (record_ ns) ty span env z cur s ok m = paid {b = 8} (omega arith)
        (named_cost ns [] [] [] vs.no_fields (λ fs. gives (record_of fs)) span env z cur s ok m (λ fs. refl) refl refl)
    form_costs (list es) ty span env z cur s ok m = paid {b = 8} (omega arith)
        (exprs_cost es c.list (λ vs. gives (array vs)) [] [] span env z cur s ok m (λ vs. refl) (λ vs. refl) refl)
    form_costs (builtin b es) ty span env z cur s ok m =
        paid {b = 8} (omega arith) (exprs_cost es (c.builtin b) (builtin_value b) [] [] span env z cur s ok m (λ vs. refl) (λ vs. refl) refl)
    form_costs (cast q e) ty span env z cur s (ok, good) m =
        subst (λ u. Costs 5 s 0 (counts (then_value (val spec l e env) (λ v. cast_value q (target spec.bits u) v)))
        (core.core k (form_valued spec.bits within (cast q e) ty span (scope z)) cur (values z) s)) (sym (closed_closed env ty ok))
        (count_then _ _ (val_costs e env z outside s good m) (λ v. performs (cast_value q (target spec.bits ty) v) (omega arith)))
    form_costs (select e name) ty span env z cur s ok m = count_then _ _ (val_costs e env z outside s ok m) (λ v. performs (selected name v) (omega arith))
    form_costs (prefix_ op e) ty span env z cur s ok m =
        count_then _ _ (val_costs e env z outside s ok m) (λ v. performs (prefix_value op span v) (omega arith))
    form_costs (infix_ (Arithmetic op) a b) ty span env z cur s (ok, good) m =
        strict (λ v w. infix_value (Arithmetic op) span v (gives w)) s _ (λ v t.
        core.core k (valued spec.bits within b (None ∷ scope z)) outside (v ∷ values z) t) (val_costs a env z outside s ok m) (λ v.
        val_costs b env (zip None v z) outside s good (match_skip v m))
    form_costs (infix_ (Compare q) a b) ty span env z cur s (ok, good) m =
        strict (λ v w. infix_value (Compare q) span v (gives w)) s _ (λ v t.
        core.core k (valued spec.bits within b (None ∷ scope z)) outside (v ∷ values z) t) (val_costs a env z outside s ok m) (λ v.
        val_costs b env (zip None v z) outside s good (match_skip v m))
    form_costs (infix_ Beside a b) ty span env z cur s (ok, good) m =
        strict (λ v w. infix_value Beside span v (gives w)) s _ (λ v t. core.core k (valued spec.bits within b (None ∷ scope z)) outside (v ∷ values z) t)
        (val_costs a env z outside s ok m) (λ v. val_costs b env (zip None v z) outside s good (match_skip v m))
    form_costs (infix_ Append a b) ty span env z cur s (ok, good) m =
        strict (λ v w. infix_value Append span v (gives w)) s _ (λ v t. core.core k (valued spec.bits within b (None ∷ scope z)) outside (v ∷ values z) t)
        (val_costs a env z outside s ok m) (λ v. val_costs b env (zip None v z) outside s good (match_skip v m))
    form_costs (infix_ And a b) ty span env z cur s (ok, good) m =
        count_then _ _ (val_costs a env z outside s ok m) (λ v.
        both_costs v (λ w. val_costs b env (zip None unit (zip None w z)) outside s good (match_skip unit (match_skip w m))))
      where
        both_costs : (v : Value) → ((w : Value) → Cost b env (zip None unit (zip None w z)) outside s) →
            Costs 5 s 13 (infix_value And span v (val spec l b env))
            (core.core k (by_truth (c.bind (type_of b) (valued spec.bits within b (None ∷ None ∷ scope z)) (c.perform c.truth_of_ (0 ∷ []) span))
            (c.perform (c.truth false) [] span) span) cur (v ∷ values z) s)
        both_costs (boolean true) r = spent {b = 12} (omega arith)
            (costs_then _ _ (costs_keep 12 (r (boolean true))) (λ w. performs (truth_of w) (omega arith)))
        both_costs (boolean false) r = spent {b = 12} (omega arith) (performs (gives (boolean false)) (omega arith))
        both_costs _ r = spent {b = 12} (omega arith) is_stuck
    form_costs (infix_ Or a b) ty span env z cur s (ok, good) m =
        count_then _ _ (val_costs a env z outside s ok m) (λ v.
        either_costs v (λ w. val_costs b env (zip None unit (zip None w z)) outside s good (match_skip unit (match_skip w m))))
      where
        either_costs : (v : Value) → ((w : Value) → Cost b env (zip None unit (zip None w z)) outside s) →
            Costs 5 s 13 (infix_value Or span v (val spec l b env))
            (core.core k (by_truth (c.perform (c.truth true) [] span)
            (c.bind (type_of b) (valued spec.bits within b (None ∷ None ∷ scope z)) (c.perform c.truth_of_ (0 ∷ []) span)) span) cur (v ∷ values z) s)
        either_costs (boolean true) r = spent {b = 12} (omega arith) (performs (gives (boolean true)) (omega arith))
        either_costs (boolean false) r = spent {b = 12} (omega arith)
            (costs_then _ _ (costs_keep 12 (r (boolean false))) (λ w. performs (truth_of w) (omega arith)))
        either_costs _ r = spent {b = 12} (omega arith) is_stuck
    form_costs (paren e) ty span env z cur s ok m = val_costs e env z cur s ok m
    form_costs (if_ e a b) ty span env z cur s (ok, good, well) m =
        count_then _ _ (val_costs e env z outside s ok m)
        (λ v. if_costs v (λ w. val_costs a env (zip None unit (zip None w z)) cur s good (match_skip unit (match_skip w m))) (λ w.
        val_costs b env (zip None unit (zip None w z)) cur s well (match_skip unit (match_skip w m))))
      where
        if_costs : (v : Value) → ((w : Value) → Cost a env (zip None unit (zip None w z)) cur s)
            → ((w : Value) → Cost b env (zip None unit (zip None w z)) cur s) →
            Costs 5 s 13 (branch_value v (val spec l a env) (val spec l b env))
            (core.core k (by_truth (valued spec.bits within a (None ∷ None ∷ scope z)) (valued spec.bits within b (None ∷ None ∷ scope z)) span) cur
            (v ∷ values z) s)
        if_costs (boolean true) r q = spent {b = 12} (omega arith) (costs_more (omega arith) (r (boolean true)))
        if_costs (boolean false) r q = spent {b = 12} (omega arith) (costs_more (omega arith) (q (boolean false)))
        if_costs _ r q = spent {b = 12} (omega arith) is_stuck
    form_costs (value_call f args) ty span env z cur s (ok, calls) m =
        paid {b = 8} (omega arith) (args_cost args [] nil f span env empty z cur s ok calls m (record { by = none_named }) refl)
    form_costs (case_ e cs) ty span env z cur s (ok, good) m =
        count_then _ _ (val_costs e env z outside s ok m) (λ v. spent {b = 12} (omega arith) (cases_cost cs (type_of e) v span env z cur s good m))
    form_costs (for_ x start names e body) ty span env z cur s (ok, good, well) m =
        count_then _ _ (val_costs start env z outside s ok m) (λ v.
        costs_then _ _ (costs_keep 13 (val_costs e env (zip None v z) outside s good (match_skip v m)))
        (λ w. for_begins h x names body (type_of e) ty span env z v w cur s well m (over w)))
    form_costs (map_ names e body) ty span env z cur s (ok, good) m =
        count_then _ _ (val_costs e env z outside s ok m) (λ w.
        map_begins h names body (type_of e) (array_type (type_of body)) (type_of body) span env z w cur s good m (over w))
    form_costs _ ty span env z cur s ok m = absurd ok

    exprs_cost : (es : Exprs) (op : c.Operation) (K : Values → Valued) (acc : List ℕ) (ws : List Value) (span : Span) (env : Env) (z : Zip)
        (cur : Current) (s : Stream) → AreValues es → Matches z env →
        ((vs : Values) → K vs ≡ applied op (joined ws vs) span)
        → ((vs : Values) → performed op vs span s ≡ then_parse (applied op vs span) (λ v. parsed v s)) → all_at (values z) acc ≡ gives ws →
        Costs 5 s 8 (then_value (vals spec l es env) K) (core.core k (exprs_valued spec.bits within es op acc span (scope z)) cur (values z) s)
    exprs_cost no_exprs op K acc ws span env z cur s ok m hk plainly e =
        subst (λ o. Costs 5 s 8 o (tick (then_parse (all_at (values z) acc) (λ vs. performed op (listed vs) span s))))
        (sym (hk no_values ∙ ap (λ u. applied op u span) (joined_end ws)))
        (subst (λ o. Costs 5 s 8 (applied op (listed ws) span) (tick (then_parse o (λ vs. performed op (listed vs) span s)))) (sym e)
        (subst (λ o. Costs 5 s 8 (applied op (listed ws) span) (tick o)) (sym (plainly (listed ws))) (performs (applied op (listed ws) span) (omega arith))))
    exprs_cost (more a es) op K acc ws span env z cur s (ok, good) m hk plainly e =
        subst (λ o. Costs 5 s 8 o (core.core k (exprs_valued spec.bits within (more a es) op acc span (scope z)) cur (values z) s))
        (sym (then_assoc (val spec l a env) (λ v. then_value (vals spec l es env) (λ vs. gives (value v vs))) K))
        (costs_then _ _ (costs_keep 8 (val_costs a env z outside s ok m)) (λ v.
        subst (λ o. Costs 5 s 13 o (core.core k (exprs_valued spec.bits within es op (shifted acc ++ (0 ∷ [])) span (None ∷ scope z)) cur (v ∷ values z) s))
        (sym (then_assoc (vals spec l es env) (λ vs. gives (value v vs)) K))
        (costs_more (omega arith) (exprs_cost es op (λ vs. K (value v vs)) (shifted acc ++ (0 ∷ [])) (ws ++ (v ∷ [])) span env (zip None v z) cur s
        good (match_skip v m)
        (λ vs. hk (value v vs) ∙ ap (λ u. applied op u span) (sym (joined_more ws v vs))) plainly
        (all_app (v ∷ values z) (shifted acc) (0 ∷ []) ws (v ∷ []) (all_shift v (values z) acc ∙ e) refl)))))

    named_cost : (ns : Named) (labels : List (List ℕ)) (acc : List ℕ) (ws : List Value) (pre : vs.Fields) (K : vs.Fields
        → Valued) (span : Span) (env : Env) (z : Zip) (cur : Current) (s : Stream) → AreFields ns → Matches z env →
        ((fs : vs.Fields) → K fs ≡ gives (record_of (fields_after pre fs))) → named_fields labels (listed ws) ≡ gives pre → all_at (values z) acc ≡ gives ws →
        Costs 5 s 8 (then_value (meaning.named_vals spec l ns env) K)
        (core.core k (named_valued spec.bits within ns labels acc span (scope z)) cur (values z) s)
    named_cost no_named labels acc ws pre K span env z cur s ok m hk g e =
        subst (λ o. Costs 5 s 8 o (tick (then_parse (all_at (values z) acc) (λ us. performed (c.record_ labels) (listed us) span s))))
        (sym (hk vs.no_fields ∙ ap (λ f. gives (record_of f)) (after_none pre)))
        (subst (λ o. Costs 5 s 8 (gives (record_of pre)) (tick (then_parse o (λ us. performed (c.record_ labels) (listed us) span s)))) (sym e)
        (subst (λ o. Costs 5 s 8 (gives (record_of pre)) (tick (then_parse (then_value o (λ fs. gives (record_of fs))) (λ u. parsed u s)))) (sym g)
        (performs (gives (record_of pre)) (omega arith))))
    named_cost (named name a ns) labels acc ws pre K span env z cur s (ok, good) m hk g e =
        subst (λ o. Costs 5 s 8 o (core.core k (named_valued spec.bits within (named name a ns) labels acc span (scope z)) cur (values z) s))
        (sym (then_assoc (val spec l a env) (λ v. then_value (meaning.named_vals spec l ns env) (λ fs. gives (vs.field name v fs))) K))
        (costs_then _ _ (costs_keep 8 (val_costs a env z outside s ok m)) (λ v.
        subst (λ o. Costs 5 s 13 o (core.core k (named_valued spec.bits within ns (labels ++ (name ∷ [])) (shifted acc ++ (0 ∷ [])) span (None ∷ scope z))
        cur (v ∷ values z) s)) (sym (then_assoc (meaning.named_vals spec l ns env) (λ fs. gives (vs.field name v fs)) K))
        (costs_more (omega arith) (named_cost ns (labels ++ (name ∷ [])) (shifted acc ++ (0 ∷ [])) (ws ++ (v ∷ [])) (add_field pre name v) (λ fs.
        K (vs.field name v fs)) span env (zip None v z) cur s good (match_skip v m)
        (λ fs. hk (vs.field name v fs) ∙ ap (λ f. gives (record_of f)) (after_more pre name v fs)) (named_app labels ws pre name v g)
        (all_app (v ∷ values z) (shifted acc) (0 ∷ []) ws (v ∷ []) (all_shift v (values z) acc ∙ e) refl)))))

    cases_cost : (cs : Cases) (of : Ty) (v : Value) (span : Span) (env : Env) (z : Zip) (cur : Current) (s : Stream) → AreValueCases cs → Matches z env →
        Costs 5 s 12 (meaning.case_val spec l cs v env) (core.core_case k (cases_valued spec.bits within cs of (None ∷ scope z)) v cur (v ∷ values z) s
        (core.core k (wrong span) cur (v ∷ values z) s))
    cases_cost no_cases of v span env z cur s ok m = spent {b = 11} (omega arith) is_stuck
    cases_cost (when q e cs) of v span env z cur s (ok, good) m =
        case_cost (matched q v) _ _ (λ w. costs_more (omega arith)
        (val_costs e (with_optional (name_of q) w env) (zip (named_at (name_of q)) w (zip None v z)) cur s ok
        (match_optional (name_of q) w (match_skip v m))))
        (cases_cost cs of v span env z cur s good m)

    args_cost : (args : Args) (acc : List ℕ) (y : Zip) (f : ℕ) (span : Span) (env to : Env) (z : Zip) (cur : Current) (s : Stream) → AreArguments args
        → Calls f true (arg_scope args (scope y)) → Matches z env → Matches y to → all_at (values z) acc ≡ gives (values y) →
        Costs 5 s 8 (then_value (args_env spec l args env to) (λ inner. then_value (called spec f) (λ e. l.val e inner)))
        (core.core k (args_called spec.bits within args f acc span (scope z)) cur (values z) s)
    args_cost no_args acc y f span env to z cur s ok calls m n e =
        subst (λ o. Costs 5 s 8 (then_value (given o) (λ b. l.val b to)) (tick (then_parse (all_at (values z) acc) (λ vs. leave (k.call f vs s)))))
        (sym calls.is)
        (subst (λ o. Costs 5 s 8 (l.val calls.body to) (tick (then_parse o (λ vs. leave (k.call f vs s))))) (sym e)
        (spent {b = 7} (omega arith) (costs_fewer (omega arith)
        (costs_exit {e = 11} (costs_keep 7 (h.val f calls.body y to s calls.is calls.kind_is (sym calls.names) n))))))
    args_cost (by_value x a args) acc y f span env to z cur s (ok, good) calls m n e =
        subst (λ o. Costs 5 s 8 o (core.core k (args_called spec.bits within (by_value x a args) f acc span (scope z)) cur (values z) s))
        (sym (then_assoc (val spec l a env) (λ v. args_env spec l args env (with_value x v to)) _))
        (costs_then _ _ (costs_keep 8 (val_costs a env z outside s ok m))
        (λ v. costs_more (omega arith) (args_cost args (0 ∷ shifted acc) (zip (Some (own x)) v y) f span env (with_value x v to) (zip None v z) cur s
        good calls (match_skip v m) (match_value_name x v n)
        (ap (λ o. then_value o (λ vs. gives (v ∷ vs))) (all_shift v (values z) acc ∙ e)))))
    args_cost (by_hand there here args) acc y f span env to z cur s ok calls m n e =
        subst (λ o. Costs 5 s 8 o (core.core k (args_called spec.bits within (by_hand there here args) f acc span (scope z)) cur (values z) s))
        (sym (then_assoc (given (named_in env here)) (λ v. args_env spec l args env (with_name there v to)) _))
        (hand_cost (has_name (scope z) here) here env z s refl m (λ v.
        then_value (args_env spec l args env (with_name there v to)) (λ inner. then_value (called spec f) (λ e. l.val e inner)))
        (args_called spec.bits within args f (index (scope z) here ∷ acc) span (scope z)) cur span
        (λ v is. args_cost args (index (scope z) here ∷ acc) (zip (Some there) v y) f span env (with_name there v to) z cur s ok calls m
        (match_name there v n) (hand_all z here v acc y is e)))
    args_cost _ acc y f span env to z cur s ok calls m n e = absurd ok
    -- ---- grammars
