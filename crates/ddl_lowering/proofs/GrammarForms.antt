-- A grammar form costs what it pays.
use Rattle.std.proofs.Common.{◌≡◌, ℕ, ◌+◌, ◌≤◌, Bool, true, false, List, [], ◌∷◌, ◌++◌, Some, None, refl, ap, subst, sym, ◌∙◌, arith}
use Rattle.std.specs.Prelude.{max, pos}
use Rattle.ddl_base.specs.declared.span.Span.{Span}
use Rattle.ddl_types.specs.Types.{Ty}
use Rattle.ddl_types.specs.Value.{Value, Values, Stream, number, boolean, unit, nothing, just, tagged, array, no_values, value}
use Rattle.ddl_types.specs.Outcome.{Outcome, tick, parsed}
use Rattle.ddl_types.specs.Joining.{Bind, leave}
use Rattle.ddl_types.proofs.Joins.{both_end, biased_end}
use Rattle.ddl_typed.specs.declared.parts.Choice.TheVariants as C
use Rattle.ddl_ops.specs.declared.pattern.Pattern.{Pattern}
use Rattle.ddl_ops.specs.Valued.{gives, given, then_value, then_parse}
use Rattle.ddl_ops.specs.Numbers.{count_of}
use Rattle.ddl_ops.specs.Primitives.{byte_values, match_bytes, match_value}
use Rattle.ddl_ops.specs.Patterns.{matched, name_of}
use Rattle.ddl_ops.specs.Casts.{target, fit, fitted}
use Rattle.ddl_ops.specs.Builtins.{primitive_outcome}
use Rattle.ddl_ops.proofs.Paid.{Paid, pay, spend, at_end, at_miss, at_stuck, more as more_paid, fewer, keep, both_paid, bind_paid, leave_paid, exit_paid}
use Rattle.ddl_ops.proofs.Paid.{costs_keep, then_paid, value_paid}
use Rattle.ddl_typed.specs.Tree.{own, those, Expr, Form, Exprs, Cases, Alts, Args, Items, Spec, expr, text, paren, if_, case_, for_, map_, pure, uint8, match}
use Rattle.ddl_typed.specs.Tree.{end, class, fail, primitive, is_, fits, block, first, choose, many, optional, call, no_exprs, more, no_cases, when, unbounded}
use Rattle.ddl_typed.specs.Tree.{exactly, from_, up_to, between, no_alts, alt, tag, no_args, by_value, by_hand, no_items, item, plain, let_, field, result_}
use Rattle.ddl_typed.specs.Env.{Env, empty, with_value, with_name, named_in, with_optional}
use Rattle.ddl_typed.specs.Lower as typed
use Rattle.ddl_typed.specs.Blocks.{Built, nothing_built, with_part}
use Rattle.ddl_typed.specs.Choices.{branch, of_some}
use Rattle.ddl_typed.specs.Repetition.{limits_between}
use Rattle.ddl_typed.specs.Meaning.{called, val, vals, args_env, den, form_den, den_first, den_choose, den_case}
use Rattle.ddl_typed.specs.Meaning as meaning
use Rattle.ddl_mono.specs.Copies.{Scope}
use Rattle.ddl_mono.specs.IsMono.{arg_scope}
use Rattle.ddl_mono.specs.IsMono as mono
use Rattle.ddl_core.specs.Core as c
use Rattle.ddl_core.specs.Attempt.{Single}
use Rattle.ddl_core.specs.Meaning.{all_at, listed, Current, outside}
use Rattle.ddl_core.specs.Meaning as core
use Rattle.ddl_core.specs.Operations.{performed}
use Rattle.ddl_core.proofs.Single.{single_byte, single_end, single_class, single_match, single_value, single_guard, single_primitive, single_fitted}
use Rattle.ddl_lowering.specs.Scopes.{index, has_name, shifted, named_at}
use Rattle.ddl_lowering.specs.PartTypes.{array_type, type_of}
use Rattle.ddl_lowering.specs.Choices.{by_truth}
use Rattle.ddl_lowering.specs.Parts.{Seen, nothing_seen, after_item}
use Rattle.ddl_lowering.specs.Lowered.{valued, match_lowered, exprs_valued, args_called, lowered, form_lowered, items_lowered, first_lowered, choose_lowered}
use Rattle.ddl_lowering.specs.Lowered.{cases_lowered}
use Rattle.ddl_lowering.proofs.Tried.{biased_plain, biased_bind, nothing_law}
use Rattle.ddl_lowering.proofs.Positions.{over}
use Rattle.ddl_lowering.proofs.Falling.{none_less}
use Rattle.ddl_lowering.proofs.Variables.{Zip, nil, zip, scope, values, Matches, match_skip, match_name, match_value_name, match_optional, all_shift}
use Rattle.ddl_lowering.proofs.Variables.{closed_closed, none_named}
use Rattle.ddl_lowering.proofs.Listed.{joined, joined_end, joined_more, parse_assoc, hand_all, all_app}
use Rattle.ddl_lowering.proofs.Steps.{text_bytes, single_paid, case_paid, paid_is, known_paid, one_parse, tag_paid, count_step}
use Rattle.ddl_lowering.proofs.Shown.{Holds, holds_item}
use Rattle.ddl_lowering.proofs.Below.{free, exact, lowest, highest, both_limits, LowerCosts}
use Rattle.ddl_lowering.proofs.LoopBegins.{for_begins_paid, map_begins_paid}
use Rattle.ddl_lowering.proofs.ValueForms.{val_costs}
use Rattle.ddl_lowering.proofs.Trials.{hand_paid, built_paid, tried_paid}

module _ {spec : Spec} {params : ℕ → Scope} {is_value : ℕ → Bool} {within : Pattern → Ty
    → Ty} {l : typed.Lower} {k : core.Lower} (h : LowerCosts spec params is_value within l k) where
  abbrev Calls : ℕ → Bool → Scope → Type 0
  Calls = mono.Calls spec params is_value

  abbrev AreArguments : Args → Type 0
  AreArguments = mono.AreArguments spec params is_value

  abbrev IsValue : Expr → Type 0
  IsValue = mono.IsValue spec params is_value

  abbrev AreValues : Exprs → Type 0
  AreValues = mono.AreValues spec params is_value

  abbrev IsGrammar : Expr → Type 0
  IsGrammar = mono.IsGrammar spec params is_value

  abbrev IsGrammarForm : Form → Ty → Type 0
  IsGrammarForm = mono.IsGrammarForm spec params is_value

  abbrev AreGrammarCases : Cases → Type 0
  AreGrammarCases = mono.AreGrammarCases spec params is_value

  abbrev AreAlternatives : Alts → Type 0
  AreAlternatives = mono.AreAlternatives spec params is_value

  abbrev AreItems : Items → Type 0
  AreItems = mono.AreItems spec params is_value

  -- a grammar form and its core
  abbrev Pays : Expr → Env → Zip → Current → Stream → Type 0
  Pays e env z cur s = Paid 5 2 0 (den spec l e env s) (core.core k (lowered spec.bits within e (scope z)) cur (values z) s)

  -- the match of a value is two operations, and that of a text alone is one
  value_matched : (e : Expr) (span : Span) (env : Env) (z : Zip) (cur : Current) (s : Stream) → IsValue e → Matches z env →
      Paid 5 2 0 (tick (then_parse (val spec l e env) (λ v. match_value v span s)))
      (core.core k (c.bind (type_of e) (valued spec.bits within e (scope z)) (c.perform c.match (0 ∷ []) span)) cur (values z) s)
  value_matched e span env z cur s ok m =
      pay {b = 8} (omega arith) (then_paid _ _ (costs_keep 8 (val_costs h e env z outside s ok m))
      (λ v. spend {b = 12} (omega arith) (single_paid _ (single_value v span s) (omega arith))))

  match_paid : (e : Expr) (span : Span) (env : Env) (z : Zip) (cur : Current) (s : Stream) → IsValue e → Matches z env →
      Paid 5 2 0 (tick (then_parse (val spec l e env) (λ v. match_value v span s)))
      (core.core k (match_lowered spec.bits within e span (scope z)) cur (values z) s)
  match_paid (expr (text bs) ty at) span env z cur s ok m =
      pay {b = 8} (omega arith) (pay {b = 16} (omega arith) (paid_is (text_bytes bs (λ cs. match_bytes cs (array (byte_values bs)) span s))
      (spend {b = 15} (omega arith) (single_paid _ (single_match bs (array (byte_values bs)) span s) (omega arith)))))
  match_paid (expr form ty at) span env z cur s ok m = value_matched (expr form ty at) span env z cur s ok m

  mutual
    pub den_paid : (e : Expr) (env : Env) (z : Zip) (cur : Current) (s : Stream) → IsGrammar e → Matches z env → Pays e env z cur s
    den_paid (expr form ty span) env z cur s ok m = grammar_paid form ty span env z cur s ok m

    grammar_paid : (form : Form) (ty : Ty) (span : Span) (env : Env) (z : Zip) (cur : Current) (s : Stream) → IsGrammarForm form ty → Matches z env →
        Paid 5 2 0 (form_den spec l form ty span env s) (core.core k (form_lowered spec.bits within form ty span (scope z)) cur (values z) s)
    grammar_paid (pure e) ty span env z cur s ok m = pay {b = 8} (omega arith)
        (value_paid {c = 13} (omega arith) (costs_keep 8 (val_costs h e env z cur s ok m)))
    grammar_paid uint8 ty span env z cur s ok m = pay {b = 8} (omega arith) (spend {b = 7} (omega arith) (single_paid _ (single_byte span s) (omega arith)))
    grammar_paid (match e) ty span env z cur s ok m = match_paid e span env z cur s ok m
    grammar_paid (text bs) ty span env z cur s ok m = pay {b = 8} (omega arith)
        (spend {b = 7} (omega arith) (single_paid _ (single_match bs (array (byte_values bs)) span s) (omega arith)))
    grammar_paid end ty span env z cur s ok m = pay {b = 8} (omega arith) (spend {b = 7} (omega arith) (single_paid _ (single_end span s) (omega arith)))
    grammar_paid (class (those test)) ty span env z cur s ok m =
        pay {b = 8} (omega arith) (spend {b = 7} (omega arith) (single_paid _ (single_class test span s) (omega arith)))
    grammar_paid (fail n) ty span env z cur s ok m = pay {b = 8} (omega arith) (spend {b = 7} (omega arith) (at_miss (at_end (omega arith))))
    grammar_paid (is_ e q) ty span env z cur s ok m =
        pay {b = 8} (omega arith) (then_paid _ _ (costs_keep 8 (val_costs h e env z outside s ok m)) (λ v.
        spend {b = 12} (omega arith) (single_paid _ (single_guard q v span s) (omega arith))))
    grammar_paid (primitive q es) ty span env z cur s ok m =
        pay {b = 8} (omega arith) (exprs_paid es (c.primitive q) (λ vs. primitive_outcome q vs span s) [] [] span env z cur s ok m (λ vs. refl) (λ vs.
        single_primitive q vs span s) refl)
    grammar_paid (fits e) ty span env z cur s (ok, good) m =
        subst (λ u. Paid 5 2 0 (tick (then_parse (val spec l e env) (λ v. fitted (fit (target spec.bits u) v) span s)))
        (core.core k (form_lowered spec.bits within (fits e) ty span (scope z)) cur (values z) s)) (sym (closed_closed env ty ok))
        (pay {b = 8} (omega arith) (then_paid _ _ (costs_keep 8 (val_costs h e env z outside s good m)) (λ v.
        spend {b = 12} (omega arith) (single_paid _ (single_fitted (fit (target spec.bits ty) v) span s) (omega arith)))))
    grammar_paid (paren e) ty span env z cur s ok m = den_paid e env z cur s ok m
    grammar_paid (block is) ty span env z cur s ok m =
        pay {b = 8} (omega arith) (fewer (omega arith) (omega arith)
        (leave_paid (items_paid is nothing_seen nothing_built 2 8 span env z cur s (omega arith) ok m
        (record { have = []; fields = refl; named = refl; result = tt; last = refl }))))
    grammar_paid (first as_) ty span env z cur s ok m =
        pay {b = 8} (omega arith) (fewer (omega arith) (omega arith) (leave_paid (more_paid (omega arith) (first_paid as_ span env z cur s ok m))))
    grammar_paid (choose as_) ty span env z cur s ok m =
        pay {b = 8} (omega arith) (fewer (omega arith) (omega arith) (leave_paid (more_paid (omega arith) (choose_paid as_ span env z cur s ok m))))
    grammar_paid (many q unbounded e) ty span env z cur s (bounded, ok) m =
        pay {b = 8} (omega arith) (fewer (omega arith) (omega arith) (leave_paid (known_paid {b = 7} (omega arith)
        (more_paid (omega arith) (h.repeat q unbounded e ty span (limits_between 0 None) env (zip None (array no_values) z) no_values _ s ok
        (match_skip _ m) free)))))
    grammar_paid (many q (exactly a) e) ty span env z cur s (bounded, ok) m =
        pay {b = 8} (omega arith) (paid_is ((parse_assoc (val spec l a env) _ _)) (then_paid _ _ (costs_keep 8 (val_costs h a env z outside s bounded m))
        (λ v. paid_is ((parse_assoc (count_of v) _ _)) (count_step v span s _ _ {b = 12} (omega arith) (λ nt n. known_paid {b = 11} (omega arith)
        (fewer (omega arith) (omega arith) (leave_paid (more_paid (omega arith)
        (h.repeat q (exactly a) e ty span (limits_between n (Some n)) env (zip None (array no_values) (zip None (number nt (pos n)) (zip None v z)))
        no_values _ s ok (match_skip _ (match_skip _ (match_skip _ m))) (exact nt n n (none_less n)))))))))))
    grammar_paid (many q (from_ a) e) ty span env z cur s (bounded, ok) m =
        pay {b = 8} (omega arith) (paid_is ((parse_assoc (val spec l a env) _ _)) (then_paid _ _ (costs_keep 8 (val_costs h a env z outside s bounded m))
        (λ v. paid_is ((parse_assoc (count_of v) _ _)) (count_step v span s _ _ {b = 12} (omega arith) (λ nt n. known_paid {b = 11} (omega arith)
        (fewer (omega arith) (omega arith) (leave_paid (more_paid (omega arith)
        (h.repeat q (from_ a) e ty span (limits_between n None) env (zip None (array no_values) (zip None (number nt (pos n)) (zip None v z)))
        no_values _ s ok (match_skip _ (match_skip _ (match_skip _ m))) (lowest nt n n (none_less n)))))))))))
    grammar_paid (many q (up_to a) e) ty span env z cur s (bounded, ok) m =
        pay {b = 8} (omega arith) (paid_is ((parse_assoc (val spec l a env) _ _)) (then_paid _ _ (costs_keep 8 (val_costs h a env z outside s bounded m))
        (λ v. paid_is ((parse_assoc (count_of v) _ _)) (count_step v span s _ _ {b = 12} (omega arith) (λ nt n. known_paid {b = 11} (omega arith)
        (fewer (omega arith) (omega arith) (leave_paid (more_paid (omega arith)
        (h.repeat q (up_to a) e ty span (limits_between 0 (Some n)) env (zip None (array no_values) (zip None (number nt (pos n)) (zip None v z)))
        no_values _ s ok (match_skip _ (match_skip _ (match_skip _ m))) (highest nt n n (none_less n)))))))))))
    grammar_paid (many q (between a d) e) ty span env z cur s ((bounded, high_ok), ok) m =
        pay {b = 8} (omega arith) (paid_is ((parse_assoc (val spec l a env) _ _)) (then_paid _ _ (costs_keep 8 (val_costs h a env z outside s bounded m))
        (λ v. paid_is ((parse_assoc (count_of v) _ _)) (count_step v span s _ _ {b = 12} (omega arith) (λ nt n.
        paid_is ((parse_assoc (val spec l d env) _ _)) (then_paid _ _
        (costs_keep 12 (val_costs h d env (zip None (number nt (pos n)) (zip None v z)) outside s high_ok (match_skip _ (match_skip _ m))))
        (λ w. paid_is ((parse_assoc (count_of w) _ _)) (count_step w span s _ _ {b = 16} (omega arith) (λ ht j.
        known_paid {b = 15} (omega arith) (known_paid {b = 14} (omega arith)
        (fewer (omega arith) (omega arith) (leave_paid (more_paid (omega arith)
        (h.repeat q (between a d) e ty span (limits_between n (Some j)) env
        (zip None (array no_values) (zip None (number ht (pos (max j n)))
        (zip None (number ht (pos j)) (zip None w (zip None (number nt (pos n)) (zip None v z)))))) no_values _ s ok
        (match_skip _ (match_skip _ (match_skip _ (match_skip _ (match_skip _ (match_skip _ m))))))
        (both_limits nt ht n j n (max j n) (none_less n) (none_less (max j n)))))))))))))))))
    grammar_paid (optional q e) ty span env z cur s ok m =
        pay {b = 8} (omega arith) (fewer (omega arith) (omega arith) (leave_paid (paid_is ((nothing_law q (den spec l e env s) s))
        (tried_paid h q (type_of e) (lowered spec.bits within e (scope z)) _ _ cur (values z) s _ 7 (omega arith) (den_paid e env z outside s ok m) (λ v t.
        one_parse {e = 3} {f = 0} (just v) t (omega arith)) (one_parse nothing s (omega arith))))))
    grammar_paid (for_ x start names e body) ty span env z cur s (ok, good, well) m =
        pay {b = 8} (omega arith) (then_paid _ _ (costs_keep 8 (val_costs h start env z outside s ok m)) (λ v.
        then_paid _ _ (costs_keep 13 (val_costs h e env (zip None v z) outside s good (match_skip v m)))
        (λ w. for_begins_paid h x names body (type_of e) ty span env z v w cur s well m (over w))))
    grammar_paid (map_ names e body) ty span env z cur s (ok, good) m =
        pay {b = 8} (omega arith) (then_paid _ _ (costs_keep 8 (val_costs h e env z outside s ok m)) (λ w.
        map_begins_paid h names body (type_of e) (array_type (type_of body)) (type_of body) span env z w cur s good m (over w)))
    grammar_paid (if_ e a b) ty span env z cur s (ok, good, well) m =
        pay {b = 8} (omega arith) (then_paid _ _ (costs_keep 8 (val_costs h e env z outside s ok m))
        (λ v. if_paid v (λ w. den_paid a env (zip None unit (zip None w z)) cur s good (match_skip unit (match_skip w m))) (λ w.
        den_paid b env (zip None unit (zip None w z)) cur s well (match_skip unit (match_skip w m)))))
      where
        if_paid : (v : Value) → ((w : Value) → Pays a env (zip None unit (zip None w z)) cur s)
            → ((w : Value) → Pays b env (zip None unit (zip None w z)) cur s) →
            Paid 5 2 13 (leave (branch v (den spec l a env s) (den spec l b env s)))
            (core.core k (by_truth (lowered spec.bits within a (None ∷ None ∷ scope z)) (lowered spec.bits within b (None ∷ None ∷ scope z)) span) cur
            (v ∷ values z) s)
        if_paid (boolean true) r q = spend {b = 12} (omega arith) (fewer (omega arith) (omega arith) (leave_paid (more_paid (omega arith) (r (boolean true)))))
        if_paid (boolean false) r q = spend {b = 12} (omega arith)
            (fewer (omega arith) (omega arith) (leave_paid (more_paid (omega arith) (q (boolean false)))))
        if_paid _ r q = spend {b = 12} (omega arith) at_stuck
    grammar_paid (case_ e cs) ty span env z cur s (ok, good) m =
        pay {b = 8} (omega arith) (then_paid _ _ (costs_keep 8 (val_costs h e env z outside s ok m))
        (λ v. spend {b = 12} (omega arith) (fewer (omega arith) (omega arith) (leave_paid (cases_paid cs (type_of e) v span env z cur s good m)))))
    grammar_paid (call f args) ty span env z cur s (ok, calls) m =
        pay {b = 8} (omega arith) (args_paid args [] nil f span env empty z cur s ok calls m (record { by = none_named }) refl)
    grammar_paid _ ty span env z cur s ok m = absurd ok

    cases_paid : (cs : Cases) (of : Ty) (v : Value) (span : Span) (env : Env) (z : Zip) (cur : Current) (s : Stream) → AreGrammarCases cs → Matches z env →
        Paid 5 2 12 (den_case spec l cs v span env s) (core.core_case k (cases_lowered spec.bits within cs of (None ∷ scope z)) v cur (v ∷ values z) s
        (core.core k (c.perform c.no_case [] span) cur (v ∷ values z) s))
    cases_paid no_cases of v span env z cur s ok m = spend {b = 11} (omega arith) (at_miss (at_end (omega arith)))
    cases_paid (when q e cs) of v span env z cur s (ok, good) m =
        case_paid (matched q v) _ _ (λ w. more_paid (omega arith)
        (den_paid e (with_optional (name_of q) w env) (zip (named_at (name_of q)) w (zip None v z)) cur s ok
        (match_optional (name_of q) w (match_skip v m))))
        (cases_paid cs of v span env z cur s good m)

    items_paid : (is : Items) (b : Seen) (w : Built) (f a : ℕ) (span : Span) (env : Env) (z : Zip) (cur : Current) (s : Stream) → f + 1 ≤ a
        → AreItems is → Matches z env → Holds b (values z) w →
        Paid 0 f a (meaning.den_items spec l is env w s) (core.core k (items_lowered spec.bits within is b span (scope z)) cur (values z) s)
    items_paid no_items b w f a span env z cur s n ok m holds =
        built_paid h b.result w.result b.labels b.fields b.last (values z) holds.have w.named w.last span cur s holds.result holds.fields holds.named
        holds.last n
    items_paid (item (plain e) is) b w f a span env z cur s n (ok, good) m holds =
        fewer {e = 0} {f = 2 + a} (omega arith) (omega (arith, n)) (bind_paid _ _ (more_paid (omega arith) (keep a (den_paid e env z outside s ok m)))
        (λ v t. items_paid is (after_item (plain e) b) (with_part (plain e) v w) 0 5 span env (zip None v z) cur t (omega arith) good (match_skip v m)
        (holds_item (plain e) b (values z) w v holds)))
    items_paid (item (let_ x e) is) b w f a span env z cur s n (ok, good) m holds =
        fewer {e = 0} {f = 2 + a} (omega arith) (omega (arith, n)) (bind_paid _ _ (more_paid (omega arith) (keep a (den_paid e env z outside s ok m)))
        (λ v t. items_paid is (after_item (let_ x e) b) (with_part (let_ x e) v w) 0 5 span (with_value x v env) (zip (Some (own x)) v z) cur t
        (omega arith) good (match_value_name x v m) (holds_item (let_ x e) b (values z) w v holds)))
    items_paid (item (field name x e) is) b w f a span env z cur s n (ok, good) m holds =
        fewer {e = 0} {f = 2 + a} (omega arith) (omega (arith, n)) (bind_paid _ _ (more_paid (omega arith) (keep a (den_paid e env z outside s ok m)))
        (λ v t. items_paid is (after_item (field name x e) b) (with_part (field name x e) v w) 0 5 span (with_value x v env) (zip (Some (own x)) v z)
        cur t (omega arith) good (match_value_name x v m) (holds_item (field name x e) b (values z) w v holds)))
    items_paid (item (result_ e) is) b w f a span env z cur s n (ok, good) m holds =
        fewer {e = 0} {f = 2 + a} (omega arith) (omega (arith, n)) (bind_paid _ _ (more_paid (omega arith) (keep a (den_paid e env z outside s ok m)))
        (λ v t. items_paid is (after_item (result_ e) b) (with_part (result_ e) v w) 0 5 span env (zip None v z) cur t (omega arith) good
        (match_skip v m) (holds_item (result_ e) b (values z) w v holds)))

    first_paid : (as_ : Alts) (span : Span) (env : Env) (z : Zip) (cur : Current) (s : Stream) → AreAlternatives as_ → Matches z env →
        Paid 3 2 1 (of_some as_ (den_first spec l as_ env s)) (core.core k (first_lowered spec.bits within as_ span (scope z)) cur (values z) s)
    first_paid no_alts span env z cur s ok m = spend {b = 0} (omega arith) at_stuck
    first_paid (alt e no_alts) span env z cur s (ok, good) m =
        subst (λ o. Paid 3 2 1 o (core.core k (lowered spec.bits within e (scope z)) cur (values z) s)) (sym (biased_end _))
        (more_paid (omega arith) (fewer (omega arith) (omega arith) (den_paid e env z cur s ok m)))
    first_paid (tag name e no_alts) span env z cur s (ok, good) m =
        subst (λ o. Paid 3 2 1 o (Bind (core.core k (lowered spec.bits within e (scope z)) outside (values z) s) (λ v t. tick (parsed (tagged name v) t))))
        (sym (biased_end _))
        (more_paid (omega arith) (fewer (omega arith) (omega arith) (tag_paid name (den_paid e env z outside s ok m))))
    first_paid (alt e (alt b as_)) span env z cur s (ok, good) m =
        paid_is ((biased_plain (den spec l e env s) (den_first spec l (alt b as_) env s)))
        (tried_paid h C.Biased (type_of e) (lowered spec.bits within e (scope z)) (c.give 0) (first_lowered spec.bits within (alt b as_) span (scope z)) cur
        (values z) s _ 0 (omega arith) (den_paid e env z outside s ok m) (λ v t. one_parse {e = 3} {f = 0} v t (omega arith))
        (more_paid (omega arith) (first_paid (alt b as_) span env z cur s good m)))
    first_paid (alt e (tag other b as_)) span env z cur s (ok, good) m =
        paid_is ((biased_plain (den spec l e env s) (den_first spec l (tag other b as_) env s)))
        (tried_paid h C.Biased (type_of e) (lowered spec.bits within e (scope z)) (c.give 0)
        (first_lowered spec.bits within (tag other b as_) span (scope z)) cur
        (values z) s _ 0 (omega arith) (den_paid e env z outside s ok m) (λ v t. one_parse {e = 3} {f = 0} v t (omega arith))
        (more_paid (omega arith) (first_paid (tag other b as_) span env z cur s good m)))
    first_paid (tag name e (alt b as_)) span env z cur s (ok, good) m =
        paid_is ((biased_bind (tagged name) (den spec l e env s) (den_first spec l (alt b as_) env s)))
        (tried_paid h C.Biased (type_of e) (lowered spec.bits within e (scope z)) (c.perform (c.union_ name) (0 ∷ []) span)
        (first_lowered spec.bits within (alt b as_) span (scope z)) cur (values z) s _ 0 (omega arith) (den_paid e env z outside s ok m) (λ v t.
        one_parse {e = 3} {f = 0} (tagged name v) t (omega arith)) (more_paid (omega arith) (first_paid (alt b as_) span env z cur s good m)))
    first_paid (tag name e (tag other b as_)) span env z cur s (ok, good) m =
        paid_is ((biased_bind (tagged name) (den spec l e env s) (den_first spec l (tag other b as_) env s)))
        (tried_paid h C.Biased (type_of e) (lowered spec.bits within e (scope z)) (c.perform (c.union_ name) (0 ∷ []) span)
        (first_lowered spec.bits within (tag other b as_) span (scope z)) cur (values z) s _ 0 (omega arith) (den_paid e env z outside s ok m) (λ v t.
        one_parse {e = 3} {f = 0} (tagged name v) t (omega arith))
        (more_paid (omega arith) (first_paid (tag other b as_) span env z cur s good m)))

    choose_paid : (as_ : Alts) (span : Span) (env : Env) (z : Zip) (cur : Current) (s : Stream) → AreAlternatives as_ → Matches z env →
        Paid 3 2 1 (of_some as_ (den_choose spec l as_ env s)) (core.core k (choose_lowered spec.bits within as_ span (scope z)) cur (values z) s)
    choose_paid no_alts span env z cur s ok m = spend {b = 0} (omega arith) at_stuck
    choose_paid (alt e no_alts) span env z cur s (ok, good) m =
        subst (λ o. Paid 3 2 1 o (core.core k (lowered spec.bits within e (scope z)) cur (values z) s)) (sym (both_end _))
        (more_paid (omega arith) (fewer (omega arith) (omega arith) (den_paid e env z cur s ok m)))
    choose_paid (tag name e no_alts) span env z cur s (ok, good) m =
        subst (λ o. Paid 3 2 1 o (Bind (core.core k (lowered spec.bits within e (scope z)) outside (values z) s) (λ v t. tick (parsed (tagged name v) t))))
        (sym (both_end _))
        (more_paid (omega arith) (fewer (omega arith) (omega arith) (tag_paid name (den_paid e env z outside s ok m))))
    choose_paid (alt e (alt b as_)) span env z cur s (ok, good) m =
        spend {b = 0} (omega arith) (both_paid {g = 2} (fewer (omega arith) (omega arith) (den_paid e env z cur s ok m))
        (more_paid (omega arith) (choose_paid (alt b as_) span env z cur s good m)))
    choose_paid (alt e (tag name b as_)) span env z cur s (ok, good) m =
        spend {b = 0} (omega arith) (both_paid {g = 2} (fewer (omega arith) (omega arith) (den_paid e env z cur s ok m))
        (more_paid (omega arith) (choose_paid (tag name b as_) span env z cur s good m)))
    choose_paid (tag name e (alt b as_)) span env z cur s (ok, good) m =
        spend {b = 0} (omega arith) (both_paid {g = 2} (fewer (omega arith) (omega arith) (tag_paid name (den_paid e env z outside s ok m)))
        (more_paid (omega arith) (choose_paid (alt b as_) span env z cur s good m)))
    choose_paid (tag name e (tag other b as_)) span env z cur s (ok, good) m =
        spend {b = 0} (omega arith) (both_paid {g = 2} (fewer (omega arith) (omega arith) (tag_paid name (den_paid e env z outside s ok m)))
        (more_paid (omega arith) (choose_paid (tag other b as_) span env z cur s good m)))

    args_paid : (args : Args) (acc : List ℕ) (y : Zip) (f : ℕ) (span : Span) (env to : Env) (z : Zip) (cur : Current) (s : Stream) → AreArguments args
        → Calls f false (arg_scope args (scope y)) → Matches z env → Matches y to → all_at (values z) acc ≡ gives (values y) →
        Paid 5 2 8 (then_parse (args_env spec l args env to) (λ inner. then_parse (called spec f) (λ e. leave (l.den e inner s))))
        (core.core k (args_called spec.bits within args f acc span (scope z)) cur (values z) s)
    args_paid no_args acc y f span env to z cur s ok calls m n e =
        subst (λ o. Paid 5 2 8 (then_parse (given o) (λ b. leave (l.den b to s)))
        (tick (then_parse (all_at (values z) acc) (λ vs. leave (k.call f vs s))))) (sym calls.is)
        (subst (λ o. Paid 5 2 8 (leave (l.den calls.body to s)) (tick (then_parse o (λ vs. leave (k.call f vs s))))) (sym e)
        (spend {b = 7} (omega arith) (fewer (omega arith) (omega arith)
        (exit_paid {e = 12} (more_paid (omega arith) (leave_paid (h.den f calls.body y to s calls.is calls.kind_is (sym calls.names) n)))))))
    args_paid (by_value x a args) acc y f span env to z cur s (ok, good) calls m n e =
        subst (λ o. Paid 5 2 8 o (core.core k (args_called spec.bits within (by_value x a args) f acc span (scope z)) cur (values z) s))
        (sym (parse_assoc (val spec l a env) (λ v. args_env spec l args env (with_value x v to)) _))
        (then_paid _ _ (costs_keep 8 (val_costs h a env z outside s ok m))
        (λ v. more_paid (omega arith) (args_paid args (0 ∷ shifted acc) (zip (Some (own x)) v y) f span env (with_value x v to) (zip None v z) cur s
        good calls (match_skip v m) (match_value_name x v n)
        (ap (λ o. then_value o (λ vs. gives (v ∷ vs))) (all_shift v (values z) acc ∙ e)))))
    args_paid (by_hand there here args) acc y f span env to z cur s ok calls m n e =
        subst (λ o. Paid 5 2 8 o (core.core k (args_called spec.bits within (by_hand there here args) f acc span (scope z)) cur (values z) s))
        (sym (parse_assoc (given (named_in env here)) (λ v. args_env spec l args env (with_name there v to)) _))
        (hand_paid h (has_name (scope z) here) here env z s refl m (λ v.
        then_parse (args_env spec l args env (with_name there v to)) (λ inner. then_parse (called spec f) (λ e. leave (l.den e inner s))))
        (args_called spec.bits within args f (index (scope z) here ∷ acc) span (scope z)) cur span
        (λ v is. args_paid args (index (scope z) here ∷ acc) (zip (Some there) v y) f span env (with_name there v to) z cur s ok calls m
        (match_name there v n) (hand_all z here v acc y is e)))
    args_paid _ acc y f span env to z cur s ok calls m n e = absurd ok

    exprs_paid : (es : Exprs) (op : c.Operation) (K : Values → Outcome) (acc : List ℕ) (ws : List Value) (span : Span) (env : Env) (z : Zip)
        (cur : Current) (s : Stream) → AreValues es → Matches z env →
        ((vs : Values) → K vs ≡ performed op (joined ws vs) span s) → ((vs : Values) → Single (performed op vs span s)) → all_at (values z) acc ≡ gives ws →
        Paid 5 2 8 (then_parse (vals spec l es env) K) (core.core k (exprs_valued spec.bits within es op acc span (scope z)) cur (values z) s)
    exprs_paid no_exprs op K acc ws span env z cur s ok m hk single e =
        subst (λ o. Paid 5 2 8 o (tick (then_parse (all_at (values z) acc) (λ vs. performed op (listed vs) span s))))
        (sym (hk no_values ∙ ap (λ u. performed op u span s) (joined_end ws)))
        (subst (λ o. Paid 5 2 8 (performed op (listed ws) span s) (tick (then_parse o (λ vs. performed op (listed vs) span s)))) (sym e)
        (spend {b = 7} (omega arith) (single_paid _ (single (listed ws)) (omega arith))))
    exprs_paid (more a es) op K acc ws span env z cur s (ok, good) m hk single e =
        subst (λ o. Paid 5 2 8 o (core.core k (exprs_valued spec.bits within (more a es) op acc span (scope z)) cur (values z) s))
        (sym (parse_assoc (val spec l a env) (λ v. then_value (vals spec l es env) (λ vs. gives (value v vs))) K))
        (then_paid _ _ (costs_keep 8 (val_costs h a env z outside s ok m)) (λ v.
        subst (λ o. Paid 5 2 13 o (core.core k (exprs_valued spec.bits within es op (shifted acc ++ (0 ∷ [])) span (None ∷ scope z)) cur (v ∷ values z) s))
        (sym (parse_assoc (vals spec l es env) (λ vs. gives (value v vs)) K))
        (more_paid (omega arith) (exprs_paid es op (λ vs. K (value v vs)) (shifted acc ++ (0 ∷ [])) (ws ++ (v ∷ [])) span env (zip None v z) cur s
        good (match_skip v m)
        (λ vs. hk (value v vs) ∙ ap (λ u. performed op u span s) (sym (joined_more ws v vs))) single
        (all_app (v ∷ values z) (shifted acc) (0 ∷ []) ws (v ∷ []) (all_shift v (values z) acc ∙ e) refl)))))
    -- ---- turns
