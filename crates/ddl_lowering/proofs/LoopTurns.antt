-- A turn of `for` and of `map` costs what it pays.
use Rattle.std.proofs.Common.{◌≡◌, ℕ, suc, Bool, ◌∷◌, Some, None, refl, arith}
use Rattle.ddl_base.specs.declared.span.Span.{Span}
use Rattle.ddl_types.specs.Types.{Ty}
use Rattle.ddl_types.specs.Value.{Value, Pairs, Stream, array, pair}
use Rattle.ddl_types.specs.Outcome.{tick}
use Rattle.ddl_typed.specs.declared.parts.Binder.{Binder}
use Rattle.ddl_ops.specs.declared.pattern.Pattern.{Pattern}
use Rattle.ddl_ops.specs.Valued.{gives, then_value}
use Rattle.ddl_ops.proofs.Paid.{Paid, pay, spend, Costs, paid, spent, more as more_paid, fewer, keep, bind_paid, costs_keep, costs_then}
use Rattle.ddl_typed.specs.Tree.{own, Expr, Spec}
use Rattle.ddl_typed.specs.Env.{Env}
use Rattle.ddl_typed.specs.Lower as typed
use Rattle.ddl_typed.specs.Loops.{is_map, with_element, with_pair, values_of_pairs, gathered}
use Rattle.ddl_typed.specs.Meaning.{val}
use Rattle.ddl_typed.specs.Meaning as meaning
use Rattle.ddl_mono.specs.Copies.{Scope}
use Rattle.ddl_mono.specs.IsMono as mono
use Rattle.ddl_core.specs.Meaning.{outside, turning}
use Rattle.ddl_core.specs.Meaning as core
use Rattle.ddl_core.specs.Operations.{position, elements_count}
use Rattle.ddl_lowering.specs.Scopes.{named_at}
use Rattle.ddl_lowering.specs.Loops.{for_scope, map_scope, for_turn, map_turn}
use Rattle.ddl_lowering.specs.Lowered.{valued, lowered}
use Rattle.ddl_lowering.proofs.Positions.{Left, Gathers, gathers_on, at_key, at_element}
use Rattle.ddl_lowering.proofs.Variables.{Zip, zip, scope, values, Matches, match_skip, match_value_name, match_optional}
use Rattle.ddl_lowering.proofs.Listed.{then_assoc}
use Rattle.ddl_lowering.proofs.Steps.{step_cost, step_paid, cost_is}
use Rattle.ddl_lowering.proofs.Below.{LowerCosts}
use Rattle.ddl_lowering.proofs.TurnEnds.{for_on_cost, for_on_paid, map_on_cost, map_on_paid}
use Rattle.ddl_lowering.proofs.ValueForms.{val_costs}
use Rattle.ddl_lowering.proofs.GrammarForms.{den_paid}

module _ {spec : Spec} {params : ℕ → Scope} {is_value : ℕ → Bool} {within : Pattern → Ty
    → Ty} {l : typed.Lower} {k : core.Lower} (h : LowerCosts spec params is_value within l k) where
  abbrev IsValue : Expr → Type 0
  IsValue = mono.IsValue spec params is_value

  abbrev IsGrammar : Expr → Type 0
  IsGrammar = mono.IsGrammar spec params is_value

  -- a turn of `for` and of `map`
  pub fold_value_paid : (x : ℕ) (names : Binder) (e : Expr) (ov ty : Ty) (span : Span) (env : Env) (z : Zip) (u b p w st : Value) (n i : ℕ)
      (acc key el : Value) (ps : Pairs) (s : Stream) → IsValue e → Matches z env → elements_count w ≡ gives n → Left w n i (pair key el ps) →
      Costs 5 s 0 (meaning.fold_value_turn spec l (record { result = x; names = names; body = e }) env acc key el ps)
      (tick (core.core k (for_turn ov ty (valued spec.bits within e (for_scope x names (scope z))) span)
      (turning (for_turn ov ty (valued spec.bits within e (for_scope x names (scope z))) span) (u ∷ b ∷ p ∷ w ∷ st ∷ values z))
      (acc ∷ position i ∷ u ∷ b ∷ p ∷ w ∷ st ∷ values z) s))
  fold_value_paid x names e ov ty span env z u b p w st n i acc key el ps s ok m c (lt, ks, es, left) =
      let y : Zip = zip None (position i) (zip None u (zip None b (zip None p (zip None w (zip None st z))))) in
      let n5 = match_skip (position i) (match_skip u (match_skip b (match_skip p (match_skip w (match_skip st m))))) in
      paid {b = 8} (omega arith) (spent {b = 7} (omega arith)
      (step_cost {b = 6} (at_key w i span) key _ _ ks (omega arith) (step_cost {b = 5} (at_element w i span) el _ _ es (omega arith)
      (costs_then _ _ (costs_keep 5 (val_costs h e _ (zip (Some (own names.element)) el (zip (named_at names.key) key (zip (Some (own x)) acc y))) outside s ok
      (match_value_name names.element el (match_optional names.key key (match_value_name x acc n5)))))
      (λ r. for_on_cost h _ env span _ r el key acc u b p w st (values z) n i ps s c lt left (λ key' el' rest further.
      h.fold_value x names e ov ty span env z u b p w st n (suc i) r key' el' rest s ok m c further))))))

  pub fold_paid : (x : ℕ) (names : Binder) (e : Expr) (ov ty : Ty) (span : Span) (env : Env) (z : Zip) (u b p w st : Value) (n i : ℕ)
      (acc key el : Value) (ps : Pairs) (s : Stream) → IsGrammar e → Matches z env → elements_count w ≡ gives n → Left w n i (pair key el ps) →
      Paid 0 2 0 (meaning.fold_turn spec l (record { result = x; names = names; body = e }) env acc key el ps s)
      (tick (core.core k (for_turn ov ty (lowered spec.bits within e (for_scope x names (scope z))) span)
      (turning (for_turn ov ty (lowered spec.bits within e (for_scope x names (scope z))) span) (u ∷ b ∷ p ∷ w ∷ st ∷ values z))
      (acc ∷ position i ∷ u ∷ b ∷ p ∷ w ∷ st ∷ values z) s))
  fold_paid x names e ov ty span env z u b p w st n i acc key el ps s ok m c (lt, ks, es, left) =
      let y : Zip = zip None (position i) (zip None u (zip None b (zip None p (zip None w (zip None st z))))) in
      let n5 = match_skip (position i) (match_skip u (match_skip b (match_skip p (match_skip w (match_skip st m))))) in
      pay {b = 8} (omega arith) (spend {b = 7} (omega arith)
      (step_paid {b = 6} (at_key w i span) key _ _ ks (omega arith) (step_paid {b = 5} (at_element w i span) el _ _ es (omega arith)
      (fewer {f = 7} (omega arith) (omega arith) (bind_paid {e = 5} _ _
      (more_paid (omega arith) (fewer (omega arith) (omega arith)
      (keep 5 (den_paid h e _ (zip (Some (own names.element)) el (zip (named_at names.key) key (zip (Some (own x)) acc y))) outside s ok
      (match_value_name names.element el (match_optional names.key key (match_value_name x acc n5)))))))
      (λ r t. for_on_paid h _ env span _ r el key acc u b p w st (values z) n i ps t c lt left (λ key' el' rest further.
      h.fold x names e ov ty span env z u b p w st n (suc i) r key' el' rest t ok m c further)))))))

  pub each_value_paid : (names : Binder) (e : Expr) (ov ty inner : Ty) (span : Span) (env : Env) (z : Zip) (u b p st w : Value) (n i : ℕ)
      (done : Pairs) (key el : Value) (ps : Pairs) (s : Stream) → IsValue e → Matches z env → elements_count w ≡ gives n → Left w n i (pair key el ps)
      → Gathers w done (pair key el ps) →
      Costs 5 s 0 (then_value (meaning.each_value_turn spec l (record { names = names; body = e; over_map = is_map w }) env done key el ps) (λ d.
      gives (gathered (is_map w) d)))
      (tick (core.core k (map_turn ov ty inner (valued spec.bits within e (map_scope names (scope z))) span)
      (turning (map_turn ov ty inner (valued spec.bits within e (map_scope names (scope z))) span) (u ∷ b ∷ p ∷ st ∷ w ∷ values z))
      (array (values_of_pairs done) ∷ position i ∷ u ∷ b ∷ p ∷ st ∷ w ∷ values z) s))
  each_value_paid names e ov ty inner span env z u b p st w n i done key el ps s ok m c (lt, ks, es, left) g =
      let y : Zip = zip None (array (values_of_pairs done)) (zip None (position i) (zip None u (zip None b (zip None p (zip None st (zip None w z)))))) in
      let n5 = match_skip (array (values_of_pairs done))
      (match_skip (position i) (match_skip u (match_skip b (match_skip p (match_skip st (match_skip w m)))))) in
      paid {b = 8} (omega arith) (cost_is ((then_assoc (val spec l e (with_element names key el env)) (λ r.
      meaning.each_values spec l (record { names = names; body = e; over_map = is_map w }) env (with_pair done key r) ps) (λ d.
      gives (gathered (is_map w) d))))
      (spent {b = 7} (omega arith) (step_cost {b = 6} (at_key w i span) key _ _ ks (omega arith)
      (step_cost {b = 5} (at_element w i span) el _ _ es (omega arith)
      (costs_then _ _ (costs_keep 5 (val_costs h e _ (zip (Some (own names.element)) el (zip (named_at names.key) key y)) outside s ok
      (match_value_name names.element el (match_optional names.key key n5))))
      (λ r. map_on_cost h _ env ty span _ r el key u b p st w (values z) n i done ps s c lt left (gathers_on w done key el r ps g)
      (λ key' el' rest further g'. h.each_value names e ov ty inner span env z u b p st w n (suc i) (with_pair done key r) key' el' rest s ok m c
      further g')))))))

  pub each_paid : (names : Binder) (e : Expr) (ov ty inner : Ty) (span : Span) (env : Env) (z : Zip) (u b p st w : Value) (n i : ℕ) (done : Pairs)
      (key el : Value) (ps : Pairs) (s : Stream) → IsGrammar e → Matches z env → elements_count w ≡ gives n → Left w n i (pair key el ps)
      → Gathers w done (pair key el ps) →
      Paid 0 2 0 (meaning.each_turn spec l (record { names = names; body = e; over_map = is_map w }) env done key el ps s)
      (tick (core.core k (map_turn ov ty inner (lowered spec.bits within e (map_scope names (scope z))) span)
      (turning (map_turn ov ty inner (lowered spec.bits within e (map_scope names (scope z))) span) (u ∷ b ∷ p ∷ st ∷ w ∷ values z))
      (array (values_of_pairs done) ∷ position i ∷ u ∷ b ∷ p ∷ st ∷ w ∷ values z) s))
  each_paid names e ov ty inner span env z u b p st w n i done key el ps s ok m c (lt, ks, es, left) g =
      let y : Zip = zip None (array (values_of_pairs done)) (zip None (position i) (zip None u (zip None b (zip None p (zip None st (zip None w z)))))) in
      let n5 = match_skip (array (values_of_pairs done))
      (match_skip (position i) (match_skip u (match_skip b (match_skip p (match_skip st (match_skip w m)))))) in
      pay {b = 8} (omega arith) (spend {b = 7} (omega arith)
      (step_paid {b = 6} (at_key w i span) key _ _ ks (omega arith) (step_paid {b = 5} (at_element w i span) el _ _ es (omega arith)
      (fewer {f = 7} (omega arith) (omega arith) (bind_paid {e = 5} _ _
      (more_paid (omega arith) (fewer (omega arith) (omega arith)
      (keep 5 (den_paid h e _ (zip (Some (own names.element)) el (zip (named_at names.key) key y)) outside s ok
      (match_value_name names.element el (match_optional names.key key n5))))))
      (λ r t. map_on_paid h _ env ty span _ r el key u b p st w (values z) n i done ps t refl c lt left (gathers_on w done key el r ps g)
      (λ key' el' rest further g'. h.each names e ov ty inner span env z u b p st w n (suc i) (with_pair done key r) key' el' rest t ok m c
      further g')))))))
