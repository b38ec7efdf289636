-- The beginning of `for` and of `map`.
use Rattle.std.proofs.Common.{ℕ, Bool, true, false, [], ◌∷◌, ap, subst, sym, arith}
use Rattle.ddl_base.specs.declared.span.Span.{Span}
use Rattle.ddl_types.specs.Types.{Ty}
use Rattle.ddl_types.specs.Value.{Value, Pairs, Stream, boolean, unit, array, no_values, no_pairs, pair}
use Rattle.ddl_types.specs.Outcome.{tick, parsed}
use Rattle.ddl_types.specs.Joining.{leave}
use Rattle.ddl_typed.specs.declared.parts.Binder.{Binder}
use Rattle.ddl_ops.specs.declared.pattern.Pattern.{Pattern}
use Rattle.ddl_ops.specs.Valued.{gives, then_value, then_parse}
use Rattle.ddl_ops.proofs.Paid.{Paid, pay, spend, at_parse, at_end, Costs, spent, more as more_paid, fewer, leave_paid, costs_more, performs}
use Rattle.ddl_typed.specs.Tree.{Expr, Spec}
use Rattle.ddl_typed.specs.Env.{Env}
use Rattle.ddl_typed.specs.Lower as typed
use Rattle.ddl_typed.specs.Loops.{Fold, elements_of, is_map, gathered}
use Rattle.ddl_typed.specs.Meaning as meaning
use Rattle.ddl_mono.specs.Copies.{Scope}
use Rattle.ddl_mono.specs.IsMono as mono
use Rattle.ddl_core.specs.Core as c
use Rattle.ddl_core.specs.Meaning.{Current}
use Rattle.ddl_core.specs.Meaning as core
use Rattle.ddl_core.specs.Operations.{position}
use Rattle.ddl_lowering.specs.PartTypes.{truth_type, count_type}
use Rattle.ddl_lowering.specs.Choices.{by_truth}
use Rattle.ddl_lowering.specs.Loops.{for_scope, map_scope, for_turn, map_turn}
use Rattle.ddl_lowering.specs.Lowered.{valued, lowered}
use Rattle.ddl_lowering.proofs.Positions.{Left, Gathers, gathered_all, Over, goes, no_way, has_given, has_stuck, has_at}
use Rattle.ddl_lowering.proofs.Variables.{Zip, scope, values, Matches}
use Rattle.ddl_lowering.proofs.Steps.{step_cost, stuck_cost, step_paid, stuck_paid, cost_is, paid_is, known_cost, known_paid}
use Rattle.ddl_lowering.proofs.Below.{LowerCosts}

module _ {spec : Spec} {params : ℕ → Scope} {is_value : ℕ → Bool} {within : Pattern → Ty
    → Ty} {l : typed.Lower} {k : core.Lower} (h : LowerCosts spec params is_value within l k) where
  abbrev IsValue : Expr → Type 0
  IsValue = mono.IsValue spec params is_value

  abbrev IsGrammar : Expr → Type 0
  IsGrammar = mono.IsGrammar spec params is_value

  -- the first turn, where there is one
  pub for_begins : (x : ℕ) (names : Binder) (e : Expr) (ov ty : Ty) (span : Span) (env : Env) (z : Zip) (st w : Value) (cur : Current) (s : Stream)
      → IsValue e → Matches z env → Over w →
      Costs 5 s 18 (then_value (elements_of w) (λ ps. meaning.fold_values spec l (record { result = x; names = names; body = e }) env st ps))
      (core.core k (c.bind count_type (c.perform c.first_position [] span) (c.bind truth_type (c.perform c.has_position (1 ∷ 0 ∷ []) span)
      (by_truth (c.loop (ty ∷ count_type ∷ []) (4 ∷ 2 ∷ []) (for_turn ov ty (valued spec.bits within e (for_scope x names (scope z))) span)) (c.give 4)
      span))) cur (w ∷ st ∷ values z) s)
  for_begins x names e ov ty span env z st w cur s ok m (goes n ps is len left g) =
      let f : Fold = record { result = x; names = names; body = e } in
      cost_is (ap (λ o. then_value o (λ ps. meaning.fold_values spec l f env st ps)) is)
      (known_cost {b = 17} (omega arith) (begin ps left))
    where
      begin : (ps : Pairs) → Left w n 0 ps → Costs 5 s 17 (meaning.fold_values spec l (record { result = x; names = names; body = e }) env st ps)
          (core.core k (c.bind truth_type (c.perform c.has_position (1 ∷ 0 ∷ []) span)
          (by_truth (c.loop (ty ∷ count_type ∷ []) (4 ∷ 2 ∷ []) (for_turn ov ty (valued spec.bits within e (for_scope x names (scope z))) span)) (c.give 4)
          span)) cur (position 0 ∷ w ∷ st ∷ values z) s)
      begin no_pairs left = step_cost {b = 16} (has_at w 0 span) (boolean false) _ _ (has_given w n 0 false span len left) (omega arith)
          (spent {b = 15} (omega arith) (performs (gives st) (omega arith)))
      begin (pair key el ps) left = step_cost {b = 16} (has_at w 0 span) (boolean true) _ _ (has_given w n 0 true span len left.0) (omega arith)
          (spent {b = 15} (omega arith) (costs_more (omega arith)
          (h.fold_value x names e ov ty span env z unit (boolean true) (position 0) w st n 0 st key el ps s ok m len left)))
  for_begins x names e ov ty span env z st w cur s ok m (no_way is len) =
      cost_is (ap (λ o. then_value o (λ ps. meaning.fold_values spec l (record { result = x; names = names; body = e }) env st ps)) is)
      (known_cost {b = 17} (omega arith) (stuck_cost (has_at w 0 span) _ (has_stuck w 0 span len) (omega arith)))

  pub for_begins_paid : (x : ℕ) (names : Binder) (e : Expr) (ov ty : Ty) (span : Span) (env : Env) (z : Zip) (st w : Value) (cur : Current)
      (s : Stream) → IsGrammar e → Matches z env → Over w →
      Paid 5 2 18 (then_parse (elements_of w) (λ ps. leave (meaning.folds spec l (record { result = x; names = names; body = e }) env st ps s)))
      (core.core k (c.bind count_type (c.perform c.first_position [] span) (c.bind truth_type (c.perform c.has_position (1 ∷ 0 ∷ []) span)
      (by_truth (c.loop (ty ∷ count_type ∷ []) (4 ∷ 2 ∷ []) (for_turn ov ty (lowered spec.bits within e (for_scope x names (scope z))) span)) (c.give 4)
      span))) cur (w ∷ st ∷ values z) s)
  for_begins_paid x names e ov ty span env z st w cur s ok m (goes n ps is len left g) =
      paid_is (ap (λ o. then_parse o (λ ps. leave (meaning.folds spec l (record { result = x; names = names; body = e }) env st ps s))) is)
      (known_paid {b = 17} (omega arith) (begin ps left))
    where
      begin : (ps : Pairs) → Left w n 0 ps → Paid 5 2 17 (leave (meaning.folds spec l (record { result = x; names = names; body = e }) env st ps s))
          (core.core k (c.bind truth_type (c.perform c.has_position (1 ∷ 0 ∷ []) span)
          (by_truth (c.loop (ty ∷ count_type ∷ []) (4 ∷ 2 ∷ []) (for_turn ov ty (lowered spec.bits within e (for_scope x names (scope z))) span)) (c.give 4)
          span)) cur (position 0 ∷ w ∷ st ∷ values z) s)
      begin no_pairs left = step_paid {b = 16} (has_at w 0 span) (boolean false) _ _ (has_given w n 0 false span len left) (omega arith)
          (spend {b = 15} (omega arith) (spend {b = 14} (omega arith)
          (pay {b = 22} (omega arith) (at_parse {b = 2} (omega arith) (at_end (omega arith))))))
      begin (pair key el ps) left = step_paid {b = 16} (has_at w 0 span) (boolean true) _ _ (has_given w n 0 true span len left.0) (omega arith)
          (spend {b = 15} (omega arith) (fewer (omega arith) (omega arith) (leave_paid (more_paid (omega arith)
          (h.fold x names e ov ty span env z unit (boolean true) (position 0) w st n 0 st key el ps s ok m len left)))))
  for_begins_paid x names e ov ty span env z st w cur s ok m (no_way is len) =
      paid_is (ap (λ o. then_parse o (λ ps. leave (meaning.folds spec l (record { result = x; names = names; body = e }) env st ps s))) is)
      (known_paid {b = 17} (omega arith) (stuck_paid s (has_at w 0 span) _ (has_stuck w 0 span len) (omega arith)))

  pub map_begins : (names : Binder) (e : Expr) (ov ty inner : Ty) (span : Span) (env : Env) (z : Zip) (w : Value) (cur : Current) (s : Stream)
      → IsValue e → Matches z env → Over w →
      Costs 5 s 13 (then_value (elements_of w) (λ ps. then_value
      (meaning.each_values spec l (record { names = names; body = e; over_map = is_map w }) env no_pairs ps) (λ d.
      gives (gathered (is_map w) d))))
      (core.core k (c.bind ty (c.perform c.list [] span)
      (c.bind count_type (c.perform c.first_position [] span) (c.bind truth_type (c.perform c.has_position (2 ∷ 0 ∷ []) span)
      (by_truth (c.loop (ty ∷ count_type ∷ []) (3 ∷ 2 ∷ []) (map_turn ov ty inner (valued spec.bits within e (map_scope names (scope z))) span))
      (c.perform c.gather (4 ∷ 3 ∷ []) span) span)))) cur (w ∷ values z) s)
  map_begins names e ov ty inner span env z w cur s ok m (goes n ps is len left g) =
      cost_is (ap (λ o. then_value o (λ ps. then_value (meaning.each_values spec l (record { names = names; body = e; over_map = is_map w }) env
      no_pairs ps) (λ d. gives (gathered (is_map w) d)))) is)
      (known_cost {b = 12} (omega arith) (known_cost {b = 11} (omega arith) (begin ps left g)))
    where
      begin : (ps : Pairs) → Left w n 0 ps → Gathers w no_pairs ps
          → Costs 5 s 11 (then_value (meaning.each_values spec l (record { names = names; body = e; over_map = is_map w }) env no_pairs ps) (λ d.
          gives (gathered (is_map w) d)))
          (core.core k (c.bind truth_type (c.perform c.has_position (2 ∷ 0 ∷ []) span)
          (by_truth (c.loop (ty ∷ count_type ∷ []) (3 ∷ 2 ∷ []) (map_turn ov ty inner (valued spec.bits within e (map_scope names (scope z))) span))
          (c.perform c.gather (4 ∷ 3 ∷ []) span) span)) cur (position 0 ∷ array no_values ∷ w ∷ values z) s)
      begin no_pairs left g = step_cost {b = 10} (has_at w 0 span) (boolean false) _ _ (has_given w n 0 false span len left) (omega arith)
          (spent {b = 9} (omega arith)
          (subst (λ o. Costs 5 s 9 (gives (gathered (is_map w) no_pairs)) (tick (then_parse o (λ v. parsed v s)))) (sym (gathered_all w no_pairs g))
          (performs (gives (gathered (is_map w) no_pairs)) (omega arith))))
      begin (pair key el ps) left g = step_cost {b = 10} (has_at w 0 span) (boolean true) _ _ (has_given w n 0 true span len left.0) (omega arith)
          (spent {b = 9} (omega arith) (costs_more (omega arith)
          (h.each_value names e ov ty inner span env z unit (boolean true) (position 0) (array no_values) w n 0 no_pairs key el ps s ok m len left g)))
  map_begins names e ov ty inner span env z w cur s ok m (no_way is len) =
      cost_is (ap (λ o. then_value o (λ ps. then_value (meaning.each_values spec l (record { names = names; body = e; over_map = is_map w }) env
      no_pairs ps) (λ d. gives (gathered (is_map w) d)))) is)
      (known_cost {b = 12} (omega arith) (known_cost {b = 11} (omega arith) (stuck_cost (has_at w 0 span) _ (has_stuck w 0 span len) (omega arith))))

  pub map_begins_paid : (names : Binder) (e : Expr) (ov ty inner : Ty) (span : Span) (env : Env) (z : Zip) (w : Value) (cur : Current) (s : Stream)
      → IsGrammar e → Matches z env → Over w →
      Paid 5 2 13 (then_parse (elements_of w) (λ ps. leave (meaning.eaches spec l (record { names = names; body = e; over_map = is_map w }) env no_pairs ps s)))
      (core.core k (c.bind ty (c.perform c.list [] span)
      (c.bind count_type (c.perform c.first_position [] span) (c.bind truth_type (c.perform c.has_position (2 ∷ 0 ∷ []) span)
      (by_truth (c.loop (ty ∷ count_type ∷ []) (3 ∷ 2 ∷ []) (map_turn ov ty inner (lowered spec.bits within e (map_scope names (scope z))) span))
      (c.perform c.gather (4 ∷ 3 ∷ []) span) span)))) cur (w ∷ values z) s)
  map_begins_paid names e ov ty inner span env z w cur s ok m (goes n ps is len left g) =
      paid_is (ap (λ o. then_parse o (λ ps. leave (meaning.eaches spec l (record { names = names; body = e; over_map = is_map w }) env no_pairs ps s))) is)
      (known_paid {b = 12} (omega arith) (known_paid {b = 11} (omega arith) (begin ps left g)))
    where
      begin : (ps : Pairs) → Left w n 0 ps → Gathers w no_pairs ps
          → Paid 5 2 11 (leave (meaning.eaches spec l (record { names = names; body = e; over_map = is_map w }) env no_pairs ps s))
          (core.core k (c.bind truth_type (c.perform c.has_position (2 ∷ 0 ∷ []) span)
          (by_truth (c.loop (ty ∷ count_type ∷ []) (3 ∷ 2 ∷ []) (map_turn ov ty inner (lowered spec.bits within e (map_scope names (scope z))) span))
          (c.perform c.gather (4 ∷ 3 ∷ []) span) span)) cur (position 0 ∷ array no_values ∷ w ∷ values z) s)
      begin no_pairs left g = step_paid {b = 10} (has_at w 0 span) (boolean false) _ _ (has_given w n 0 false span len left) (omega arith)
          (spend {b = 9} (omega arith)
          (subst (λ o. Paid 5 2 9 (tick (parsed (gathered (is_map w) no_pairs) s)) (tick (then_parse o (λ v. parsed v s))))
          (sym (gathered_all w no_pairs g)) (spend {b = 8} (omega arith)
          (pay {b = 16} (omega arith) (at_parse {b = 2} (omega arith) (at_end (omega arith)))))))
      begin (pair key el ps) left g = step_paid {b = 10} (has_at w 0 span) (boolean true) _ _ (has_given w n 0 true span len left.0) (omega arith)
          (spend {b = 9} (omega arith) (fewer (omega arith) (omega arith) (leave_paid (more_paid (omega arith)
          (h.each names e ov ty inner span env z unit (boolean true) (position 0) (array no_values) w n 0 no_pairs key el ps s ok m len left g)))))
  map_begins_paid names e ov ty inner span env z w cur s ok m (no_way is len) =
      paid_is (ap (λ o. then_parse o (λ ps. leave (meaning.eaches spec l (record { names = names; body = e; over_map = is_map w }) env no_pairs ps s))) is)
      (known_paid {b = 12} (omega arith) (known_paid {b = 11} (omega arith) (stuck_paid s (has_at w 0 span) _ (has_stuck w 0 span len) (omega arith))))
