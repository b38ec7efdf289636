-- The end of a turn of `for` and of `map`.
use Rattle.std.proofs.Common.{◌≡◌, ℕ, suc, Bool, true, false, List, [], ◌∷◌, subst, sym, arith}
use Rattle.std.specs.Prelude.{nat_lt}
use Rattle.ddl_base.specs.declared.span.Span.{Span}
use Rattle.ddl_types.specs.Types.{Ty}
use Rattle.ddl_types.specs.Value.{Value, Pairs, Stream, boolean, array, no_values, value, no_pairs, pair}
use Rattle.ddl_types.specs.Outcome.{tick, parsed}
use Rattle.ddl_ops.specs.declared.pattern.Pattern.{Pattern}
use Rattle.ddl_ops.specs.Valued.{gives, then_value, then_parse}
use Rattle.ddl_ops.proofs.Paid.{Paid, spend, at_parse, at_end, Costs, spent, more as more_paid, fewer, costs_more, performs}
use Rattle.ddl_typed.specs.Tree.{Spec}
use Rattle.ddl_typed.specs.Env.{Env}
use Rattle.ddl_typed.specs.Lower as typed
use Rattle.ddl_typed.specs.Loops.{Fold, Each, is_map, with_pair, values_of_pairs, gathered}
use Rattle.ddl_typed.specs.Meaning as meaning
use Rattle.ddl_mono.specs.Copies.{Scope}
use Rattle.ddl_core.specs.Core as c
use Rattle.ddl_core.specs.Meaning.{turning}
use Rattle.ddl_core.specs.Meaning as core
use Rattle.ddl_core.specs.Operations.{applied, position, elements_count}
use Rattle.ddl_lowering.specs.Loops.{for_on, map_next, map_on}
use Rattle.ddl_lowering.proofs.Positions.{Left, Gathers, values_on, gathered_all, has_given, next_given, next_at, has_at}
use Rattle.ddl_lowering.proofs.Steps.{step_cost, step_paid, known_cost, known_paid}
use Rattle.ddl_lowering.proofs.Below.{LowerCosts}

module _ {spec : Spec} {params : ℕ → Scope} {is_value : ℕ → Bool} {within : Pattern → Ty
    → Ty} {l : typed.Lower} {k : core.Lower} (h : LowerCosts spec params is_value within l k) where
  -- the end of a turn of a `for`
  pub for_on_cost : (f : Fold) (env : Env) (span : Span) (body : c.Form) (r el key acc u b p w st : Value) (vs : List Value) (n i : ℕ) (ps : Pairs)
      (s : Stream) → elements_count w ≡ gives n → nat_lt i n ≡ true → Left w n (suc i) ps →
      ((key el : Value) (rest : Pairs) → Left w n (suc i) (pair key el rest)
      → Costs 5 s 0 (l.fold_value f env r key el rest) (k.turn body (u ∷ b ∷ p ∷ w ∷ st ∷ vs) (r ∷ position (suc i) ∷ []) s)) →
      Costs 5 s 10 (meaning.fold_values spec l f env r ps)
      (core.core k (for_on span) (turning body (u ∷ b ∷ p ∷ w ∷ st ∷ vs)) (r ∷ el ∷ key ∷ acc ∷ position i ∷ u ∷ b ∷ p ∷ w ∷ st ∷ vs) s)
  for_on_cost f env span body r el key acc u b p w st vs n i no_pairs s len lt left go =
      step_cost {b = 9} (next_at w i span) (position (suc i)) _ _ (next_given w n i span len lt) (omega arith)
      (step_cost {b = 8} (has_at w (suc i) span) (boolean false) _ _ (has_given w n (suc i) false span len left) (omega arith)
      (spent {b = 7} (omega arith) (performs (gives r) (omega arith))))
  for_on_cost f env span body r el key acc u b p w st vs n i (pair key' el' ps) s len lt left go =
      step_cost {b = 9} (next_at w i span) (position (suc i)) _ _ (next_given w n i span len lt) (omega arith)
      (step_cost {b = 8} (has_at w (suc i) span) (boolean true) _ _ (has_given w n (suc i) true span len left.0) (omega arith)
      (spent {b = 7} (omega arith) (costs_more (omega arith) (go key' el' ps left))))

  pub for_on_paid : (f : Fold) (env : Env) (span : Span) (body : c.Form) (r el key acc u b p w st : Value) (vs : List Value) (n i : ℕ) (ps : Pairs)
      (s : Stream) → elements_count w ≡ gives n → nat_lt i n ≡ true → Left w n (suc i) ps →
      ((key el : Value) (rest : Pairs) → Left w n (suc i) (pair key el rest)
      → Paid 0 2 0 (l.fold f env r key el rest s) (k.turn body (u ∷ b ∷ p ∷ w ∷ st ∷ vs) (r ∷ position (suc i) ∷ []) s)) →
      Paid 0 0 5 (meaning.folds spec l f env r ps s) (core.core k (for_on span) (turning body (u ∷ b ∷ p ∷ w ∷ st ∷ vs))
      (r ∷ el ∷ key ∷ acc ∷ position i ∷ u ∷ b ∷ p ∷ w ∷ st ∷ vs) s)
  for_on_paid f env span body r el key acc u b p w st vs n i no_pairs s len lt left go =
      step_paid {b = 4} (next_at w i span) (position (suc i)) _ _ (next_given w n i span len lt) (omega arith)
      (step_paid {b = 3} (has_at w (suc i) span) (boolean false) _ _ (has_given w n (suc i) false span len left) (omega arith)
      (spend {b = 2} (omega arith) (spend {b = 1} (omega arith) (at_parse {b = 0} (omega arith) (at_end (omega arith))))))
  for_on_paid f env span body r el key acc u b p w st vs n i (pair key' el' ps) s len lt left go =
      step_paid {b = 4} (next_at w i span) (position (suc i)) _ _ (next_given w n i span len lt) (omega arith)
      (step_paid {b = 3} (has_at w (suc i) span) (boolean true) _ _ (has_given w n (suc i) true span len left.0) (omega arith)
      (spend {b = 2} (omega arith) (more_paid (omega arith) (fewer (omega arith) (omega arith) (go key' el' ps left)))))

  -- the end of a turn of a `map`
  pub map_on_cost : (m : Each) (env : Env) (ty : Ty) (span : Span) (body : c.Form) (r el key u b p st w : Value) (vs : List Value) (n i : ℕ)
      (done ps : Pairs) (s : Stream) → elements_count w ≡ gives n → nat_lt i n ≡ true → Left w n (suc i) ps → Gathers w (with_pair done key r) ps →
      ((key' el' : Value) (rest : Pairs) → Left w n (suc i) (pair key' el' rest) → Gathers w (with_pair done key r) (pair key' el' rest) →
      Costs 5 s 0 (then_value (l.each_value m env (with_pair done key r) key' el' rest) (λ d. gives (gathered (is_map w) d)))
      (k.turn body (u ∷ b ∷ p ∷ st ∷ w ∷ vs) (array (values_of_pairs (with_pair done key r)) ∷ position (suc i) ∷ []) s)) →
      Costs 5 s 10 (then_value (meaning.each_values spec l m env (with_pair done key r) ps) (λ d. gives (gathered (is_map w) d)))
      (core.core k (map_on ty span) (turning body (u ∷ b ∷ p ∷ st ∷ w ∷ vs)) (r ∷ el ∷ key ∷ array (values_of_pairs done) ∷ position i ∷ u ∷ b ∷ p
      ∷ st ∷ w ∷ vs) s)
  map_on_cost m env ty span body r el key u b p st w vs n i done no_pairs s len lt left g go =
      known_cost {b = 9} (omega arith) (subst (λ xs. Costs 5 s 9 (gives (gathered (is_map w) (with_pair done key r)))
      (core.core k (map_next span) (turning body (u ∷ b ∷ p ∷ st ∷ w ∷ vs)) (array xs ∷ r ∷ el ∷ key ∷ array (values_of_pairs done) ∷ position i
      ∷ u ∷ b ∷ p ∷ st ∷ w ∷ vs) s)) (values_on done key r)
      (step_cost {b = 8} (next_at w i span) (position (suc i)) _ _ (next_given w n i span len lt) (omega arith)
      (step_cost {b = 7} (has_at w (suc i) span) (boolean false) _ _ (has_given w n (suc i) false span len left) (omega arith)
      (spent {b = 6} (omega arith) (subst (λ o. Costs 5 s 6 (gives (gathered (is_map w) (with_pair done key r)))
      (tick (then_parse o (λ v. parsed v s)))) (sym (gathered_all w (with_pair done key r) g))
      (performs (gives (gathered (is_map w) (with_pair done key r))) (omega arith)))))))
  map_on_cost m env ty span body r el key u b p st w vs n i done (pair key' el' ps) s len lt left g go =
      known_cost {b = 9} (omega arith) (subst (λ xs. Costs 5 s 9
      (then_value (l.each_value m env (with_pair done key r) key' el' ps) (λ d. gives (gathered (is_map w) d)))
      (core.core k (map_next span) (turning body (u ∷ b ∷ p ∷ st ∷ w ∷ vs)) (array xs ∷ r ∷ el ∷ key ∷ array (values_of_pairs done) ∷ position i
      ∷ u ∷ b ∷ p ∷ st ∷ w ∷ vs) s)) (values_on done key r)
      (step_cost {b = 8} (next_at w i span) (position (suc i)) _ _ (next_given w n i span len lt) (omega arith)
      (step_cost {b = 7} (has_at w (suc i) span) (boolean true) _ _ (has_given w n (suc i) true span len left.0) (omega arith)
      (spent {b = 6} (omega arith) (costs_more (omega arith) (go key' el' ps left g))))))

  pub map_on_paid : (m : Each) (env : Env) (ty : Ty) (span : Span) (body : c.Form) (r el key u b p st w : Value) (vs : List Value) (n i : ℕ)
      (done ps : Pairs) (s : Stream) → m.over_map ≡ is_map w → elements_count w ≡ gives n → nat_lt i n ≡ true → Left w n (suc i) ps
      → Gathers w (with_pair done key r) ps →
      ((key' el' : Value) (rest : Pairs) → Left w n (suc i) (pair key' el' rest) → Gathers w (with_pair done key r) (pair key' el' rest) →
      Paid 0 2 0 (l.each m env (with_pair done key r) key' el' rest s)
      (k.turn body (u ∷ b ∷ p ∷ st ∷ w ∷ vs) (array (values_of_pairs (with_pair done key r)) ∷ position (suc i) ∷ []) s)) →
      Paid 0 0 5 (meaning.eaches spec l m env (with_pair done key r) ps s)
      (core.core k (map_on ty span) (turning body (u ∷ b ∷ p ∷ st ∷ w ∷ vs)) (r ∷ el ∷ key ∷ array (values_of_pairs done) ∷ position i ∷ u ∷ b ∷ p
      ∷ st ∷ w ∷ vs) s)
  map_on_paid m env ty span body r el key u b p st w vs n i done no_pairs s over_is len lt left g go =
      known_paid {b = 4} (omega arith) (subst (λ xs. Paid 0 0 4 (parsed (gathered m.over_map (with_pair done key r)) s)
      (core.core k (map_next span) (turning body (u ∷ b ∷ p ∷ st ∷ w ∷ vs)) (array xs ∷ r ∷ el ∷ key ∷ array (values_of_pairs done) ∷ position i
      ∷ u ∷ b ∷ p ∷ st ∷ w ∷ vs) s)) (values_on done key r)
      (step_paid {b = 3} (next_at w i span) (position (suc i)) _ _ (next_given w n i span len lt) (omega arith)
      (step_paid {b = 2} (has_at w (suc i) span) (boolean false) _ _ (has_given w n (suc i) false span len left) (omega arith)
      (spend {b = 1} (omega arith) (subst (λ t. Paid 0 0 1 (parsed (gathered t (with_pair done key r)) s)
      (tick (then_parse (applied c.gather (value w (value (array (values_of_pairs (with_pair done key r))) no_values)) span) (λ v. parsed v s))))
      (sym over_is)
      (subst (λ o. Paid 0 0 1 (parsed (gathered (is_map w) (with_pair done key r)) s) (tick (then_parse o (λ v. parsed v s))))
      (sym (gathered_all w (with_pair done key r) g)) (spend {b = 0} (omega arith) (at_parse {b = 0} (omega arith) (at_end (omega arith))))))))))
  map_on_paid m env ty span body r el key u b p st w vs n i done (pair key' el' ps) s over_is len lt left g go =
      known_paid {b = 4} (omega arith) (subst (λ xs. Paid 0 0 4 (l.each m env (with_pair done key r) key' el' ps s)
      (core.core k (map_next span) (turning body (u ∷ b ∷ p ∷ st ∷ w ∷ vs)) (array xs ∷ r ∷ el ∷ key ∷ array (values_of_pairs done) ∷ position i
      ∷ u ∷ b ∷ p ∷ st ∷ w ∷ vs) s)) (values_on done key r)
      (step_paid {b = 3} (next_at w i span) (position (suc i)) _ _ (next_given w n i span len lt) (omega arith)
      (step_paid {b = 2} (has_at w (suc i) span) (boolean true) _ _ (has_given w n (suc i) true span len left.0) (omega arith)
      (spend {b = 1} (omega arith) (more_paid (omega arith) (fewer (omega arith) (omega arith) (go key' el' ps left g)))))))
