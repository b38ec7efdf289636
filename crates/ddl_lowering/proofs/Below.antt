-- What calls and turns cost at a depth.
use Rattle.std.proofs.Common.{◌≡◌, ℕ, Bool, true, false, List, [], ◌∷◌, Some, None}
use Rattle.std.specs.Prelude.{◌-◌, max, pos}
use Rattle.ddl_base.specs.declared.span.Span.{Span}
use Rattle.ddl_types.specs.declared.num.NumType.{NumType}
use Rattle.ddl_types.specs.Types.{Ty}
use Rattle.ddl_types.specs.Value.{Value, Values, Pairs, Stream, number, array, pair}
use Rattle.ddl_typed.specs.declared.parts.Binder.{Binder}
use Rattle.ddl_typed.specs.declared.parts.Choice.{Choice}
use Rattle.ddl_ops.specs.declared.pattern.Pattern.{Pattern}
use Rattle.ddl_ops.specs.Valued.{gives, then_value}
use Rattle.ddl_ops.specs.Arrays.{size}
use Rattle.ddl_ops.proofs.Paid.{Paid, Costs}
use Rattle.ddl_typed.specs.Tree.{Expr, Bounds, Spec, unbounded, exactly, from_, up_to, between}
use Rattle.ddl_typed.specs.Env.{Env}
use Rattle.ddl_typed.specs.Lower as typed
use Rattle.ddl_typed.specs.Repetition.{Limits, limits_between}
use Rattle.ddl_typed.specs.Loops.{is_map, values_of_pairs, gathered}
use Rattle.ddl_typed.specs.Meaning.{form_at}
use Rattle.ddl_mono.specs.Copies.{Scope}
use Rattle.ddl_mono.specs.IsMono as mono
use Rattle.ddl_core.specs.Meaning as core
use Rattle.ddl_core.specs.Operations.{position, elements_count}
use Rattle.ddl_lowering.specs.PartTypes.{type_of}
use Rattle.ddl_lowering.specs.Loops.{for_scope, map_scope, for_turn, map_turn}
use Rattle.ddl_lowering.specs.Repetitions.{turns, state_scope}
use Rattle.ddl_lowering.specs.Lowered.{valued, lowered}
use Rattle.ddl_lowering.proofs.Positions.{Left, Gathers}
use Rattle.ddl_lowering.proofs.Variables.{Zip, scope, values, Matches}

-- where a repetition stands: its limits, and the values of the turns' state
pub data State : Bounds → Limits → Values → List Value → Type 0 where
  free : {xs : Values} → State unbounded (limits_between 0 None) xs (array xs ∷ [])
  exact : {a : Expr} {xs : Values} (ty : NumType) (n m : ℕ) → m ≡ n - size xs
      → State (exactly a) (limits_between n (Some n)) xs (array xs ∷ number ty (pos m) ∷ [])
  lowest : {a : Expr} {xs : Values} (ty : NumType) (n m : ℕ) → m ≡ n - size xs → State (from_ a) (limits_between n None) xs (array xs ∷ number ty (pos m) ∷ [])
  highest : {b : Expr} {xs : Values} (ty : NumType) (n m : ℕ) → m ≡ n - size xs
      → State (up_to b) (limits_between 0 (Some n)) xs (array xs ∷ number ty (pos m) ∷ [])
  both_limits : {a b : Expr} {xs : Values} (ty sy : NumType) (low high m n : ℕ) → m ≡ low - size xs → n ≡ max high low - size xs
      → State (between a b) (limits_between low (Some high)) xs (array xs ∷ number ty (pos m) ∷ number sy (pos n) ∷ [])

-- what calls and turns cost
pub record LowerCosts (spec : Spec) (params : ℕ → Scope) (is_value : ℕ → Bool) (within : Pattern → Ty → Ty) (l : typed.Lower) (k : core.Lower) : Type 0 where
  pub val : (f : ℕ) (e : Expr) (z : Zip) (env : Env) (s : Stream) → form_at spec.decls f ≡ Some e → is_value f ≡ true → scope z ≡ params f
      → Matches z env → Costs 5 s 0 (l.val e env) (k.call f (values z) s)
  pub den : (f : ℕ) (e : Expr) (z : Zip) (env : Env) (s : Stream) → form_at spec.decls f ≡ Some e → is_value f ≡ false → scope z ≡ params f
      → Matches z env → Paid 5 2 0 (l.den e env s) (k.call f (values z) s)
  pub repeat : (q : Choice) (b : Bounds) (e : Expr) (ty : Ty) (span : Span) (lim : Limits) (env : Env) (z : Zip) (xs : Values) (us : List Value)
      (s : Stream) → mono.IsGrammar spec params is_value e → Matches z env → State b lim xs us →
      Paid 0 2 0 (l.repeat (record { choice = q; limits = lim; body = e }) env xs s)
      (k.turn (turns q b (lowered spec.bits within e (state_scope b (scope z))) (type_of e) ty span) (values z) us s)
  pub fold_value : (x : ℕ) (names : Binder) (e : Expr) (ov ty : Ty) (span : Span) (env : Env) (z : Zip) (u b p w st : Value) (n i : ℕ)
      (acc key el : Value) (ps : Pairs) (s : Stream) → mono.IsValue spec params is_value e → Matches z env → elements_count w ≡ gives n
      → Left w n i (pair key el ps) →
      Costs 5 s 0 (l.fold_value (record { result = x; names = names; body = e }) env acc key el ps)
      (k.turn (for_turn ov ty (valued spec.bits within e (for_scope x names (scope z))) span) (u ∷ b ∷ p ∷ w ∷ st ∷ values z) (acc ∷ position i ∷ []) s)
  pub fold : (x : ℕ) (names : Binder) (e : Expr) (ov ty : Ty) (span : Span) (env : Env) (z : Zip) (u b p w st : Value) (n i : ℕ) (acc key el : Value)
      (ps : Pairs) (s : Stream) → mono.IsGrammar spec params is_value e → Matches z env → elements_count w ≡ gives n → Left w n i (pair key el ps) →
      Paid 0 2 0 (l.fold (record { result = x; names = names; body = e }) env acc key el ps s)
      (k.turn (for_turn ov ty (lowered spec.bits within e (for_scope x names (scope z))) span) (u ∷ b ∷ p ∷ w ∷ st ∷ values z) (acc ∷ position i ∷ []) s)
  pub each_value : (names : Binder) (e : Expr) (ov ty inner : Ty) (span : Span) (env : Env) (z : Zip) (u b p st w : Value) (n i : ℕ) (done : Pairs)
      (key el : Value) (ps : Pairs) (s : Stream) → mono.IsValue spec params is_value e → Matches z env → elements_count w ≡ gives n
      → Left w n i (pair key el ps) → Gathers w done (pair key el ps) →
      Costs 5 s 0 (then_value (l.each_value (record { names = names; body = e; over_map = is_map w }) env done key el ps) (λ d.
      gives (gathered (is_map w) d))) (k.turn (map_turn ov ty inner (valued spec.bits within e (map_scope names (scope z))) span)
      (u ∷ b ∷ p ∷ st ∷ w ∷ values z) (array (values_of_pairs done) ∷ position i ∷ []) s)
  pub each : (names : Binder) (e : Expr) (ov ty inner : Ty) (span : Span) (env : Env) (z : Zip) (u b p st w : Value) (n i : ℕ) (done : Pairs)
      (key el : Value) (ps : Pairs) (s : Stream) → mono.IsGrammar spec params is_value e → Matches z env → elements_count w ≡ gives n
      → Left w n i (pair key el ps) → Gathers w done (pair key el ps) →
      Paid 0 2 0 (l.each (record { names = names; body = e; over_map = is_map w }) env done key el ps s)
      (k.turn (map_turn ov ty inner (lowered spec.bits within e (map_scope names (scope z))) span) (u ∷ b ∷ p ∷ st ∷ w ∷ values z)
      (array (values_of_pairs done) ∷ position i ∷ []) s)
