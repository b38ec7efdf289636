-- Names that are handed on to grammars, choices, and the value of a block.
use Rattle.std.proofs.Common.{◌≡◌, ℕ, ◌+◌, ◌≤◌, Bool, true, false, if◌then◌else◌, List, [], ◌∷◌, Option, Some, None, subst, sym, ◌∙◌, arith, rules}
use Rattle.ddl_base.specs.declared.span.Span.{Span}
use Rattle.ddl_types.specs.Types.{Ty}
use Rattle.ddl_types.specs.Value.{Value, Stream, unit}
use Rattle.ddl_types.specs.Value as vs
use Rattle.ddl_types.specs.Outcome.{Outcome, Stuck, ends, tick, parsed}
use Rattle.ddl_typed.specs.declared.parts.Choice.{Choice}
use Rattle.ddl_typed.specs.declared.parts.Choice.TheVariants as C
use Rattle.ddl_ops.specs.declared.pattern.Pattern.{Pattern}
use Rattle.ddl_ops.specs.Valued.{gives, given, then_value, then_parse}
use Rattle.ddl_ops.specs.Records.{record_of}
use Rattle.ddl_ops.proofs.Paid.{Paid, spend, at_stuck, more as more_paid, fewer, keep, both_paid, bind_paid, exit_paid}
use Rattle.ddl_typed.specs.Tree.{Name, Spec}
use Rattle.ddl_typed.specs.Env.{Env, named_in}
use Rattle.ddl_typed.specs.Lower as typed
use Rattle.ddl_typed.specs.Blocks.{result_or, fields_or}
use Rattle.ddl_mono.specs.Copies.{Scope}
use Rattle.ddl_core.specs.Core as c
use Rattle.ddl_core.specs.Meaning.{all_at, listed, Current, outside}
use Rattle.ddl_core.specs.Meaning as core
use Rattle.ddl_core.specs.Operations.{named_fields, performed}
use Rattle.ddl_lowering.specs.Scopes.{has_name}
use Rattle.ddl_lowering.specs.Choices.{wrong, choice}
use Rattle.ddl_lowering.specs.Parts.{last_form, record_form, result_form}
use Rattle.ddl_lowering.proofs.Tried.{tried, attempt_paid}
use Rattle.ddl_lowering.proofs.Variables.{Zip, scope, values, look, Matches, is_there, not_there}
use Rattle.ddl_lowering.proofs.Steps.{one_parse}
use Rattle.ddl_lowering.proofs.Shown.{ShownResult, ShownLast, record_named}
use Rattle.ddl_lowering.proofs.Below.{LowerCosts}

module _ {spec : Spec} {params : ℕ → Scope} {is_value : ℕ → Bool} {within : Pattern → Ty
    → Ty} {l : typed.Lower} {k : core.Lower} (h : LowerCosts spec params is_value within l k) where
  pub hand_paid : (b : Bool) (here : Name) (env : Env) (z : Zip) (s : Stream) → has_name (scope z) here ≡ b → Matches z env
      → (rest : Value → Outcome) (g : c.Form) (cur : Current) (span : Span) →
      ((v : Value) → look z here ≡ Some v → Paid 5 2 8 (rest v) (core.core k g cur (values z) s))
      → Paid 5 2 8 (then_parse (given (named_in env here)) rest) (core.core k (if b then g else wrong span) cur (values z) s)
  hand_paid true here env z s e m rest g cur span r =
      let w = is_there z here e in subst (λ o. Paid 5 2 8 (then_parse (given o) rest) (core.core k g cur (values z) s)) (sym (m.by here ∙ w.is))
      (r w.value w.is)
  hand_paid false here env z s e m rest g cur span r =
      subst (λ o. Paid 5 2 8 (then_parse (given o) rest) (tick (ends Stuck))) (sym (m.by here ∙ not_there z here e))
      (spend {b = 7} (omega arith) at_stuck)

  pub tried_paid : (q : Choice) (inner : Ty) (g kk r : c.Form) (cur : Current) (env : List Value) (s : Stream) {o stop : Outcome} (rest : Value
      → Stream → Outcome) (b : ℕ) {e' a : ℕ} → b + 1 ≤ a → Paid 5 2 0 o (core.core k g outside env s) →
      ((v : Value) (t : Stream) → Paid e' 0 4 (rest v t) (core.core k kk cur (v ∷ env) t)) → Paid e' 2 (2 + b) stop (core.core k r cur env s)
      → Paid e' 2 a (tried q o rest stop) (core.core k (choice q inner g kk r) cur env s)
  tried_paid C.Biased inner g kk r cur env s rest b n d next stop =
      spend {b = b} n (attempt_paid {g = 2 + b} rest _ (omega arith) (more_paid (omega arith) (keep b (exit_paid {e = 4} d))) next stop)
  tried_paid C.Unbiased inner g kk r cur env s rest b n d next stop =
      spend {b = b} n (both_paid {g = 2 + b} (more_paid (omega arith) (keep b (bind_paid {e = 4} rest _ (fewer (omega arith) (omega arith) d) next)))
      stop)

  pub last_paid : (o : Option ℕ) (env : List Value) (v : Value) (span : Span) (cur : Current) (s : Stream) {f a : ℕ} → ShownLast o env v → f + 1 ≤ a
      → Paid 0 f a (parsed v s) (core.core k (last_form o span) cur env s)
  last_paid None env v span cur s {f = f} {a = a} e n =
      subst (λ z. Paid 0 f a (parsed z s) (tick (parsed unit s))) (sym e) (one_parse unit s (omega (arith, n)))
  last_paid (Some i) env v span cur s {f = f} {a = a} e n =
      subst (λ z. Paid 0 f a (parsed v s) (tick (then_parse (given z) (λ u. parsed u s)))) (sym e) (one_parse v s (omega (arith, n)))

  pub record_paid : (labels : List (List ℕ)) (fs : List ℕ) (o : Option ℕ) (env : List Value) (have : List Value) (those_fields : vs.Fields)
      (v : Value) (span : Span) (cur : Current) (s : Stream) {f a : ℕ} → all_at env fs ≡ gives have
      → named_fields labels (listed have) ≡ gives those_fields → ShownLast o env v → f + 1 ≤ a →
      Paid 0 f a (parsed (fields_or those_fields v) s) (core.core k (record_form labels fs o span) cur env s)
  record_paid [] fs o env [] those_fields v span cur s {f = f} {a = a} e g h n =
      let q : vs.no_fields ≡ those_fields = cc in
      subst (λ z. Paid 0 f a (parsed (fields_or z v) s) (core.core k (last_form o span) cur env s)) q (last_paid o env v span cur s h n)
  record_paid [] fs o env (u ∷ us) those_fields v span cur s e g h n = absurd (search (rules, g))
  record_paid (label ∷ labels) fs o env have those_fields v span cur s {f = f} {a = a} e g h n =
      subst (λ z. Paid 0 f a (parsed (fields_or those_fields v) s)
      (tick (then_parse z (λ us. performed (c.record_ (label ∷ labels)) (listed us) span s)))) (sym e)
      (subst (λ z. Paid 0 f a (parsed (fields_or those_fields v) s) (tick (then_parse (then_value z (λ gs. gives (record_of gs))) (λ u. parsed u s)))) (sym g)
      (subst (λ z. Paid 0 f a (parsed (fields_or those_fields v) s) (tick (parsed z s)))
      (sym (record_named label labels (listed have) those_fields v g)) (one_parse (fields_or those_fields v) s (omega (arith, n)))))

  pub built_paid : (r : Option ℕ) (wr : Option Value) (labels : List (List ℕ)) (fs : List ℕ) (o : Option ℕ) (env : List Value) (have : List Value)
      (those_fields : vs.Fields) (v : Value) (span : Span) (cur : Current) (s : Stream) {f a : ℕ} →
      ShownResult r env wr → all_at env fs ≡ gives have → named_fields labels (listed have) ≡ gives those_fields → ShownLast o env v → f + 1 ≤ a
      → Paid 0 f a (parsed (result_or wr those_fields v) s) (core.core k (result_form r labels fs o span) cur env s)
  built_paid None None labels fs o env have those_fields v span cur s m e g h n = record_paid labels fs o env have those_fields v span cur s e g h n
  built_paid None (Some u) labels fs o env have those_fields v span cur s m e g h n = absurd m
  built_paid (Some i) None labels fs o env have those_fields v span cur s m e g h n = absurd m
  built_paid (Some i) (Some u) labels fs o env have those_fields v span cur s {f = f} {a = a} m e g h n =
      subst (λ z. Paid 0 f a (parsed u s) (tick (then_parse (given z) (λ u. parsed u s)))) (sym m) (one_parse u s (omega (arith, n)))
