-- A turn of `Many` costs what it pays.
use Rattle.std.proofs.Common.{◌≡◌, ℕ, ◌+◌, ◌≤◌, Bool, true, false, if◌then◌else◌, List, [], ◌∷◌, ◌++◌, Some, None, refl, subst, sym, arith}
use Rattle.std.specs.Prelude.{◌-◌, max, pos}
use Rattle.ddl_base.specs.declared.span.Span.{Span}
use Rattle.ddl_types.specs.declared.num.NumType.{NumType}
use Rattle.ddl_types.specs.Types.{Ty}
use Rattle.ddl_types.specs.Value.{Value, Values, Stream, number, unit, array}
use Rattle.ddl_types.specs.Outcome.{Outcome, End, ends, tick, parsed}
use Rattle.ddl_types.specs.Joining.{Bind}
use Rattle.ddl_ops.specs.declared.pattern.Pattern.TheVariants as P
use Rattle.ddl_typed.specs.declared.parts.Choice.{Choice}
use Rattle.ddl_ops.specs.declared.pattern.Pattern.{Pattern}
use Rattle.ddl_ops.specs.Valued.{given, then_parse}
use Rattle.ddl_ops.specs.Patterns.{outcome_at, by_test}
use Rattle.ddl_ops.specs.Arrays.{snoc, size}
use Rattle.ddl_ops.proofs.Paid.{Paid, pay, spend, at_end, more as more_paid, fewer, keep, bind_paid}
use Rattle.ddl_typed.specs.Tree.{Expr, Bounds, Spec, unbounded, exactly, from_, up_to, between}
use Rattle.ddl_typed.specs.Env.{Env}
use Rattle.ddl_typed.specs.Lower as typed
use Rattle.ddl_typed.specs.Choices.{or_nothing}
use Rattle.ddl_typed.specs.Repetition.{Limits, limits_between, is_below, is_full}
use Rattle.ddl_typed.specs.Meaning.{den, repeat_turn, on_or_stop}
use Rattle.ddl_mono.specs.Copies.{Scope}
use Rattle.ddl_mono.specs.IsMono as mono
use Rattle.ddl_core.specs.Core as c
use Rattle.ddl_core.specs.Meaning.{at, Current, outside, turning}
use Rattle.ddl_core.specs.Meaning as core
use Rattle.ddl_lowering.specs.PartTypes.{type_of, unit_type}
use Rattle.ddl_lowering.specs.Choices.{at_zero, choice}
use Rattle.ddl_lowering.specs.Repetitions.{push_on, push_count, push_counts, turns, state_scope}
use Rattle.ddl_lowering.specs.Lowered.{lowered}
use Rattle.ddl_lowering.proofs.Tried.{chosen_law, alone_law}
use Rattle.ddl_lowering.proofs.Falling.{Count, at_none, at_some, count_is, falls, wanted, unwanted, allowed, forbidden, top_wanted, top_forbidden, top_allowed}
use Rattle.ddl_lowering.proofs.Falling.{below_none}
use Rattle.ddl_lowering.proofs.Variables.{Zip, zip, scope, values, Matches, match_skip}
use Rattle.ddl_lowering.proofs.Steps.{paid_is, known_paid, one_parse}
use Rattle.ddl_lowering.proofs.Below.{State, free, exact, lowest, highest, both_limits, LowerCosts}
use Rattle.ddl_lowering.proofs.Trials.{tried_paid}
use Rattle.ddl_lowering.proofs.GrammarForms.{den_paid}

module _ {spec : Spec} {params : ℕ → Scope} {is_value : ℕ → Bool} {within : Pattern → Ty
    → Ty} {l : typed.Lower} {k : core.Lower} (h : LowerCosts spec params is_value within l k) where
  abbrev IsGrammar : Expr → Type 0
  IsGrammar = mono.IsGrammar spec params is_value

  -- the array where a count is 0, else another form
  pub zero_paid : (x : ℕ) (ty : NumType) (m : ℕ) (other : c.Form) (cur : Current) (env : List Value) (s : Stream) (u : Value) {e f a : ℕ} (b : ℕ)
      (o : Outcome) → at env x ≡ Some (number ty (pos m)) → at env 0 ≡ Some u → b + 1 ≤ a → Count m →
      (m ≡ 0 → Paid e f b o (tick (parsed u s))) → ((m ≡ 0 → ⊥) → Paid e f b o (core.core k other cur env s))
      → Paid e f a o (core.core k (at_zero x other) cur env s)
  zero_paid x ty m other cur env s u {e = e} {f = f} b o is first_is n count stop go =
      spend {b = b} n (subst (λ y. Paid e f b o (then_parse (given y) (λ v.
      core.core_case k (c.when (P.Number 0) unit_type (c.give 1) c.none_left) v cur env s (core.core k other cur env s)))) (sym is)
      (by_count m count stop go))
    where
      by_count : (m : ℕ) → Count m → (m ≡ 0 → Paid e f b o (tick (parsed u s))) → ((m ≡ 0 → ⊥) → Paid e f b o (core.core k other cur env s)) →
          Paid e f b o (core.core_case k (c.when (P.Number 0) unit_type (c.give 1) c.none_left) (number ty (pos m)) cur env s (core.core k other cur env s))
      by_count _ at_none stop go = subst (λ y. Paid e f b o (tick (then_parse (given y) (λ v. parsed v s)))) (sym first_is) (stop refl)
      by_count m (at_some un ne) stop go = subst (λ t. Paid e f b o
          (outcome_at (by_test t unit) (λ w. core.core k (c.give 1) cur (w ∷ env) s) (core.core k other cur env s))) (sym un) (go ne)

  -- a turn by its tests
  abbrev pub Turn : Choice → Limits → Expr → Env → Values → Stream → Bool → Bool → Outcome
  Turn q lim e env xs s below full = tick (
      if below then Bind (den spec l e env s) (λ v t. l.repeat (record { choice = q; limits = lim; body = e }) env (snoc xs v) t)
      else (if full then parsed (array xs) s else Bind (or_nothing q (den spec l e env s) s)
      (on_or_stop spec l (record { choice = q; limits = lim; body = e }) env xs)))

  pub by_tests : (q : Choice) (lim : Limits) (e : Expr) (env : Env) (xs : Values) (s : Stream) (below full : Bool) {a b d : ℕ} {p : Outcome}
      → is_below lim xs ≡ below → is_full lim xs ≡ full → Paid a b d (Turn q lim e env xs s below full) p →
      Paid a b d (repeat_turn spec l (record { choice = q; limits = lim; body = e }) env xs s) p
  by_tests q lim e env xs s below full {a = a} {b = b} {d = d} {p = p} is are r =
      subst (λ x. Paid a b d (Turn q lim e env xs s x (is_full lim xs)) p) (sym is) (subst (λ x. Paid a b d (Turn q lim e env xs s below x) p) (sym are) r)

  -- what follows a parse of the body
  pub pushed_on : (q : Choice) (e : Expr) (ty : Ty) (span : Span) (env : Env) (z : Zip) (xs : Values) → IsGrammar e → Matches z env → (v : Value) (t : Stream) →
      Paid 0 0 4 (l.repeat (record { choice = q; limits = limits_between 0 None; body = e }) env (snoc xs v) t)
      (core.core k (push_on ty span) (turning (turns q unbounded (lowered spec.bits within e (state_scope unbounded (scope z))) (type_of e) ty span)
      (values z)) (v ∷ array xs ∷ values z) t)
  pushed_on q e ty span env z xs ok m v t =
      known_paid {b = 3} (omega arith) (more_paid (omega arith)
      (fewer (omega arith) (omega arith) (h.repeat q unbounded e ty span _ env z (snoc xs v) _ t ok m free)))

  pub pushed_count : (q : Choice) (bs : Bounds) (e : Expr) (ty : Ty) (span : Span) (lim : Limits) (env : Env) (z : Zip) (xs : Values) (nt : NumType)
      (c : ℕ) → IsGrammar e → Matches z env → (v : Value) (t : Stream) →
      State bs lim (snoc xs v) (array (snoc xs v) ∷ number nt (pos (c - 1)) ∷ [])
      → Paid 0 0 4 (l.repeat (record { choice = q; limits = lim; body = e }) env (snoc xs v) t)
      (core.core k (push_count ty span) (turning (turns q bs (lowered spec.bits within e (state_scope bs (scope z))) (type_of e) ty span) (values z))
      (v ∷ array xs ∷ number nt (pos c) ∷ values z) t)
  pushed_count q bs e ty span lim env z xs nt c ok m v t st =
      known_paid {b = 3} (omega arith) (known_paid {b = 2} (omega arith)
      (more_paid (omega arith) (fewer (omega arith) (omega arith) (h.repeat q bs e ty span lim env z (snoc xs v) _ t ok m st))))

  pub pushed_counts : (q : Choice) (bs : Bounds) (e : Expr) (ty : Ty) (span : Span) (lim : Limits) (env : Env) (z : Zip) (xs : Values)
      (nt ht : NumType) (c d : ℕ) → IsGrammar e → Matches z env → (v : Value) (t : Stream) →
      State bs lim (snoc xs v) (array (snoc xs v) ∷ number nt (pos (c - 1)) ∷ number ht (pos (d - 1)) ∷ [])
      → Paid 0 0 4 (l.repeat (record { choice = q; limits = lim; body = e }) env (snoc xs v) t)
      (core.core k (push_counts ty span) (turning (turns q bs (lowered spec.bits within e (state_scope bs (scope z))) (type_of e) ty span) (values z))
      (v ∷ array xs ∷ number nt (pos c) ∷ number ht (pos d) ∷ values z) t)
  pushed_counts q bs e ty span lim env z xs nt ht c d ok m v t st =
      known_paid {b = 3} (omega arith) (known_paid {b = 2} (omega arith)
      (known_paid {b = 1} (omega arith)
      (more_paid (omega arith) (fewer (omega arith) (omega arith) (h.repeat q bs e ty span lim env z (snoc xs v) _ t ok m st)))))

  -- the end of a turn that may stop where no more are wanted
  pub stop_paid : (x : Value) (nt : NumType) (m : ℕ) (cur : Current) (rest : List Value) (s : Stream) {b : ℕ} → m ≡ 0 → 6 ≤ b
      → Paid 0 2 b (parsed x s) (core.core k (at_zero 1 c.none) cur (x ∷ number nt (pos m) ∷ rest) s)
  stop_paid x nt m cur rest s e n = zero_paid 1 nt m c.none cur (x ∷ number nt (pos m) ∷ rest) s x 5 (parsed x s) refl refl (omega (arith, n))
      (count_is m) (λ f. one_parse x s (omega arith)) (λ f. absurd (f e))

  pub go_paid : (x : Value) (nt : NumType) (m : ℕ) (cur : Current) (rest : List Value) (s : Stream) {b : ℕ} → (m ≡ 0 → ⊥) → 6 ≤ b
      → Paid 0 2 b (ends End) (core.core k (at_zero 1 c.none) cur (x ∷ number nt (pos m) ∷ rest) s)
  go_paid x nt m cur rest s e n = zero_paid 1 nt m c.none cur (x ∷ number nt (pos m) ∷ rest) s x 5 (ends End) refl refl (omega (arith, n))
      (count_is m) (λ f. absurd (e f)) (λ f. spend {b = 4} (omega arith) (at_end (omega arith)))

  abbrev pub next_turn : Choice → Limits → Expr → Env → Values → Value → Stream → Outcome
  next_turn q lim e env xs v t = l.repeat (record { choice = q; limits = lim; body = e }) env (snoc xs v) t

  abbrev pub in_turn : Choice → Bounds → Expr → Ty → Span → Zip → Current
  in_turn q b e ty span z = turning (turns q b (lowered spec.bits within e (state_scope b (scope z))) (type_of e) ty span) (values z)

  -- what stands on the right of a choice in a turn that must go on
  abbrev pub or_none : c.Form
  or_none = at_zero 1 c.none

  abbrev pub or_array : c.Form
  or_array = c.give 0

  abbrev pub exact_other : Expr → Expr → Ty → Span → Zip → c.Form
  exact_other a e ty span z = c.bind (type_of e) (lowered spec.bits within e (state_scope (exactly a) (scope z))) (push_count ty span)

  abbrev pub highest_other : Choice → Expr → Expr → Ty → Span → Zip → c.Form
  highest_other q a e ty span z = choice q (type_of e) (lowered spec.bits within e (state_scope (up_to a) (scope z))) (push_count ty span) (c.give 0)

  abbrev pub between_other : Choice → Expr → Expr → Expr → Ty → Span → Zip → c.Form
  between_other q a b e ty span z = choice q (type_of e) (lowered spec.bits within e (state_scope (between a b) (scope z))) (push_counts ty span)
      (at_zero 1 c.none)

  pub turn_paid : (q : Choice) (b : Bounds) (e : Expr) (ty : Ty) (span : Span) (lim : Limits) (env : Env) (z : Zip) (xs : Values) (us : List Value)
      (s : Stream) → IsGrammar e → Matches z env → State b lim xs us →
      Paid 0 2 0 (repeat_turn spec l (record { choice = q; limits = lim; body = e }) env xs s)
      (tick (core.core k (turns q b (lowered spec.bits within e (state_scope b (scope z))) (type_of e) ty span)
      (turning (turns q b (lowered spec.bits within e (state_scope b (scope z))) (type_of e) ty span) (values z)) (us ++ values z) s))
  turn_paid q unbounded e ty span lim env z xs us s ok m free =
      by_tests q _ e env xs s false false (below_none (size xs)) refl (pay {b = 8} (omega arith) (spend {b = 7} (omega arith)
      (paid_is ((chosen_law q (den spec l e env s) s (on_or_stop spec l (record { choice = q; limits = (limits_between 0 None); body = e }) env xs)))
      (tried_paid h q (type_of e) (lowered spec.bits within e (state_scope unbounded (scope z))) (push_on ty span) or_array (in_turn q unbounded e ty span z)
      (array xs ∷ values z) s (next_turn q (limits_between 0 None) e env xs) 6 (omega arith)
      (den_paid h e env (zip None (array xs) z) outside s ok (match_skip _ m)) (pushed_on q e ty span env z xs ok m)
      (one_parse (array xs) s (omega arith))))))
  turn_paid q (exactly a) e ty span lim env z xs us s ok m (exact nt n c is) = by_count c is (count_is c)
    where
      lim' : Limits
      lim' = limits_between n (Some n)

      by_count : (c : ℕ) → c ≡ n - size xs → Count c → Paid 0 2 0 (repeat_turn spec l (record { choice = q; limits = lim'; body = e }) env xs s)
          (tick (core.core k (turns q (exactly a) (lowered spec.bits within e (state_scope (exactly a) (scope z))) (type_of e) ty span)
          (turning (turns q (exactly a) (lowered spec.bits within e (state_scope (exactly a) (scope z))) (type_of e) ty span) (values z))
          (array xs ∷ number nt (pos c) ∷ values z) s))
      by_count _ is at_none =
          by_tests q (limits_between n (Some n)) e env xs s false true (unwanted n (size xs) is) (forbidden n (size xs) is)
          (pay {b = 8} (omega arith) (spend {b = 7} (omega arith)
          (zero_paid 1 nt 0 (exact_other a e ty span z) (in_turn q (exactly a) e ty span z) (array xs ∷ number nt (pos 0) ∷ values z) s (array xs) 6
          (parsed (array xs) s) refl refl (omega arith) at_none (λ f. one_parse (array xs) s (omega arith)) (λ f. absurd (f refl)))))
      by_count c is (at_some un ne) =
          by_tests q (limits_between n (Some n)) e env xs s true (is_full (limits_between n (Some n)) xs) (wanted n (size xs) c is ne) refl
          (pay {b = 8} (omega arith) (spend {b = 7} (omega arith)
          (zero_paid 1 nt c (exact_other a e ty span z) (in_turn q (exactly a) e ty span z) (array xs ∷ number nt (pos c) ∷ values z) s (array xs) 6
          (Bind (den spec l e env s) (next_turn q (limits_between n (Some n)) e env xs)) refl refl (omega arith) (at_some un ne) (λ f.
          absurd (ne f))
          (λ f. fewer {f = 8} (omega arith) (omega arith) (bind_paid {e = 4} (next_turn q (limits_between n (Some n)) e env xs) (λ v t.
          core.core k (push_count ty span) (in_turn q (exactly a) e ty span z) (v ∷ array xs ∷ number nt (pos c) ∷ values z) t)
          (more_paid (omega arith) (fewer {e = 5} (omega arith) (omega arith)
          (keep 6 (den_paid h e env (zip None (array xs) (zip None (number nt (pos c)) z)) outside s ok (match_skip _ (match_skip _ m))))))
          (λ v t. pushed_count q (exactly a) e ty span (limits_between n (Some n)) env z xs nt c ok m v t (exact nt n (c - 1) (falls n c xs v is))))))))
  turn_paid q (from_ a) e ty span lim env z xs us s ok m (lowest nt n c is) = by_count c is (count_is c)
    where
      by_count : (c : ℕ) → c ≡ n - size xs → Count c → Paid 0 2 0
          (repeat_turn spec l (record { choice = q; limits = limits_between n None; body = e }) env xs s)
          (tick (core.core k (turns q (from_ a) (lowered spec.bits within e (state_scope (from_ a) (scope z))) (type_of e) ty span)
          (turning (turns q (from_ a) (lowered spec.bits within e (state_scope (from_ a) (scope z))) (type_of e) ty span) (values z))
          (array xs ∷ number nt (pos c) ∷ values z) s))
      by_count _ is at_none =
          by_tests q (limits_between n None) e env xs s false false (unwanted n (size xs) is) refl (pay {b = 8} (omega arith) (spend {b = 7} (omega arith)
          (paid_is ((chosen_law q (den spec l e env s) s (on_or_stop spec l (record { choice = q; limits = (limits_between n None); body = e }) env xs)))
          (tried_paid h q (type_of e) (lowered spec.bits within e (state_scope (from_ a) (scope z))) (push_count ty span) or_none
          (in_turn q (from_ a) e ty span z) (array xs ∷ number nt (pos 0) ∷ values z) s (next_turn q (limits_between n None) e env xs) 6
          (omega arith) (den_paid h e env (zip None (array xs) (zip None (number nt (pos 0)) z)) outside s ok (match_skip _ (match_skip _ m)))
          (λ v t. pushed_count q (from_ a) e ty span (limits_between n None) env z xs nt 0 ok m v t (lowest nt n (0 - 1) (falls n 0 xs v is)))
          (stop_paid (array xs) nt 0 (in_turn q (from_ a) e ty span z) (values z) s refl (omega arith))))))
      by_count c is (at_some un ne) =
          by_tests q (limits_between n None) e env xs s true false (wanted n (size xs) c is ne) refl (pay {b = 8} (omega arith) (spend {b = 7} (omega arith)
          (paid_is ((alone_law q (den spec l e env s) (next_turn q (limits_between n None) e env xs)))
          (tried_paid h q (type_of e) (lowered spec.bits within e (state_scope (from_ a) (scope z))) (push_count ty span) or_none
          (in_turn q (from_ a) e ty span z) (array xs ∷ number nt (pos c) ∷ values z) s (next_turn q (limits_between n None) e env xs) 6
          (omega arith) (den_paid h e env (zip None (array xs) (zip None (number nt (pos c)) z)) outside s ok (match_skip _ (match_skip _ m)))
          (λ v t. pushed_count q (from_ a) e ty span (limits_between n None) env z xs nt c ok m v t (lowest nt n (c - 1) (falls n c xs v is)))
          (go_paid (array xs) nt c (in_turn q (from_ a) e ty span z) (values z) s ne (omega arith))))))
  turn_paid q (up_to a) e ty span lim env z xs us s ok m (highest nt n c is) = by_count c is (count_is c)
    where
      by_count : (c : ℕ) → c ≡ n - size xs → Count c → Paid 0 2 0
          (repeat_turn spec l (record { choice = q; limits = limits_between 0 (Some n); body = e }) env xs s)
          (tick (core.core k (turns q (up_to a) (lowered spec.bits within e (state_scope (up_to a) (scope z))) (type_of e) ty span)
          (turning (turns q (up_to a) (lowered spec.bits within e (state_scope (up_to a) (scope z))) (type_of e) ty span) (values z))
          (array xs ∷ number nt (pos c) ∷ values z) s))
      by_count _ is at_none =
          by_tests q (limits_between 0 (Some n)) e env xs s false true (below_none (size xs)) (forbidden n (size xs) is)
          (pay {b = 8} (omega arith) (spend {b = 7} (omega arith)
          (zero_paid 1 nt 0 (highest_other q a e ty span z) (in_turn q (up_to a) e ty span z) (array xs ∷ number nt (pos 0) ∷ values z) s (array xs) 6
          (parsed (array xs) s) refl refl (omega arith) at_none (λ f. one_parse (array xs) s (omega arith)) (λ f. absurd (f refl)))))
      by_count c is (at_some un ne) =
          by_tests q (limits_between 0 (Some n)) e env xs s false false (below_none (size xs)) (allowed n (size xs) c is ne)
          (pay {b = 8} (omega arith) (spend {b = 7} (omega arith)
          (zero_paid 1 nt c (highest_other q a e ty span z) (in_turn q (up_to a) e ty span z) (array xs ∷ number nt (pos c) ∷ values z) s (array xs) 6
          (Bind (or_nothing q (den spec l e env s) s) (on_or_stop spec l (record { choice = q; limits = (limits_between 0 (Some n)); body = e })
          env xs)) refl refl (omega arith) (at_some un ne) (λ f. absurd (ne f))
          (λ f. paid_is ((chosen_law q (den spec l e env s) s
          (on_or_stop spec l (record { choice = q; limits = (limits_between 0 (Some n)); body = e }) env xs)))
          (tried_paid h q (type_of e) (lowered spec.bits within e (state_scope (up_to a) (scope z))) (push_count ty span) or_array
          (in_turn q (up_to a) e ty span z) (array xs ∷ number nt (pos c) ∷ values z) s (next_turn q (limits_between 0 (Some n)) e env xs) 5
          (omega arith) (den_paid h e env (zip None (array xs) (zip None (number nt (pos c)) z)) outside s ok (match_skip _ (match_skip _ m)))
          (λ v t. pushed_count q (up_to a) e ty span (limits_between 0 (Some n)) env z xs nt c ok m v t (highest nt n (c - 1) (falls n c xs v is)))
          (one_parse (array xs) s (omega arith)))))))
  turn_paid q (between a b) e ty span lim env z xs us s ok m (both_limits nt ht low high c d is are) = by_counts c d is are (count_is c) (count_is d)
    where
      by_counts : (c d : ℕ) → c ≡ low - size xs → d ≡ max high low - size xs → Count c → Count d
          → Paid 0 2 0 (repeat_turn spec l (record { choice = q; limits = limits_between low (Some high); body = e }) env xs s)
          (tick (core.core k (turns q (between a b) (lowered spec.bits within e (state_scope (between a b) (scope z))) (type_of e) ty span)
          (turning (turns q (between a b) (lowered spec.bits within e (state_scope (between a b) (scope z))) (type_of e) ty span) (values z))
          (array xs ∷ number nt (pos c) ∷ number ht (pos d) ∷ values z) s))
      by_counts c _ is are count at_none =
          by_tests q (limits_between low (Some high)) e env xs s false true (top_wanted low high (size xs) are) (top_forbidden low high (size xs) are)
          (pay {b = 8} (omega arith) (spend {b = 7} (omega arith)
          (zero_paid 2 ht 0 (between_other q a b e ty span z) (in_turn q (between a b) e ty span z) (array xs ∷ number nt (pos c) ∷ number ht (pos 0)
          ∷ values z) s (array xs) 6 (parsed (array xs) s) refl refl (omega arith) at_none (λ f. one_parse (array xs) s (omega arith)) (λ f.
          absurd (f refl)))))
      by_counts _ d is are at_none (at_some un ne) =
          by_tests q (limits_between low (Some high)) e env xs s false false (unwanted low (size xs) is) (top_allowed low high (size xs) d are ne is)
          (pay {b = 8} (omega arith) (spend {b = 7} (omega arith)
          (zero_paid 2 ht d (between_other q a b e ty span z) (in_turn q (between a b) e ty span z) (array xs ∷ number nt (pos 0) ∷ number ht (pos d)
          ∷ values z) s (array xs) 6 (Bind (or_nothing q (den spec l e env s) s)
          (on_or_stop spec l (record { choice = q; limits = (limits_between low (Some high)); body = e }) env xs)) refl refl (omega arith)
          (at_some un ne) (λ f. absurd (ne f))
          (λ f. paid_is ((chosen_law q (den spec l e env s) s
          (on_or_stop spec l (record { choice = q; limits = (limits_between low (Some high)); body = e }) env xs)))
          (tried_paid h q (type_of e) (lowered spec.bits within e (state_scope (between a b) (scope z))) (push_counts ty span) or_none
          (in_turn q (between a b) e ty span z) (array xs ∷ number nt (pos 0) ∷ number ht (pos d) ∷ values z) s
          (next_turn q (limits_between low (Some high)) e env xs) 5 (omega arith)
          (den_paid h e env (zip None (array xs) (zip None (number nt (pos 0)) (zip None (number ht (pos d)) z))) outside s ok
          (match_skip _ (match_skip _ (match_skip _ m))))
          (λ v t. pushed_counts q (between a b) e ty span (limits_between low (Some high)) env z xs nt ht 0 d ok m v t
          (both_limits nt ht low high (0 - 1) (d - 1) (falls low 0 xs v is) (falls (max high low) d xs v are)))
          (stop_paid (array xs) nt 0 (in_turn q (between a b) e ty span z) (number ht (pos d) ∷ values z) s refl (omega arith)))))))
      by_counts c d is are (at_some up nc) (at_some un ne) =
          by_tests q (limits_between low (Some high)) e env xs s true (is_full (limits_between low (Some high)) xs) (wanted low (size xs) c is nc)
          refl (pay {b = 8} (omega arith) (spend {b = 7} (omega arith)
          (zero_paid 2 ht d (between_other q a b e ty span z) (in_turn q (between a b) e ty span z) (array xs ∷ number nt (pos c) ∷ number ht (pos d)
          ∷ values z) s (array xs) 6 (Bind (den spec l e env s) (next_turn q (limits_between low (Some high)) e env xs)) refl refl (omega arith)
          (at_some un ne) (λ f. absurd (ne f))
          (λ f. paid_is ((alone_law q (den spec l e env s) (next_turn q (limits_between low (Some high)) e env xs)))
          (tried_paid h q (type_of e) (lowered spec.bits within e (state_scope (between a b) (scope z))) (push_counts ty span) or_none
          (in_turn q (between a b) e ty span z) (array xs ∷ number nt (pos c) ∷ number ht (pos d) ∷ values z) s
          (next_turn q (limits_between low (Some high)) e env xs) 5 (omega arith)
          (den_paid h e env (zip None (array xs) (zip None (number nt (pos c)) (zip None (number ht (pos d)) z))) outside s ok
          (match_skip _ (match_skip _ (match_skip _ m))))
          (λ v t. pushed_counts q (between a b) e ty span (limits_between low (Some high)) env z xs nt ht c d ok m v t
          (both_limits nt ht low high (c - 1) (d - 1) (falls low c xs v is) (falls (max high low) d xs v are)))
          (go_paid (array xs) nt c (in_turn q (between a b) e ty span z) (number ht (pos d) ∷ values z) s nc (omega arith)))))))
