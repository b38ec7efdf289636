-- What single steps cost: an operation, a case, a count, one parse.
use Rattle.std.proofs.Common.{◌≡◌, ℕ, ◌+◌, ◌≤◌, List, [], ◌∷◌, Option, refl, subst, sym, arith}
use Rattle.std.specs.Prelude.{pos}
use Rattle.ddl_base.specs.declared.span.Span.{Span}
use Rattle.ddl_types.specs.declared.num.NumType.{NumType}
use Rattle.ddl_types.specs.declared.num.NumType.TheVariants.{Uint}
use Rattle.ddl_types.specs.Value.{Value, Stream, number, tagged, no_values, value}
use Rattle.ddl_types.specs.Outcome.{Outcome, End, Faulted, Deep, Stuck, ends, tick, miss, parse, parsed}
use Rattle.ddl_types.specs.Joining.{Both, Bind}
use Rattle.ddl_types.proofs.Joins.{both_end}
use Rattle.ddl_ops.specs.Valued.{Valued, gives, stuck, counts, given, then_value, then_parse}
use Rattle.ddl_ops.specs.Numbers.{count_of}
use Rattle.ddl_ops.specs.Primitives.{byte_values, with_bytes}
use Rattle.ddl_ops.specs.Patterns.{value_at, Matched, has_it, has_another, has_none, outcome_at}
use Rattle.ddl_ops.proofs.Paid.{Paid, pay, spend, at_parse, at_end, at_miss, at_fault, at_deep, at_stuck, Costs, paid, spent, is_stuck, bind_paid, costs_keep}
use Rattle.ddl_ops.proofs.Paid.{costs_then, performs}
use Rattle.ddl_typed.specs.Choices.{under_tag}
use Rattle.ddl_core.specs.Core as c
use Rattle.ddl_core.specs.Attempt.{Single}
use Rattle.ddl_core.specs.Operations.{applied}

pub single_paid : (o : Outcome) {a : ℕ} → Single o → 7 ≤ a → Paid 5 2 a o o
single_paid (ends End) h l = at_end (omega (arith, l))
single_paid (ends (Faulted fault span)) h l = at_fault
single_paid (ends Deep) h l = at_deep
single_paid (ends Stuck) h l = at_stuck
single_paid (tick o) {a = a} h l = pay {b = 8 + a} (omega arith) (spend {b = 7 + a} (omega arith) (single_paid o h (omega (arith, l))))
single_paid (miss why source at span o) h l = at_miss (single_paid o h l)
single_paid (parse v s o) h l = at_parse {b = 2} (omega (arith, l)) (subst (λ z. Paid 5 2 2 z z) (sym h) (at_end (omega arith)))

-- a value as it is looked up
pub local_cost : (o u : Option Value) (s : Stream) → o ≡ u → Costs 5 s 0 (counts (given u)) (tick (then_parse (given o) (λ v. parsed v s)))
local_cost o u s e = subst (λ r. Costs 5 s 0 (counts (given r)) (tick (then_parse (given o) (λ v. parsed v s)))) e
    (paid {b = 8} (omega arith) (performs (given o) (omega arith)))

-- both sides of a strict operator
pub strict : (f : Value → Value → Valued) (s : Stream) {o : Valued} {q : Outcome} (o' : Valued) (q' : Value → Stream → Outcome) → Costs 5 s 0 o q
    → ((v : Value) → Costs 5 s 0 o' (q' v s)) →
    Costs 5 s 0 (counts (then_value o (λ v. then_value o' (λ w. f v w)))) (Bind q (λ v t. Bind (q' v t) (λ w r. tick (then_parse (f v w) (λ u. parsed u r)))))
strict f s o' q' a b = paid {b = 8} (omega arith) (costs_then _ _ (costs_keep 8 a) (λ v.
    costs_then _ _ (costs_keep 13 (b v)) (λ w. performs (f v w) (omega arith))))

pub case_cost : {s : Stream} {a : ℕ} (w : Matched) (kt : Value → Valued) (kc : Value → Outcome) {o : Valued} {q : Outcome}
    → ((v : Value) → Costs 5 s a (kt v) (kc v)) → Costs 5 s a o q → Costs 5 s a (value_at w kt o) (outcome_at w kc q)
case_cost (has_it v) kt kc e n = e v
case_cost has_another kt kc e n = n
case_cost has_none kt kc e n = is_stuck

pub case_paid : {e f a : ℕ} (w : Matched) (kt kc : Value → Outcome) {o q : Outcome} → ((v : Value) → Paid e f a (kt v) (kc v)) → Paid e f a o q
    → Paid e f a (outcome_at w kt o) (outcome_at w kc q)
case_paid (has_it v) kt kc e n = e v
case_paid has_another kt kc e n = n
case_paid has_none kt kc e n = at_stuck

-- an operation whose value is known, and what follows it
pub step_cost : {e a b : ℕ} {s : Stream} (o : Valued) (v : Value) (O : Valued) (K : Value → Stream → Outcome) → o ≡ gives v → b + 1 ≤ a
    → Costs e s b O (K v s) → Costs e s a O (Bind (tick (then_parse o (λ u. parsed u s))) K)
step_cost {e = e} {a = a} {b = b} {s = s} o v O K is n r =
    spent {b = b} n (subst (λ o. Costs e s b O (Bind (then_parse o (λ u. parsed u s)) K)) (sym is) (subst (λ q. Costs e s b O q) (sym (both_end (K v s))) r))

pub stuck_cost : {e a : ℕ} {s : Stream} (o : Valued) (K : Value → Stream → Outcome) → o ≡ stuck → 1 ≤ a
    → Costs e s a stuck (Bind (tick (then_parse o (λ u. parsed u s))) K)
stuck_cost {e = e} {a = a} {s = s} o K is n = spent {b = 0} (omega (arith, n))
    (subst (λ o. Costs e s 0 stuck (Bind (then_parse o (λ u. parsed u s)) K)) (sym is) is_stuck)

pub step_paid : {e f a b : ℕ} {s : Stream} (o : Valued) (v : Value) (O : Outcome) (K : Value → Stream → Outcome) → o ≡ gives v → b + 1 ≤ a
    → Paid e f b O (K v s) → Paid e f a O (Bind (tick (then_parse o (λ u. parsed u s))) K)
step_paid {e = e} {f = f} {a = a} {b = b} {s = s} o v O K is n r =
    spend {b = b} n (subst (λ o. Paid e f b O (Bind (then_parse o (λ u. parsed u s)) K)) (sym is) (subst (λ q. Paid e f b O q) (sym (both_end (K v s))) r))

pub stuck_paid : {e f a : ℕ} (s : Stream) (o : Valued) (K : Value → Stream → Outcome) → o ≡ stuck → 1 ≤ a
    → Paid e f a (ends Stuck) (Bind (tick (then_parse o (λ u. parsed u s))) K)
stuck_paid {e = e} {f = f} {a = a} s o K is n = spend {b = 0} (omega (arith, n))
    (subst (λ o. Paid e f 0 (ends Stuck) (Bind (then_parse o (λ u. parsed u s)) K)) (sym is) at_stuck)

pub cost_is : {e a : ℕ} {s : Stream} {O O' : Valued} {q : Outcome} → O ≡ O' → Costs e s a O' q → Costs e s a O q
cost_is {e = e} {a = a} {s = s} {q = q} is r = subst (λ o. Costs e s a o q) (sym is) r

pub paid_is : {e f a : ℕ} {O O' q : Outcome} → O ≡ O' → Paid e f a O' q → Paid e f a O q
paid_is {e = e} {f = f} {a = a} {q = q} is r = subst (λ o. Paid e f a o q) (sym is) r

-- the same where the operation computes
pub known_cost : {e a b : ℕ} {s : Stream} {O : Valued} {q : Outcome} → b + 1 ≤ a → Costs e s b O q → Costs e s a O (tick (Both q (ends End)))
known_cost {e = e} {b = b} {s = s} {O = O} {q = q} n r = spent {b = b} n (subst (λ q. Costs e s b O q) (sym (both_end q)) r)

pub known_paid : {e f a b : ℕ} {O q : Outcome} → b + 1 ≤ a → Paid e f b O q → Paid e f a O (tick (Both q (ends End)))
known_paid {e = e} {f = f} {b = b} {O = O} {q = q} n r = spend {b = b} n (subst (λ q. Paid e f b O q) (sym (both_end q)) r)

pub one_parse : {e f a : ℕ} (v : Value) (s : Stream) → e + f + 1 ≤ a → Paid e f a (parsed v s) (tick (parsed v s))
one_parse {e = e} {f = f} v s n = spend {b = e + f} n (at_parse {b = f} (omega arith) (at_end (omega arith)))

-- a parse under a tag
pub tag_paid : (name : List ℕ) {o q : Outcome} → Paid 5 2 0 o q → Paid 4 2 0 (under_tag name o) (Bind q (λ v t. tick (parsed (tagged name v) t)))
tag_paid name n = bind_paid _ _ n (λ v t. one_parse {e = 4} {f = 0} (tagged name v) t (omega arith))

-- a bound as a count
pub count_step : (v : Value) (span : Span) (s : Stream) (K : ℕ → Outcome) (K' : Value → Stream → Outcome) {e f a b : ℕ} → b + 1 ≤ a
    → ((nt : NumType) (n : ℕ) → Paid e f b (K n) (K' (number nt (pos n)) s)) →
    Paid e f a (then_parse (count_of v) K) (Bind (tick (then_parse (applied c.count_ (value v no_values) span) (λ u. parsed u s))) K')
count_step (number (Uint width) (pos n)) span s K K' {e = e} {f = f} {b = b} l r =
    spend {b = b} l (subst (λ q. Paid e f b (K n) q) (sym (both_end (K' (number (Uint width) (pos n)) s))) (r (Uint width) n))
count_step _ span s K K' {b = b} l r = spend {b = b} l at_stuck

-- the bytes of a text are its bytes
pub text_bytes : (bs : List ℕ) (rest : List ℕ → Outcome) → with_bytes (byte_values bs) rest ≡ rest bs
text_bytes [] rest = refl
text_bytes (b ∷ bs) rest = text_bytes bs (λ cs. rest (b ∷ cs))
