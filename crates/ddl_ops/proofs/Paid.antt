-- An outcome and that of its Core: the same events, and each tick of the first pays for eight of the second.
use Rattle.std.proofs.Common.{◌≡◌, ℕ, ◌+◌, ◌*◌, ◌≤◌, refl, ap, sym, subst, arith}
use Rattle.ddl_base.specs.declared.span.Span.{Span}
use Rattle.ddl_base.specs.declared.why.Why.{Why}
use Rattle.ddl_types.specs.declared.fault.Fault.{Fault}
use Rattle.ddl_types.specs.Value.{Value, Stream, Source}
use Rattle.ddl_types.specs.Outcome.{Outcome, End, Faulted, Deep, Stuck, ends, tick, miss, parse, parsed, ending, ticks}
use Rattle.ddl_types.specs.Joining.{Both, Biased, Bind, leave}
use Rattle.ddl_types.proofs.Joins.{both_end}
use Rattle.ddl_types.specs.Keeping.{marks, StartsWith, StartsWithin, Follows, Covers}
use Rattle.ddl_ops.specs.Valued.{Valued, gives, fails, deep, stuck, counts, then_value, then_parse}

-- The number is what is paid and not yet spent. At each parse e of it goes to what follows, and f are left at the end.
pub data Paid (e f : ℕ) : ℕ → Outcome → Outcome → Type 0 where
  pay : {a b : ℕ} {o p : Outcome} → b ≤ 8 + a → Paid e f b o p → Paid e f a (tick o) p
  spend : {a b : ℕ} {o p : Outcome} → b + 1 ≤ a → Paid e f b o p → Paid e f a o (tick p)
  at_miss : {a : ℕ} {why : Why} {source : Source} {at : ℕ} {span : Span} {o p : Outcome} → Paid e f a o p →
      Paid e f a (miss why source at span o) (miss why source at span p)
  at_parse : {a b : ℕ} {v : Value} {s : Stream} {o p : Outcome} → e + b ≤ a → Paid e f b o p → Paid e f a (parse v s o) (parse v s p)
  at_end : {a : ℕ} → f ≤ a → Paid e f a (ends End) (ends End)
  at_fault : {a : ℕ} {fault : Fault} {span : Span} → Paid e f a (ends (Faulted fault span)) (ends (Faulted fault span))
  at_deep : {a : ℕ} → Paid e f a (ends Deep) (ends Deep)
  at_stuck : {a : ℕ} → Paid e f a (ends Stuck) (ends Stuck)

-- a value, and a Core form that gives it where it stands
pub data Costs (e : ℕ) (s : Stream) : ℕ → Valued → Outcome → Type 0 where
  paid : {a b : ℕ} {o : Valued} {p : Outcome} → b ≤ 8 + a → Costs e s b o p → Costs e s a (counts o) p
  spent : {a b : ℕ} {o : Valued} {p : Outcome} → b + 1 ≤ a → Costs e s b o p → Costs e s a o (tick p)
  given : {a : ℕ} {v : Value} → e ≤ a → Costs e s a (gives v) (parse v s (ends End))
  failed : {a : ℕ} {fault : Fault} {span : Span} → Costs e s a (fails fault span) (ends (Faulted fault span))
  is_deep : {a : ℕ} → Costs e s a deep (ends Deep)
  is_stuck : {a : ℕ} → Costs e s a stuck (ends Stuck)

-- ---- less is asked, or more is there

pub more : {e f a c : ℕ} {o p : Outcome} → a ≤ c → Paid e f a o p → Paid e f c o p
more l (pay {b = b} m h) = pay {b = b} (omega (arith, l, m)) h
more l (spend {b = b} m h) = spend {b = b} (omega (arith, l, m)) h
more l (at_miss h) = at_miss (more l h)
more l (at_parse {b = b} m h) = at_parse {b = b} (omega (arith, l, m)) h
more l (at_end m) = at_end (omega (arith, l, m))
more l at_fault = at_fault
more l at_deep = at_deep
more l at_stuck = at_stuck

pub fewer : {e f e' f' a : ℕ} {o p : Outcome} → e' ≤ e → f' ≤ f → Paid e f a o p → Paid e' f' a o p
fewer l k (pay {b = b} m h) = pay {b = b} m (fewer l k h)
fewer l k (spend {b = b} m h) = spend {b = b} m (fewer l k h)
fewer l k (at_miss h) = at_miss (fewer l k h)
fewer l k (at_parse {b = b} m h) = at_parse {b = b} (omega (arith, l, m)) (fewer l k h)
fewer l k (at_end m) = at_end (omega (arith, k, m))
fewer l k at_fault = at_fault
fewer l k at_deep = at_deep
fewer l k at_stuck = at_stuck

-- what is there beside stays to the end
pub keep : (m : ℕ) {e f a : ℕ} {o p : Outcome} → Paid e f a o p → Paid e (f + m) (a + m) o p
keep m (pay {b = b} l h) = pay {b = b + m} (omega (arith, l)) (keep m h)
keep m (spend {b = b} l h) = spend {b = b + m} (omega (arith, l)) (keep m h)
keep m (at_miss h) = at_miss (keep m h)
keep m (at_parse {b = b} l h) = at_parse {b = b + m} (omega (arith, l)) (keep m h)
keep m (at_end l) = at_end (omega (arith, l))
keep m at_fault = at_fault
keep m at_deep = at_deep
keep m at_stuck = at_stuck

-- ---- joins

pub both_paid : {e f g a : ℕ} {o o' p p' : Outcome} → Paid e g a o p → Paid e f g o' p' → Paid e f a (Both o o') (Both p p')
both_paid (pay {b = b} l h) k = pay {b = b} l (both_paid h k)
both_paid (spend {b = b} l h) k = spend {b = b} l (both_paid h k)
both_paid (at_miss h) k = at_miss (both_paid h k)
both_paid (at_parse {b = b} l h) k = at_parse {b = b} l (both_paid h k)
both_paid (at_end l) k = more l k
both_paid at_fault k = at_fault
both_paid at_deep k = at_deep
both_paid at_stuck k = at_stuck

pub biased_paid : {e f g a : ℕ} {o o' p p' : Outcome} → f ≤ g → Paid e g a o p → Paid e f g o' p' → Paid e f a (Biased o o') (Biased p p')
biased_paid n (pay {b = b} l h) k = pay {b = b} l (biased_paid n h k)
biased_paid n (spend {b = b} l h) k = spend {b = b} l (biased_paid n h k)
biased_paid n (at_miss h) k = at_miss (biased_paid n h k)
biased_paid n (at_parse {b = b} l h) k = at_parse {b = b} l (fewer (omega arith) n h)
biased_paid n (at_end l) k = more l k
biased_paid n at_fault k = at_fault
biased_paid n at_deep k = at_deep
biased_paid n at_stuck k = at_stuck

pub bind_paid : {e e' f a : ℕ} {o p : Outcome} (k k' : Value → Stream → Outcome) → Paid e f a o p →
    ((v : Value) (s : Stream) → Paid e' 0 e (k v s) (k' v s)) → Paid e' f a (Bind o k) (Bind p k')
bind_paid k k' (pay {b = b} l h) r = pay {b = b} l (bind_paid k k' h r)
bind_paid k k' (spend {b = b} l h) r = spend {b = b} l (bind_paid k k' h r)
bind_paid k k' (at_miss h) r = at_miss (bind_paid k k' h r)
bind_paid k k' (at_parse {b = b} {v = v} {s = s} l h) r = both_paid (more l (fewer (omega arith) (omega arith) (keep b (r v s)))) (bind_paid k k' h r)
bind_paid k k' (at_end l) r = at_end l
bind_paid k k' at_fault r = at_fault
bind_paid k k' at_deep r = at_deep
bind_paid k k' at_stuck r = at_stuck

-- the tick of the typed form as it is left
pub leave_paid : {e f a : ℕ} {o p : Outcome} → Paid e f a o p → Paid (e + 8) f a (leave o) p
leave_paid (pay {b = b} l h) = pay {b = b} l (leave_paid h)
leave_paid (spend {b = b} l h) = spend {b = b} l (leave_paid h)
leave_paid (at_miss h) = at_miss (leave_paid h)
leave_paid {a = a} (at_parse {b = b} l h) = pay {b = 8 + a} (omega arith) (at_parse {b = b} (omega (arith, l)) (leave_paid h))
leave_paid (at_end l) = at_end l
leave_paid at_fault = at_fault
leave_paid at_deep = at_deep
leave_paid at_stuck = at_stuck

-- the tick of Core before a parse that leaves a call or the left side of a biased choice
pub exit_paid : {e f a : ℕ} {o p : Outcome} → Paid (e + 1) f a o p → Paid e f a o (leave p)
exit_paid (pay {b = b} l h) = pay {b = b} l (exit_paid h)
exit_paid (spend {b = b} l h) = spend {b = b} l (exit_paid h)
exit_paid (at_miss h) = at_miss (exit_paid h)
exit_paid {e = e} (at_parse {b = b} l h) = spend {b = e + b} (omega (arith, l)) (at_parse {b = b} (omega arith) (exit_paid h))
exit_paid (at_end l) = at_end l
exit_paid at_fault = at_fault
exit_paid at_deep = at_deep
exit_paid at_stuck = at_stuck

-- ---- values

pub costs_more : {e : ℕ} {s : Stream} {a c : ℕ} {o : Valued} {p : Outcome} → a ≤ c → Costs e s a o p → Costs e s c o p
costs_more l (paid {b = b} m h) = paid {b = b} (omega (arith, l, m)) h
costs_more l (spent {b = b} m h) = spent {b = b} (omega (arith, l, m)) h
costs_more l (given m) = given (omega (arith, l, m))
costs_more l failed = failed
costs_more l is_deep = is_deep
costs_more l is_stuck = is_stuck

pub costs_fewer : {e e' : ℕ} {s : Stream} {a : ℕ} {o : Valued} {p : Outcome} → e' ≤ e → Costs e s a o p → Costs e' s a o p
costs_fewer l (paid {b = b} m h) = paid {b = b} m (costs_fewer l h)
costs_fewer l (spent {b = b} m h) = spent {b = b} m (costs_fewer l h)
costs_fewer l (given m) = given (omega (arith, l, m))
costs_fewer l failed = failed
costs_fewer l is_deep = is_deep
costs_fewer l is_stuck = is_stuck

pub costs_keep : (m : ℕ) {e : ℕ} {s : Stream} {a : ℕ} {o : Valued} {p : Outcome} → Costs e s a o p → Costs (e + m) s (a + m) o p
costs_keep m (paid {b = b} l h) = paid {b = b + m} (omega (arith, l)) (costs_keep m h)
costs_keep m (spent {b = b} l h) = spent {b = b + m} (omega (arith, l)) (costs_keep m h)
costs_keep m (given l) = given (omega (arith, l))
costs_keep m failed = failed
costs_keep m is_deep = is_deep
costs_keep m is_stuck = is_stuck

pub costs_then : {c e : ℕ} {s : Stream} {a : ℕ} {o : Valued} {p : Outcome} (k : Value → Valued) (k' : Value → Stream → Outcome) → Costs c s a o p →
    ((v : Value) → Costs e s c (k v) (k' v s)) → Costs e s a (then_value o k) (Bind p k')
costs_then k k' (paid {b = b} l h) r = paid {b = b} l (costs_then k k' h r)
costs_then k k' (spent {b = b} l h) r = spent {b = b} l (costs_then k k' h r)
costs_then {e = e} {s = s} {a = a} k k' (given {v = v} l) r = subst (λ z. Costs e s a (k v) z) (sym (both_end (k' v s))) (costs_more l (r v))
costs_then k k' failed r = failed
costs_then k k' is_deep r = is_deep
costs_then k k' is_stuck r = is_stuck

pub then_paid : {c e f : ℕ} {s : Stream} {a : ℕ} {o : Valued} {p : Outcome} (k : Value → Outcome) (k' : Value → Stream → Outcome) → Costs c s a o p →
    ((v : Value) → Paid e f c (k v) (k' v s)) → Paid e f a (then_parse o k) (Bind p k')
then_paid k k' (paid {b = b} l h) r = pay {b = b} l (then_paid k k' h r)
then_paid k k' (spent {b = b} l h) r = spend {b = b} l (then_paid k k' h r)
then_paid {e = e} {f = f} {s = s} {a = a} k k' (given {v = v} l) r = subst (λ z. Paid e f a (k v) z) (sym (both_end (k' v s))) (more l (r v))
then_paid k k' failed r = at_fault
then_paid k k' is_deep r = at_deep
then_paid k k' is_stuck r = at_stuck

-- a value, and a parse of it
pub value_paid : {c e f : ℕ} {s : Stream} {a : ℕ} {o : Valued} {p : Outcome} → e + f ≤ c → Costs c s a o p → Paid e f a (then_parse o (λ v. parsed v s)) p
value_paid n (paid {b = b} l h) = pay {b = b} l (value_paid n h)
value_paid n (spent {b = b} l h) = spend {b = b} l (value_paid n h)
value_paid {f = f} n (given l) = at_parse {b = f} (omega (arith, n, l)) (at_end (omega arith))
value_paid n failed = at_fault
value_paid n is_deep = at_deep
value_paid n is_stuck = at_stuck

-- an operation on values: one tick and its own
costs_same : {e : ℕ} {s : Stream} (o : Valued) {a : ℕ} → e ≤ a → Costs e s a o (then_parse o (λ v. parsed v s))
costs_same (gives v) l = given l
costs_same (fails fault span) l = failed
costs_same deep l = is_deep
costs_same stuck l = is_stuck
costs_same (counts o) {a = a} l = paid {b = 8 + a} (omega arith) (spent {b = 7 + a} (omega arith) (costs_same o (omega (arith, l))))

pub performs : {e : ℕ} {s : Stream} {a : ℕ} (o : Valued) → e + 1 ≤ a → Costs e s a o (tick (then_parse o (λ v. parsed v s)))
performs {e = e} o l = spent {b = e} l (costs_same o (omega arith))

pub costs_exit : {e : ℕ} {s : Stream} {a : ℕ} {o : Valued} {p : Outcome} → Costs (e + 1) s a o p → Costs e s a o (leave p)
costs_exit (paid {b = b} l h) = paid {b = b} l (costs_exit h)
costs_exit (spent {b = b} l h) = spent {b = b} l (costs_exit h)
costs_exit {e = e} (given l) = spent {b = e} l (given (omega arith))
costs_exit failed = failed
costs_exit is_deep = is_deep
costs_exit is_stuck = is_stuck

-- a form that a tick counts
pub count_then : {s : Stream} {o : Valued} {p : Outcome} (k : Value → Valued) (k' : Value → Stream → Outcome) → Costs 5 s 0 o p →
    ((v : Value) → Costs 5 s 13 (k v) (k' v s)) → Costs 5 s 0 (counts (then_value o k)) (Bind p k')
count_then k k' h r = paid {b = 8} (omega arith) (costs_then k k' (costs_keep 8 h) r)

-- ---- keeping with factor 8

within : {e f a : ℕ} {o p : Outcome} (h : Paid e f a o p) (x y : ℕ) → y + a ≤ 8 * x → StartsWithin 8 (marks x o) (marks y p)
within (pay l h) x y n = within h (x + 1) y (omega (arith, l, n))
within (spend l h) x y n = within h x (y + 1) (omega (arith, l, n))
within (at_miss h) x y n = (refl, omega (arith, n), within h x y n)
within (at_parse l h) x y n = (refl, omega (arith, n), within h x y (omega (arith, l, n)))
within (at_end l) x y n = tt
within at_fault x y n = tt
within at_deep x y n = tt
within at_stuck x y n = tt

right_starts : {e f a : ℕ} {o p : Outcome} (h : Paid e f a o p) (x y : ℕ) → StartsWith (marks y p) (marks x o)
right_starts (pay l h) x y = right_starts h (x + 1) y
right_starts (spend l h) x y = right_starts h x (y + 1)
right_starts (at_miss h) x y = (refl, right_starts h x y)
right_starts (at_parse l h) x y = (refl, right_starts h x y)
right_starts (at_end l) x y = tt
right_starts at_fault x y = tt
right_starts at_deep x y = tt
right_starts at_stuck x y = tt

left_starts : {e f a : ℕ} {o p : Outcome} (h : Paid e f a o p) (x y : ℕ) → StartsWith (marks x o) (marks y p)
left_starts (pay l h) x y = left_starts h (x + 1) y
left_starts (spend l h) x y = left_starts h x (y + 1)
left_starts (at_miss h) x y = (refl, left_starts h x y)
left_starts (at_parse l h) x y = (refl, left_starts h x y)
left_starts (at_end l) x y = tt
left_starts at_fault x y = tt
left_starts at_deep x y = tt
left_starts at_stuck x y = tt

same_end : {e f a : ℕ} {o p : Outcome} (h : Paid e f a o p) → ending p ≡ ending o
same_end (pay l h) = same_end h
same_end (spend l h) = same_end h
same_end (at_miss h) = same_end h
same_end (at_parse l h) = same_end h
same_end (at_end l) = refl
same_end at_fault = refl
same_end at_deep = refl
same_end at_stuck = refl

cost : {e f a : ℕ} {o p : Outcome} (h : Paid e f a o p) → ticks p ≤ 8 * ticks o + a
cost (pay l h) = omega (arith, l, cost h)
cost (spend l h) = omega (arith, l, cost h)
cost (at_miss h) = cost h
cost (at_parse l h) = omega (arith, l, cost h)
cost (at_end l) = omega arith
cost at_fault = omega arith
cost at_deep = omega arith
cost at_stuck = omega arith

pub paid_follows : {e f : ℕ} {o p : Outcome} → Paid e f 0 o p → Follows 8 o p
paid_follows h = record { events = within h 0 0 (omega arith); no_more = λ n. right_starts h 0 0; end = λ n. same_end h; cost = λ n. omega (arith, cost h) }

pub paid_covers : {e f : ℕ} {o p : Outcome} → Paid e f 0 o p → Covers o p
paid_covers h = record { events = right_starts h 0 0; no_more = λ n. left_starts h 0 0; end = λ n. sym (same_end h) }
