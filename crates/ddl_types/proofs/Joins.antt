-- The laws of joining.
use Rattle.std.proofs.Common.{◌≡◌, ◌+◌, List, [], ◌∷◌, ◌++◌, map, length, refl, ap, ◌∙◌, sym, arith}
use Rattle.ddl_types.specs.Value.{Value, Stream}
use Rattle.ddl_types.specs.Outcome.{Event, Tick, Miss, Parse, Outcome, Parsed, End, Faulted, Deep, Stuck, ends, tick, miss, parse, parsed, nothing_more, events}
use Rattle.ddl_types.specs.Outcome.{ending, ticks, parses, failures, unticked, after}
use Rattle.ddl_types.specs.BestFailure.{best_failure, best_of}
use Rattle.ddl_types.specs.Answer.{answer_of, answer_at}
use Rattle.ddl_types.specs.Joining.{Both, Biased, Bind, Joined, leave}

-- ---- Both

-- joining is associative
pub both_assoc : (o p q : Outcome) → Both (Both o p) q ≡ Both o (Both p q)
both_assoc (ends End) p q = refl
both_assoc (ends (Faulted fault span)) p q = refl
both_assoc (ends Deep) p q = refl
both_assoc (ends Stuck) p q = refl
both_assoc (tick o) p q = ap tick (both_assoc o p q)
both_assoc (miss w i a f o) p q = ap (miss w i a f) (both_assoc o p q)
both_assoc (parse v s o) p q = ap (parse v s) (both_assoc o p q)

-- nothing more after an outcome leaves it
pub both_end : (o : Outcome) → Both o nothing_more ≡ o
both_end (ends End) = refl
both_end (ends (Faulted fault span)) = refl
both_end (ends Deep) = refl
both_end (ends Stuck) = refl
both_end (tick o) = ap tick (both_end o)
both_end (miss w i a f o) = ap (miss w i a f) (both_end o)
both_end (parse v s o) = ap (parse v s) (both_end o)

-- nothing before an outcome leaves it
pub both_start : (o : Outcome) → Both nothing_more o ≡ o
both_start o = refl

-- events before a joined outcome stay before it
pub both_after : (es : List Event) (o p : Outcome) → Both (after es o) p ≡ after es (Both o p)
both_after [] o p = refl
both_after (Tick ∷ es) o p = ap tick (both_after es o p)
both_after (Miss w i a f ∷ es) o p = ap (miss w i a f) (both_after es o p)
both_after (Parse v s ∷ es) o p = ap (parse v s) (both_after es o p)

-- an outcome whose ending is not End is not gone on from
pub both_stops : (o p : Outcome) → (ending o ≡ End → ⊥) → Both o p ≡ o
both_stops (ends End) p n = absurd (n refl)
both_stops (ends (Faulted fault span)) p n = refl
both_stops (ends Deep) p n = refl
both_stops (ends Stuck) p n = refl
both_stops (tick o) p n = ap tick (both_stops o p n)
both_stops (miss w i a f o) p n = ap (miss w i a f) (both_stops o p n)
both_stops (parse v s o) p n = ap (parse v s) (both_stops o p n)

-- ---- Biased

-- a biased choice is associative
pub biased_assoc : (o p q : Outcome) → Biased (Biased o p) q ≡ Biased o (Biased p q)
biased_assoc (ends End) p q = refl
biased_assoc (ends (Faulted fault span)) p q = refl
biased_assoc (ends Deep) p q = refl
biased_assoc (ends Stuck) p q = refl
biased_assoc (tick o) p q = ap tick (biased_assoc o p q)
biased_assoc (miss w i a f o) p q = ap (miss w i a f) (biased_assoc o p q)
biased_assoc (parse v s o) p q = refl

-- nothing to fall back to leaves the outcome
pub biased_end : (o : Outcome) → Biased o nothing_more ≡ o
biased_end (ends End) = refl
biased_end (ends (Faulted fault span)) = refl
biased_end (ends Deep) = refl
biased_end (ends Stuck) = refl
biased_end (tick o) = ap tick (biased_end o)
biased_end (miss w i a f o) = ap (miss w i a f) (biased_end o)
biased_end (parse v s o) = refl

-- nothing to prefer leaves the fallback
pub biased_start : (o : Outcome) → Biased nothing_more o ≡ o
biased_start o = refl

-- ---- Bind

-- binding goes over joined outcomes one by one
pub bind_both : (o p : Outcome) (k : Value → Stream → Outcome) → Bind (Both o p) k ≡ Both (Bind o k) (Bind p k)
bind_both (ends End) p k = refl
bind_both (ends (Faulted fault span)) p k = refl
bind_both (ends Deep) p k = refl
bind_both (ends Stuck) p k = refl
bind_both (tick o) p k = ap tick (bind_both o p k)
bind_both (miss w i a f o) p k = ap (miss w i a f) (bind_both o p k)
bind_both (parse v s o) p k = ap (Both (k v s)) (bind_both o p k) ∙ sym (both_assoc (k v s) (Bind o k) (Bind p k))

-- binding over an append of events
pub bind_after : (es : List Event) (o : Outcome) (k : Value → Stream → Outcome) → Bind (after es o) k ≡ Both (Bind (after es nothing_more) k) (Bind o k)
bind_after es o k = ap (λ p. Bind p k) (sym (both_after es nothing_more o)) ∙ bind_both (after es nothing_more) o k

-- binding is associative
pub bind_assoc : (o : Outcome) (k m : Value → Stream → Outcome) → Bind (Bind o k) m ≡ Bind o (λ v s. Bind (k v s) m)
bind_assoc (ends e) k m = refl
bind_assoc (tick o) k m = ap tick (bind_assoc o k m)
bind_assoc (miss w i a f o) k m = ap (miss w i a f) (bind_assoc o k m)
bind_assoc (parse v s o) k m = bind_both (k v s) (Bind o k) m ∙ ap (Both (Bind (k v s) m)) (bind_assoc o k m)

-- a rest that gives back its parse leaves the outcome
pub bind_parsed : (o : Outcome) → Bind o parsed ≡ o
bind_parsed (ends e) = refl
bind_parsed (tick o) = ap tick (bind_parsed o)
bind_parsed (miss w i a f o) = ap (miss w i a f) (bind_parsed o)
bind_parsed (parse v s o) = ap (parse v s) (bind_parsed o)

-- binding a function is joining the list of its outcomes
pub bind_joined : (o : Outcome) (k : Value → Stream → Outcome) → Bind o k ≡ Joined o (map (λ (p : Parsed). k p.value p.rest) (parses o))
bind_joined (ends e) k = refl
bind_joined (tick o) k = ap tick (bind_joined o k)
bind_joined (miss w i a f o) k = ap (miss w i a f) (bind_joined o k)
bind_joined (parse v s o) k = ap (Both (k v s)) (bind_joined o k)

-- ---- events and ticks

-- events before events
pub after_append : (es fs : List Event) (o : Outcome) → after (es ++ fs) o ≡ after es (after fs o)
after_append [] fs o = refl
after_append (Tick ∷ es) fs o = ap tick (after_append es fs o)
after_append (Miss w i a f ∷ es) fs o = ap (miss w i a f) (after_append es fs o)
after_append (Parse v s ∷ es) fs o = ap (parse v s) (after_append es fs o)

-- an outcome is its events and its ending
pub after_events : (o : Outcome) → after (events o) (ends (ending o)) ≡ o
after_events (ends e) = refl
after_events (tick o) = ap tick (after_events o)
after_events (miss w i a f o) = ap (miss w i a f) (after_events o)
after_events (parse v s o) = ap (parse v s) (after_events o)

-- the events of an outcome that ends come before those of the next
pub events_both : (o p : Outcome) → ending o ≡ End → events (Both o p) ≡ events o ++ events p
events_both (ends End) p e = refl
events_both (ends (Faulted fault span)) p e = cc
events_both (ends Deep) p e = cc
events_both (ends Stuck) p e = cc
events_both (tick o) p e = ap (λ es. Tick ∷ es) (events_both o p e)
events_both (miss w i a f o) p e = ap (λ es. Miss w i a f ∷ es) (events_both o p e)
events_both (parse v s o) p e = ap (λ es. Parse v s ∷ es) (events_both o p e)

-- the ticks of an outcome that ends and of the next are counted together
pub ticks_both : (o p : Outcome) → ending o ≡ End → ticks (Both o p) ≡ ticks o + ticks p
ticks_both (ends End) p e = omega arith
ticks_both (ends (Faulted fault span)) p e = cc
ticks_both (ends Deep) p e = cc
ticks_both (ends Stuck) p e = cc
ticks_both (tick o) p e = omega (arith, ticks_both o p e)
ticks_both (miss w i a f o) p e = ticks_both o p e
ticks_both (parse v s o) p e = ticks_both o p e

-- leaving a form counts one for each parse
pub ticks_leave : (o : Outcome) → ticks (leave o) ≡ ticks o + length (parses o)
ticks_leave (ends e) = omega arith
ticks_leave (tick o) = omega (arith, ticks_leave o)
ticks_leave (miss w i a f o) = ticks_leave o
ticks_leave (parse v s o) = omega (arith, ticks_leave o)

-- leaving a form keeps its parses
pub parses_leave : (o : Outcome) → parses (leave o) ≡ parses o
parses_leave (ends e) = refl
parses_leave (tick o) = parses_leave o
parses_leave (miss w i a f o) = parses_leave o
parses_leave (parse v s o) = ap (λ ps. record { value = v; rest = s } ∷ ps) (parses_leave o)

-- leaving joined outcomes is joining what leaves them
pub leave_both : (o p : Outcome) → leave (Both o p) ≡ Both (leave o) (leave p)
leave_both (ends End) p = refl
leave_both (ends (Faulted fault span)) p = refl
leave_both (ends Deep) p = refl
leave_both (ends Stuck) p = refl
leave_both (tick o) p = ap tick (leave_both o p)
leave_both (miss w i a f o) p = ap (miss w i a f) (leave_both o p)
leave_both (parse v s o) p = ap (λ q. tick (parse v s q)) (leave_both o p)

-- ---- without ticks

pub unticked_both : (o p : Outcome) → unticked (Both o p) ≡ Both (unticked o) (unticked p)
unticked_both (ends End) p = refl
unticked_both (ends (Faulted fault span)) p = refl
unticked_both (ends Deep) p = refl
unticked_both (ends Stuck) p = refl
unticked_both (tick o) p = unticked_both o p
unticked_both (miss w i a f o) p = ap (miss w i a f) (unticked_both o p)
unticked_both (parse v s o) p = ap (parse v s) (unticked_both o p)

pub unticked_bind : (o : Outcome) (k : Value → Stream → Outcome) → unticked (Bind o k) ≡ Bind (unticked o) (λ v s. unticked (k v s))
unticked_bind (ends e) k = refl
unticked_bind (tick o) k = unticked_bind o k
unticked_bind (miss w i a f o) k = ap (miss w i a f) (unticked_bind o k)
unticked_bind (parse v s o) k = unticked_both (k v s) (Bind o k) ∙ ap (Both (unticked (k v s))) (unticked_bind o k)

pub unticked_leave : (o : Outcome) → unticked (leave o) ≡ unticked o
unticked_leave (ends e) = refl
unticked_leave (tick o) = unticked_leave o
unticked_leave (miss w i a f o) = ap (miss w i a f) (unticked_leave o)
unticked_leave (parse v s o) = ap (parse v s) (unticked_leave o)

ending_unticked : (o : Outcome) → ending (unticked o) ≡ ending o
ending_unticked (ends e) = refl
ending_unticked (tick o) = ending_unticked o
ending_unticked (miss w i a f o) = ending_unticked o
ending_unticked (parse v s o) = ending_unticked o

parses_unticked : (o : Outcome) → parses (unticked o) ≡ parses o
parses_unticked (ends e) = refl
parses_unticked (tick o) = parses_unticked o
parses_unticked (miss w i a f o) = parses_unticked o
parses_unticked (parse v s o) = ap (λ ps. record { value = v; rest = s } ∷ ps) (parses_unticked o)

failures_unticked : (o : Outcome) → failures (unticked o) ≡ failures o
failures_unticked (ends e) = refl
failures_unticked (tick o) = failures_unticked o
failures_unticked (miss w i a f o) = ap (λ fs. record { why = w; source = i; at = a; span = f } ∷ fs) (failures_unticked o)
failures_unticked (parse v s o) = failures_unticked o

-- ticks have no part in the answer
pub answer_unticked : (o : Outcome) → answer_of (unticked o) ≡ answer_of o
answer_unticked o = ap (λ e. answer_at e (parses (unticked o)) (best_failure (unticked o))) (ending_unticked o)
    ∙ ap (λ ps. answer_at (ending o) ps (best_failure (unticked o))) (parses_unticked o)
    ∙ ap (λ fs. answer_at (ending o) (parses o) (best_of fs)) (failures_unticked o)
