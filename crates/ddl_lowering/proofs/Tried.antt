-- Choices with what follows their left side: their laws, and what they cost.
use Rattle.std.proofs.Common.{◌≡◌, ℕ, ◌≤◌, refl, ap, sym, ◌∙◌, arith}
use Rattle.ddl_types.specs.Value.{Value, Stream, nothing, just}
use Rattle.ddl_types.specs.Outcome.{Outcome, End, Faulted, Deep, Stuck, ends, tick, miss, parse, parsed}
use Rattle.ddl_types.specs.Joining.{Both, Biased, Bind}
use Rattle.ddl_types.proofs.Joins.{both_end, both_assoc, bind_parsed}
use Rattle.ddl_typed.specs.declared.parts.Choice.{Choice}
use Rattle.ddl_typed.specs.declared.parts.Choice.TheVariants as C
use Rattle.ddl_ops.proofs.Paid.{Paid, pay, spend, at_parse, at_end, at_miss, at_fault, at_deep, at_stuck, more as more_paid, fewer, bind_paid}
use Rattle.ddl_typed.specs.Choices.{under_just, or_nothing}
use Rattle.ddl_core.specs.Attempt.{Attempt}

-- ---- laws

-- a choice, as Core has it
abbrev pub tried : Choice → Outcome → (Value → Stream → Outcome) → Outcome → Outcome
tried C.Biased o rest p = Attempt o rest p
tried C.Unbiased o rest p = Both (Bind o rest) p

-- nothing follows the left side
pub biased_plain : (o p : Outcome) → Biased o p ≡ Attempt o (λ v s. parsed v s) p
biased_plain (ends End) p = refl
biased_plain (ends (Faulted fault span)) p = refl
biased_plain (ends Deep) p = refl
biased_plain (ends Stuck) p = refl
biased_plain (tick o) p = ap tick (biased_plain o p)
biased_plain (miss w i a f o) p = ap (miss w i a f) (biased_plain o p)
biased_plain (parse v s o) p = ap (parse v s) (sym (bind_parsed o))

-- each parse of the left side gets another value
pub biased_bind : (f : Value → Value) (o p : Outcome) → Biased (Bind o (λ v s. parsed (f v) s)) p ≡ Attempt o (λ v s. parsed (f v) s) p
biased_bind f (ends End) p = refl
biased_bind f (ends (Faulted fault span)) p = refl
biased_bind f (ends Deep) p = refl
biased_bind f (ends Stuck) p = refl
biased_bind f (tick o) p = ap tick (biased_bind f o p)
biased_bind f (miss w i a g o) p = ap (miss w i a g) (biased_bind f o p)
biased_bind f (parse v s o) p = refl

pub nothing_law : (q : Choice) (o : Outcome) (s : Stream) → or_nothing q o s ≡ tried q o (λ v t. parsed (just v) t) (parsed nothing s)
nothing_law C.Biased o s = biased_bind just o (parsed nothing s)
nothing_law C.Unbiased o s = refl

bind_just : (o : Outcome) (k : Value → Stream → Outcome) → Bind (under_just o) k ≡ Bind o (λ v t. k (just v) t)
bind_just (ends e) k = refl
bind_just (tick o) k = ap tick (bind_just o k)
bind_just (miss w i a f o) k = ap (miss w i a f) (bind_just o k)
bind_just (parse v s o) k = ap (Both (k (just v) s)) (bind_just o k)

-- what follows a choice of one more follows each of its sides
pub chosen_law : (q : Choice) (o : Outcome) (s : Stream) (k : Value → Stream → Outcome)
    → Bind (or_nothing q o s) k ≡ tried q o (λ v t. k (just v) t) (k nothing s)
chosen_law C.Biased (ends End) s k = both_end (k nothing s)
chosen_law C.Biased (ends (Faulted fault span)) s k = refl
chosen_law C.Biased (ends Deep) s k = refl
chosen_law C.Biased (ends Stuck) s k = refl
chosen_law C.Biased (tick o) s k = ap tick (chosen_law C.Biased o s k)
chosen_law C.Biased (miss w i a f o) s k = ap (miss w i a f) (chosen_law C.Biased o s k)
chosen_law C.Biased (parse v t o) s k = ap (Both (k (just v) t)) (bind_just o k)
chosen_law C.Unbiased (ends End) s k = both_end (k nothing s)
chosen_law C.Unbiased (ends (Faulted fault span)) s k = refl
chosen_law C.Unbiased (ends Deep) s k = refl
chosen_law C.Unbiased (ends Stuck) s k = refl
chosen_law C.Unbiased (tick o) s k = ap tick (chosen_law C.Unbiased o s k)
chosen_law C.Unbiased (miss w i a f o) s k = ap (miss w i a f) (chosen_law C.Unbiased o s k)
chosen_law C.Unbiased (parse v t o) s k = ap (Both (k (just v) t)) (chosen_law C.Unbiased o s k)
    ∙ sym (both_assoc (k (just v) t) (Bind o (λ v t. k (just v) t)) (k nothing s))

-- a choice with nothing on its right is none
pub alone_law : (q : Choice) (o : Outcome) (k : Value → Stream → Outcome) → Bind o k ≡ tried q o k (ends End)
alone_law C.Biased (ends End) k = refl
alone_law C.Biased (ends (Faulted fault span)) k = refl
alone_law C.Biased (ends Deep) k = refl
alone_law C.Biased (ends Stuck) k = refl
alone_law C.Biased (tick o) k = ap tick (alone_law C.Biased o k)
alone_law C.Biased (miss w i a f o) k = ap (miss w i a f) (alone_law C.Biased o k)
alone_law C.Biased (parse v s o) k = refl
alone_law C.Unbiased o k = sym (both_end (Bind o k))

-- ---- costs

pub attempt_paid : {e e' f g a : ℕ} {o o' p p' : Outcome} (k k' : Value → Stream → Outcome) → f ≤ g → Paid e g a o p
    → ((v : Value) (s : Stream) → Paid e' 0 e (k v s) (k' v s)) → Paid e' f g o' p' → Paid e' f a (Attempt o k o') (Attempt p k' p')
attempt_paid k k' n (pay {b = b} l h) r d = pay {b = b} l (attempt_paid k k' n h r d)
attempt_paid k k' n (spend {b = b} l h) r d = spend {b = b} l (attempt_paid k k' n h r d)
attempt_paid k k' n (at_miss h) r d = at_miss (attempt_paid k k' n h r d)
attempt_paid k k' n (at_parse {b = b} l h) r d = fewer (omega arith) n (bind_paid k k' (at_parse {b = b} l h) r)
attempt_paid k k' n (at_end l) r d = more_paid l d
attempt_paid k k' n at_fault r d = at_fault
attempt_paid k k' n at_deep r d = at_deep
attempt_paid k k' n at_stuck r d = at_stuck
