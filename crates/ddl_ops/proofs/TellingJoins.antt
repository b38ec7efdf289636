-- A parse, a failure or an ending other than End comes: the joins keep it.
use Rattle.std.proofs.Common.{Bool, true, false, if◌then◌else◌}
use Rattle.ddl_base.specs.declared.span.Span.{Span}
use Rattle.ddl_types.specs.Value.{Value, Stream}
use Rattle.ddl_types.specs.Outcome.{Outcome, End, Faulted, Deep, Stuck, ends, tick, miss, parse}
use Rattle.ddl_types.specs.Joining.{Both, Biased, Bind, leave}
use Rattle.ddl_types.specs.Cut.{cut_by}
use Rattle.ddl_ops.specs.Valued.{Given, gives, fails, deep, stuck, counts, then_parse}

-- a parse, a failure or an ending other than End comes
abbrev pub IsTold : Outcome → Type 0
IsTold (ends End) = ⊥
IsTold (ends (Faulted fault span)) = Unit {0}
IsTold (ends Deep) = Unit {0}
IsTold (ends Stuck) = Unit {0}
IsTold (tick o) = IsTold o
IsTold (miss why source at span o) = Unit {0}
IsTold (parse v s o) = Unit {0}

pub both_told : (o p : Outcome) → IsTold o → IsTold (Both o p)
both_told (ends End) p h = absurd h
both_told (ends (Faulted fault span)) p h = tt
both_told (ends Deep) p h = tt
both_told (ends Stuck) p h = tt
both_told (tick o) p h = both_told o p h
both_told (miss why source at span o) p h = tt
both_told (parse v s o) p h = tt

pub bind_told : (o : Outcome) (k : Value → Stream → Outcome) → IsTold o → ((v : Value) (s : Stream) → IsTold (k v s)) → IsTold (Bind o k)
bind_told (ends End) k h e = absurd h
bind_told (ends (Faulted fault span)) k h e = tt
bind_told (ends Deep) k h e = tt
bind_told (ends Stuck) k h e = tt
bind_told (tick o) k h e = bind_told o k h e
bind_told (miss why source at span o) k h e = tt
bind_told (parse v s o) k h e = both_told (k v s) (Bind o k) (e v s)

pub biased_told : (o p : Outcome) → IsTold o → IsTold (Biased o p)
biased_told (ends End) p h = absurd h
biased_told (ends (Faulted fault span)) p h = tt
biased_told (ends Deep) p h = tt
biased_told (ends Stuck) p h = tt
biased_told (tick o) p h = biased_told o p h
biased_told (miss why source at span o) p h = tt
biased_told (parse v s o) p h = tt

pub leave_told : (o : Outcome) → IsTold o → IsTold (leave o)
leave_told (ends End) h = h
leave_told (ends (Faulted fault span)) h = tt
leave_told (ends Deep) h = tt
leave_told (ends Stuck) h = tt
leave_told (tick o) h = leave_told o h
leave_told (miss why source at span o) h = tt
leave_told (parse v s o) h = tt

pub choice_told : (b : Bool) (o p : Outcome) → IsTold o → IsTold p → IsTold (if b then o else p)
choice_told true o p h k = h
choice_told false o p h k = k

pub cut_told : (too_deep : Value → Bool) (name : Span) (o : Outcome) → IsTold o → IsTold (cut_by too_deep name o)
cut_told too_deep name (ends End) h = h
cut_told too_deep name (ends (Faulted fault span)) h = tt
cut_told too_deep name (ends Deep) h = tt
cut_told too_deep name (ends Stuck) h = tt
cut_told too_deep name (tick o) h = cut_told too_deep name o h
cut_told too_deep name (miss why source at span o) h = tt
cut_told too_deep name (parse v s o) h = choice_told (too_deep v) _ _ tt tt

pub then_parse_told : {A : Type 0} (o : Given A) (k : A → Outcome) → ((v : A) → IsTold (k v)) → IsTold (then_parse o k)
then_parse_told (gives v) k e = e v
then_parse_told (fails fault span) k e = tt
then_parse_told deep k e = tt
then_parse_told stuck k e = tt
then_parse_told (counts o) k e = then_parse_told o k e
