-- What an operation does on a stream has at most one parse, as its last event; what a choice with such a left side means.
use Rattle.std.proofs.Common.{◌≡◌, ℕ, ◌==◌, Bool, true, false, if◌then◌else◌, List, [], ◌∷◌, Option, Some, None, refl, ap, sym, subst}
use Rattle.std.specs.Prelude.{pos, ◌&&◌, nat_le}
use Rattle.ddl_base.specs.declared.why.Why.TheVariants as why
use Rattle.ddl_base.specs.declared.why.Why.{Why}
use Rattle.ddl_base.specs.declared.span.Span.{Span}
use Rattle.ddl_types.specs.Value.{Value, Values, Pairs, Stream, number, array, mapping, stream, no_values, value}
use Rattle.ddl_types.specs.Outcome.{Outcome, End, Faulted, Deep, Stuck, ends, tick, miss, parse, parsed}
use Rattle.ddl_types.specs.Joining.{Both, Bind, leave}
use Rattle.ddl_types.proofs.Joins.{both_end}
use Rattle.ddl_ops.specs.declared.pattern.Pattern.{Pattern}
use Rattle.ddl_ops.specs.declared.operators.Primitive.{Primitive}
use Rattle.ddl_ops.specs.declared.operators.Primitive.TheVariants.{GetStream, Offset, SetStream, Take, Drop, Index, Lookup, Insert}
use Rattle.ddl_ops.specs.Builtins.{present, part_of, insert_absent, primitive_outcome}
use Rattle.ddl_ops.specs.Streams.{remaining, front, behind}
use Rattle.ddl_ops.specs.Maps.{found, inserted}
use Rattle.ddl_ops.specs.Arrays.{element}
use Rattle.ddl_ops.specs.Numbers.{count_of}
use Rattle.ddl_ops.specs.Casts.{Fit, fitting, unfit, no_cast, fit, fitted}
use Rattle.ddl_ops.specs.Valued.{Given, gives, fails, deep, stuck, counts, then_parse}
use Rattle.ddl_ops.specs.Primitives.{one_byte, at_end, match_bytes, match_value, with_bytes, has_byte, first_byte, onward, missed_at, byte_value}
use Rattle.ddl_ops.specs.ByteSets.{class_byte}
use Rattle.ddl_ops.specs.Patterns.{Matched, has_it, has_another, has_none, matched, guarded, outcome_at}
use Rattle.ddl_core.specs.Core.{Operation, uint8, match_text, match, end, class, fail, no_case, primitive, guard, fits}
use Rattle.ddl_core.specs.Operations.{applied, performed}
use Rattle.ddl_core.specs.Attempt.{Attempt, Single, then_or}

-- ---- outcomes of at most one parse

single_if : (b : Bool) (o p : Outcome) → Single o → Single p → Single (if b then o else p)
single_if true o p h k = h
single_if false o p h k = k

pub single_byte : (span : Span) (s : Stream) → Single (one_byte span s)
single_byte span s = single_if (has_byte s) _ _ refl tt

pub single_end : (span : Span) (s : Stream) → Single (at_end span s)
single_end span s = single_if (has_byte s) _ _ tt refl

pub single_class : (test : ℕ → Bool) (span : Span) (s : Stream) → Single (class_byte (Some test) span s)
single_class test span s = single_if (has_byte s && test (first_byte s)) (parsed (byte_value (first_byte s)) (onward s)) (missed_at why.Class s span) refl tt

pub single_match : (bs : List ℕ) (whole : Value) (span : Span) (s : Stream) → Single (match_bytes bs whole span s)
single_match [] whole span s = refl
single_match (b ∷ bs) whole span s = single_if (has_byte s) _ _ (single_if (first_byte s == b) _ _ (single_match bs whole span (onward s)) tt) tt

with_single : (vs : Values) (rest : List ℕ → Outcome) → ((bs : List ℕ) → Single (rest bs)) → Single (with_bytes vs rest)
with_single no_values rest h = h []
with_single (value (number ty (pos n)) vs) rest h = with_single vs _ (λ bs. h (n ∷ bs))
with_single (value v vs) rest h = tt

pub single_value : (v : Value) (span : Span) (s : Stream) → Single (match_value v span s)
single_value (array vs) span s = with_single vs _ (λ bs. single_match bs (array vs) span s)
single_value v span s = tt

single_at : (m : Matched) (span : Span) (s : Stream) (o : Outcome) → Single o → Single (outcome_at m (λ w. parsed w s) o)
single_at (has_it w) span s o h = refl
single_at has_another span s o h = h
single_at has_none span s o h = tt

pub single_guard : (p : Pattern) (v : Value) (span : Span) (s : Stream) → Single (guarded p v span s)
single_guard p v span s = single_at (matched p v) span s _ tt

then_single : {A : Type 0} (o : Given A) (k : A → Outcome) → ((a : A) → Single (k a)) → Single (then_parse o k)
then_single (gives a) k h = h a
then_single (fails fault span) k h = tt
then_single deep k h = tt
then_single stuck k h = tt
then_single (counts o) k h = then_single o k h

single_present : (o : Option Value) (w : Why) (span : Span) (s : Stream) → Single (present o w span s)
single_present (Some v) w span s = refl
single_present None w span s = tt

single_absent : (o : Option Value) (key v : Value) (ps : Pairs) (span : Span) (s : Stream) → Single (insert_absent o key v ps span s)
single_absent None key v ps span s = then_single (inserted key v ps) (λ qs. parsed (mapping qs) s) (λ qs. refl)
single_absent (Some old) key v ps span s = tt

pub single_primitive : (p : Primitive) (vs : Values) (span : Span) (s : Stream) → Single (primitive_outcome p vs span s)
single_primitive GetStream no_values span s = refl
single_primitive Offset no_values span s = refl
single_primitive SetStream (value (stream t) no_values) span s = refl
single_primitive Take (value n (value (stream t) no_values)) span s =
    then_single (count_of n) (λ j. part_of j t (front j t) why.Take span s) (λ j.
    single_if (nat_le j (remaining t)) (parsed (stream (front j t)) s) (missed_at why.Take s span) refl tt)
single_primitive Drop (value n (value (stream t) no_values)) span s =
    then_single (count_of n) (λ j. part_of j t (behind j t) why.Drop span s) (λ j.
    single_if (nat_le j (remaining t)) (parsed (stream (behind j t)) s) (missed_at why.Drop s span) refl tt)
single_primitive Index (value (array vs) (value i no_values)) span s =
    then_single (count_of i) (λ j. present (element vs j) why.Index span s) (λ j. single_present (element vs j) why.Index span s)
single_primitive Lookup (value key (value (mapping ps) no_values)) span s =
    then_single (found key ps) (λ w. present w why.Lookup span s) (λ w. single_present w why.Lookup span s)
single_primitive Insert (value key (value v (value (mapping ps) no_values))) span s =
    then_single (found key ps) (λ w. insert_absent w key v ps span s) (λ w. single_absent w key v ps span s)
single_primitive p vs span s = tt

pub single_fitted : (f : Fit) (span : Span) (s : Stream) → Single (fitted f span s)
single_fitted (fitting v) span s = refl
single_fitted unfit span s = tt
single_fitted no_cast span s = tt

pub single_performed : (op : Operation) (vs : Values) (span : Span) (s : Stream) → Single (performed op vs span s)
single_performed uint8 no_values span s = single_byte span s
single_performed (match_text bs) no_values span s = single_match bs _ span s
single_performed match (value v no_values) span s = single_value v span s
single_performed end no_values span s = single_end span s
single_performed (class test) no_values span s = single_class test span s
single_performed (fail n) no_values span s = tt
single_performed no_case no_values span s = tt
single_performed (primitive p) vs span s = single_primitive p vs span s
single_performed (guard p) (value v no_values) span s = single_guard p v span s
single_performed (fits to) (value v no_values) span s = single_fitted (fit to v) span s
single_performed op vs span s = then_single (applied op vs span) (λ v. parsed v s) (λ v. refl)

-- ---- a choice whose left side has at most one parse needs no memory of a choice: it goes on at the parse, or after the
-- failures with the right side

pub single_attempt : (o : Outcome) (k : Value → Stream → Outcome) (p : Outcome) → Single o → Attempt (leave o) k p ≡ then_or o k p
single_attempt (ends End) k p h = refl
single_attempt (ends (Faulted fault span)) k p h = refl
single_attempt (ends Deep) k p h = refl
single_attempt (ends Stuck) k p h = refl
single_attempt (tick o) k p h = ap tick (single_attempt o k p h)
single_attempt (miss w i a f o) k p h = ap (miss w i a f) (single_attempt o k p h)
single_attempt (parse v s o) k p h = ap tick (subst (λ q. Both (k v s) (Bind (leave q) k) ≡ k v s) (sym h) (both_end (k v s)))
