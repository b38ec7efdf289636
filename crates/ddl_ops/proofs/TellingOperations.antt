-- What operations do on a stream ends with a parse, a failure or no End.
use Rattle.std.proofs.Common.{ℕ, List, [], ◌∷◌}
use Rattle.std.specs.Prelude.{pos, ◌==◌, ◌&&◌, nat_le, Option, Some, None}
use Rattle.ddl_base.specs.declared.span.Span.{Span}
use Rattle.ddl_base.specs.declared.why.Why.{Why}
use Rattle.ddl_types.specs.Value.{Value, Values, Pairs, Stream, number, array, mapping, stream, no_values, value}
use Rattle.ddl_types.specs.Outcome.{Outcome}
use Rattle.ddl_ops.specs.declared.pattern.Pattern.{Pattern}
use Rattle.ddl_ops.specs.declared.operators.Primitive.{Primitive}
use Rattle.ddl_ops.specs.declared.operators.Primitive.TheVariants.{GetStream, Offset, SetStream, Take, Drop, Index, Lookup, Insert}
use Rattle.ddl_ops.specs.Primitives.{one_byte, at_end, match_bytes, match_value, with_bytes, has_byte, first_byte, onward}
use Rattle.ddl_ops.specs.Numbers.{count_of}
use Rattle.ddl_ops.specs.Maps.{found, inserted}
use Rattle.ddl_ops.specs.Streams.{remaining}
use Rattle.ddl_ops.specs.Builtins.{present, part_of, insert_absent, primitive_outcome}
use Rattle.ddl_ops.specs.ByteSets.{Set, class_byte}
use Rattle.ddl_ops.specs.Casts.{Fit, fitting, unfit, no_cast, fitted}
use Rattle.ddl_ops.specs.Patterns.{Matched, has_it, has_another, has_none, matched, outcome_at, guarded}
use Rattle.ddl_ops.proofs.TellingJoins.{IsTold, choice_told, then_parse_told}

pub one_byte_told : (span : Span) (s : Stream) → IsTold (one_byte span s)
one_byte_told span s = choice_told (has_byte s) _ _ tt tt

pub at_end_told : (span : Span) (s : Stream) → IsTold (at_end span s)
at_end_told span s = choice_told (has_byte s) _ _ tt tt

pub match_bytes_told : (bs : List ℕ) (whole : Value) (span : Span) (s : Stream) → IsTold (match_bytes bs whole span s)
match_bytes_told [] whole span s = tt
match_bytes_told (b ∷ bs) whole span s = choice_told (has_byte s) _ _ (choice_told (first_byte s == b) _ _ (match_bytes_told bs whole span (onward s)) tt) tt

with_bytes_told : (vs : Values) (k : List ℕ → Outcome) → ((bs : List ℕ) → IsTold (k bs)) → IsTold (with_bytes vs k)
with_bytes_told no_values k e = e []
with_bytes_told (value (number ty (pos n)) vs) k e = with_bytes_told vs _ (λ bs. e (n ∷ bs))
with_bytes_told (value _ vs) k e = tt

pub match_value_told : (v : Value) (span : Span) (s : Stream) → IsTold (match_value v span s)
match_value_told (array vs) span s = with_bytes_told vs _ (λ bs. match_bytes_told bs (array vs) span s)
match_value_told _ span s = tt

pub class_told : (test : Option Set) (span : Span) (s : Stream) → IsTold (class_byte test span s)
class_told (Some test) span s = choice_told (has_byte s && test (first_byte s)) _ _ tt tt
class_told None span s = tt

present_told : (v : Option Value) (why : Why) (span : Span) (s : Stream) → IsTold (present v why span s)
present_told (Some v) why span s = tt
present_told None why span s = tt

part_told : (n : ℕ) (from part : Stream) (why : Why) (span : Span) (s : Stream) → IsTold (part_of n from part why span s)
part_told n from part why span s = choice_told (nat_le n (remaining from)) _ _ tt tt

insert_told : (old : Option Value) (k v : Value) (ps : Pairs) (span : Span) (s : Stream) → IsTold (insert_absent old k v ps span s)
insert_told None k v ps span s = then_parse_told (inserted k v ps) _ (λ qs. tt)
insert_told (Some old) k v ps span s = tt

pub primitive_told : (p : Primitive) (vs : Values) (span : Span) (s : Stream) → IsTold (primitive_outcome p vs span s)
primitive_told GetStream no_values span s = tt
primitive_told Offset no_values span s = tt
primitive_told SetStream (value (stream t) no_values) span s = tt
primitive_told Take (value n (value (stream t) no_values)) span s = then_parse_told (count_of n) _ (λ k. part_told k t _ _ span s)
primitive_told Drop (value n (value (stream t) no_values)) span s = then_parse_told (count_of n) _ (λ k. part_told k t _ _ span s)
primitive_told Index (value (array vs) (value i no_values)) span s = then_parse_told (count_of i) _ (λ k. present_told _ _ span s)
primitive_told Lookup (value k (value (mapping ps) no_values)) span s = then_parse_told (found k ps) _ (λ w. present_told w _ span s)
primitive_told Insert (value k (value v (value (mapping ps) no_values))) span s = then_parse_told (found k ps) _ (λ w. insert_told w k v ps span s)
primitive_told p vs span s = tt

pub fitted_told : (f : Fit) (span : Span) (s : Stream) → IsTold (fitted f span s)
fitted_told (fitting v) span s = tt
fitted_told unfit span s = tt
fitted_told no_cast span s = tt

pub outcome_at_told : (m : Matched) (k : Value → Outcome) (o : Outcome) → ((v : Value) → IsTold (k v)) → IsTold o → IsTold (outcome_at m k o)
outcome_at_told (has_it content) k o e h = e content
outcome_at_told has_another k o e h = h
outcome_at_told has_none k o e h = tt

pub guarded_told : (p : Pattern) (v : Value) (span : Span) (s : Stream) → IsTold (guarded p v span s)
guarded_told p v span s = outcome_at_told (matched p v) _ _ (λ w. tt) tt
