-- The built-in values, and the built-in grammars with value arguments.
use Rattle.std.specs.Prelude.{ℕ, nat_le, if◌then◌else◌, Option, Some, None}
use Rattle.ddl_base.specs.declared.span.Span.{Span}
use Rattle.ddl_base.specs.declared.why.Why.{Why}
use Rattle.ddl_base.specs.declared.why.Why.TheVariants as why
use Rattle.ddl_types.specs.Value.{Value, Values, Pairs, Stream, unit, array, mapping, stream, no_values, value, no_pairs}
use Rattle.ddl_types.specs.Outcome.{Outcome, Stuck, ends, parsed}
use Rattle.ddl_ops.specs.declared.operators.Builtin.{Builtin}
use Rattle.ddl_ops.specs.declared.operators.Builtin.TheVariants.{Length, Concat, ArrayStream, BytesOfStream, Empty, InsertInto, LookupIn}
use Rattle.ddl_ops.specs.declared.operators.Primitive.{Primitive}
use Rattle.ddl_ops.specs.declared.operators.Primitive.TheVariants.{GetStream, Offset, SetStream, Take, Drop, Index, Lookup, Insert}
use Rattle.ddl_ops.specs.Valued.{Valued, gives, stuck, then_value, then_parse}
use Rattle.ddl_ops.specs.Numbers.{count_value, count_of}
use Rattle.ddl_ops.specs.Primitives.{byte_values, missed_at}
use Rattle.ddl_ops.specs.Arrays.{size, element, counted, concatenated, bytes_of}
use Rattle.ddl_ops.specs.Maps.{found, inserted, maybe_value}
use Rattle.ddl_ops.specs.Streams.{remaining, front, behind, bytes_in, stream_of}

-- `bytesOfStream`: one tick for each byte
abbrev pub stream_bytes : Stream → Valued
stream_bytes s = let vs = byte_values (bytes_in s) in counted vs (gives (array vs))

-- a built-in value at the values of its arguments
abbrev pub builtin_value : Builtin → Values → Valued
builtin_value Length (value (array vs) no_values) = gives (count_value (size vs))
builtin_value Concat (value (array vss) no_values) = concatenated vss
builtin_value ArrayStream (value (array vs) no_values) = then_value (bytes_of vs) (λ bs. gives (stream (stream_of bs)))
builtin_value BytesOfStream (value (stream s) no_values) = stream_bytes s
builtin_value Empty no_values = gives (mapping no_pairs)
builtin_value InsertInto (value k (value v (value (mapping ps) no_values))) = then_value (inserted k v ps) (λ qs. gives (mapping qs))
builtin_value LookupIn (value k (value (mapping ps) no_values)) = then_value (found k ps) (λ w. gives (maybe_value w))
builtin_value b vs = stuck

-- a value that may be absent: it fails where there is none
abbrev pub present : Option Value → Why → Span → Stream → Outcome
present (Some v) reason span s = parsed v s
present None reason span s = missed_at reason s span

-- a stream's first n bytes or the rest after them: it fails where fewer are there
abbrev pub part_of : ℕ → Stream → Stream → Why → Span → Stream → Outcome
part_of n from part reason span s = if nat_le n (remaining from) then parsed (stream part) s else missed_at reason s span

-- `Insert` fails where the key is there
abbrev pub insert_absent : Option Value → Value → Value → Pairs → Span → Stream → Outcome
insert_absent None k v ps span s = then_parse (inserted k v ps) (λ qs. parsed (mapping qs) s)
insert_absent (Some old) k v ps span s = missed_at why.Insert s span

-- a built-in grammar at the values of its arguments
abbrev pub primitive_outcome : Primitive → Values → Span → Stream → Outcome
primitive_outcome GetStream no_values span s = parsed (stream s) s
primitive_outcome Offset no_values span s = parsed (count_value s.from) s
primitive_outcome SetStream (value (stream t) no_values) span s = parsed unit t
primitive_outcome Take (value n (value (stream t) no_values)) span s = then_parse (count_of n) (λ k. part_of k t (front k t) why.Take span s)
primitive_outcome Drop (value n (value (stream t) no_values)) span s = then_parse (count_of n) (λ k. part_of k t (behind k t) why.Drop span s)
primitive_outcome Index (value (array vs) (value i no_values)) span s = then_parse (count_of i) (λ k. present (element vs k) why.Index span s)
primitive_outcome Lookup (value k (value (mapping ps) no_values)) span s = then_parse (found k ps) (λ w. present w why.Lookup span s)
primitive_outcome Insert (value k (value v (value (mapping ps) no_values))) span s = then_parse (found k ps) (λ w. insert_absent w k v ps span s)
primitive_outcome p vs span s = ends Stuck
