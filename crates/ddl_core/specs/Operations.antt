-- What operations do: those of the typed forms, and those of loops.
use Rattle.std.specs.Prelude.{ℕ, zero, suc, ◌-◌, max, nat_lt, if◌then◌else◌, List, [], ◌∷◌, pos, Option, Some, None}
use Rattle.ddl_base.specs.declared.span.Span.{Span}
use Rattle.ddl_base.specs.declared.why.Why.TheVariants as why
use Rattle.ddl_types.specs.declared.num.NumType.TheVariants.{Uint}
use Rattle.ddl_types.specs.Value.{Value, Values, Fields, Pairs, Stream, number, boolean, unit, nothing, just, tagged, array, mapping, no_values, value}
use Rattle.ddl_types.specs.Value.{no_fields, no_pairs, pair}
use Rattle.ddl_types.specs.Value as values
use Rattle.ddl_types.specs.Outcome.{Outcome, parsed}
use Rattle.ddl_ops.specs.Valued.{Given, Valued, gives, stuck, given, then_value, then_parse}
use Rattle.ddl_ops.specs.Numbers.{number_at, count_value}
use Rattle.ddl_ops.specs.Operators.{truth_of, infix_value, prefix_value}
use Rattle.ddl_ops.specs.Records.{selected, record_of}
use Rattle.ddl_ops.specs.Casts.{cast_value, fit, fitted}
use Rattle.ddl_ops.specs.Builtins.{builtin_value, primitive_outcome}
use Rattle.ddl_ops.specs.Primitives.{byte_values, one_byte, at_end, match_bytes, match_value, missed_at}
use Rattle.ddl_ops.specs.ByteSets.{class_byte}
use Rattle.ddl_ops.specs.Patterns.{guarded}
use Rattle.ddl_ops.specs.Arrays.{size, element, snoc}
use Rattle.ddl_core.specs.Core.{Operation, text, literal, truth, unit_, nothing_, just_, list, record_, union_, select, infix_, prefix_, cast, builtin}
use Rattle.ddl_core.specs.Core.{truth_of_, count_, most, push, less_one, first_position, has_position, element_at, key_at, next_position, gather, uint8}
use Rattle.ddl_core.specs.Core.{match_text, match, end, class, fail, no_case, primitive, guard, fits}

-- the fields of a record by their names
abbrev pub named_fields : List (List ℕ) → Values → Given Fields
named_fields [] no_values = gives no_fields
named_fields (name ∷ names) (value v vs) = then_value (named_fields names vs) (λ fs. gives (values.field name v fs))
named_fields names vs = stuck

-- how many keys a map has
abbrev pub count_pairs : Pairs → ℕ
count_pairs no_pairs = 0
count_pairs (pair k v ps) = suc (count_pairs ps)

-- the element at a position of a map
abbrev pub pair_at : Pairs → ℕ → Option Value
pair_at no_pairs i = None
pair_at (pair k v ps) zero = Some v
pair_at (pair k v ps) (suc i) = pair_at ps i

-- the key at a position of a map
abbrev pub pair_key_at : Pairs → ℕ → Option Value
pair_key_at no_pairs i = None
pair_key_at (pair k v ps) zero = Some k
pair_key_at (pair k v ps) (suc i) = pair_key_at ps i

-- new elements under old keys
abbrev pub with_elements : Pairs → Values → Given Pairs
with_elements no_pairs no_values = gives no_pairs
with_elements (pair k v ps) (value w ws) = then_value (with_elements ps ws) (λ qs. gives (pair k w qs))
with_elements ps vs = stuck

-- how many elements an array or a map has
abbrev pub elements_count : Value → Given ℕ
elements_count (array vs) = gives (size vs)
elements_count (mapping ps) = gives (count_pairs ps)
elements_count v = stuck

-- the position or the count that a value is
abbrev pub position_of : Value → Given ℕ
position_of (number (Uint width) (pos n)) = gives n
position_of v = stuck

-- a position as a value
abbrev pub position : ℕ → Value
position n = number (Uint 64) (pos n)

-- the element of an array or of a map at a position
abbrev pub element_there : Value → ℕ → Valued
element_there (array vs) i = given (element vs i)
element_there (mapping ps) i = given (pair_at ps i)
element_there v i = stuck

-- the key at a position of a map, or the position in an array
abbrev pub key_there : Value → ℕ → Valued
key_there (array vs) i = gives (count_value i)
key_there (mapping ps) i = given (pair_key_at ps i)
key_there v i = stuck

-- the elements that turns over an array or a map gave, as an array, or as a map with the same keys
abbrev pub gathered_as : Value → Values → Valued
gathered_as (array vs) ws = gives (array ws)
gathered_as (mapping ps) ws = then_value (with_elements ps ws) (λ qs. gives (mapping qs))
gathered_as v ws = stuck

-- what an operation on values gives; none of those on the stream is one
abbrev pub applied : Operation → Values → Span → Valued
applied (text bs) no_values span = gives (array (byte_values bs))
applied (literal n ty) no_values span = number_at n ty
applied (truth b) no_values span = gives (boolean b)
applied unit_ no_values span = gives unit
applied nothing_ no_values span = gives nothing
applied just_ (value v no_values) span = gives (just v)
applied list vs span = gives (array vs)
applied (record_ names) vs span = then_value (named_fields names vs) (λ fs. gives (record_of fs))
applied (union_ name) (value v no_values) span = gives (tagged name v)
applied (select name) (value v no_values) span = selected name v
applied (infix_ op) (value v (value w no_values)) span = infix_value op span v (gives w)
applied (prefix_ op) (value v no_values) span = prefix_value op span v
applied (cast c to) (value v no_values) span = cast_value c to v
applied (builtin b) vs span = builtin_value b vs
applied truth_of_ (value v no_values) span = truth_of v
applied count_ (value v no_values) span = then_value (position_of v) (λ n. gives v)
applied most (value (number ty (pos m)) (value (number other (pos n)) no_values)) span = gives (number ty (pos (max m n)))
applied push (value (array vs) (value v no_values)) span = gives (array (snoc vs v))
applied less_one (value (number ty (pos n)) no_values) span = gives (number ty (pos (n - 1)))
applied first_position no_values span = gives (position 0)
applied has_position (value w (value i no_values)) span = then_value (elements_count w) (λ n. then_value (position_of i) (λ k. gives (boolean (nat_lt k n))))
applied element_at (value w (value i no_values)) span = then_value (position_of i) (λ k. element_there w k)
applied key_at (value w (value i no_values)) span = then_value (position_of i) (λ k. key_there w k)
applied next_position (value w (value i no_values)) span =
    then_value (elements_count w) (λ n. then_value (position_of i) (λ k. gives (position (if nat_lt k n then suc k else k))))
applied gather (value w (value (array ws) no_values)) span = gathered_as w ws
applied op vs span = stuck

-- what an operation does on a stream
abbrev pub performed : Operation → Values → Span → Stream → Outcome
performed uint8 no_values span s = one_byte span s
performed (match_text bs) no_values span s = match_bytes bs (array (byte_values bs)) span s
performed match (value v no_values) span s = match_value v span s
performed end no_values span s = at_end span s
performed (class test) no_values span s = class_byte (Some test) span s
performed (fail n) no_values span s = missed_at (why.Said n) s span
performed no_case no_values span s = missed_at why.Case s span
performed (primitive p) vs span s = primitive_outcome p vs span s
performed (guard p) (value v no_values) span s = guarded p v span s
performed (fits to) (value v no_values) span s = fitted (fit to v) span s
performed op vs span s = then_parse (applied op vs span) (λ v. parsed v s)
