-- Which values have a pattern, and what it names.
use Rattle.std.specs.Prelude.{ℕ, List, Bool, true, false, bytes_eq, pos, Option, Some, None}
use Rattle.std.specs.Ordering.{int_eq}
use Rattle.ddl_base.specs.declared.span.Span.{Span}
use Rattle.ddl_base.specs.declared.why.Why.TheVariants.{Guard}
use Rattle.ddl_types.specs.Value.{Value, Stream, number, bitdata, boolean, unit, nothing, just, tagged}
use Rattle.ddl_types.specs.Layout.{Con, named_con, con_of}
use Rattle.ddl_types.specs.Outcome.{Outcome, Stuck, ends, parsed}
use Rattle.ddl_ops.specs.declared.pattern.Pattern.{Pattern}
use Rattle.ddl_ops.specs.declared.pattern.Pattern.TheVariants.{Any, Number, Truth, Nothing, Just, Tag}
use Rattle.ddl_ops.specs.Valued.{Valued, stuck}
use Rattle.ddl_ops.specs.Bitdata.{part_fields}
use Rattle.ddl_ops.specs.Records.{record_of}
use Rattle.ddl_ops.specs.Primitives.{missed_at}

-- the value has the pattern, with its content, or another one, or no pattern of this kind
pub data Matched : Type 0 where
  has_it : Value → Matched
  has_another : Matched
  has_none : Matched

-- a pattern by a test, with the content of a value that passes it
abbrev pub by_test : Bool → Value → Matched
by_test true content = has_it content
by_test false content = has_another

-- truth values are equal
abbrev pub same_truth : Bool → Bool → Bool
same_truth true b = b
same_truth false true = false
same_truth false false = true

-- a tag of a bitdata: that of the constructor which its number fits, with the record of its fields
abbrev pub by_con : List ℕ → Option Con → ℕ → Matched
by_con name (Some (named_con other ps)) n = by_test (bytes_eq name other) (record_of (part_fields ps n))
by_con name None n = has_none

-- whether a value has a pattern; the content is that of a `just` or a tag, else `{}`
abbrev pub matched : Pattern → Value → Matched
matched Any v = has_it unit
matched (Number n) (number ty z) = by_test (int_eq z (pos n)) unit
matched (Truth b) (boolean c) = by_test (same_truth b c) unit
matched Nothing nothing = has_it unit
matched Nothing (just v) = has_another
matched (Just x) nothing = has_another
matched (Just x) (just v) = has_it v
matched (Tag name x) (tagged other v) = by_test (bytes_eq name other) v
matched (Tag name x) (bitdata l n) = by_con name (con_of l n) n
matched p v = has_none

-- the name of the content
abbrev pub name_of : Pattern → Option ℕ
name_of Any = None
name_of (Number n) = None
name_of (Truth b) = None
name_of Nothing = None
name_of (Just x) = x
name_of (Tag name x) = x

-- the alternative of a pattern, where its value is, and else the alternatives after it
abbrev pub value_at : Matched → (Value → Valued) → Valued → Valued
value_at (has_it content) here later = here content
value_at has_another here later = later
value_at has_none here later = stuck

-- the same of grammars
abbrev pub outcome_at : Matched → (Value → Outcome) → Outcome → Outcome
outcome_at (has_it content) here later = here content
outcome_at has_another here later = later
outcome_at has_none here later = ends Stuck

-- `e is p`: the content; it fails on another value
abbrev pub guarded : Pattern → Value → Span → Stream → Outcome
guarded p v span s = outcome_at (matched p v) (λ content. parsed content s) (missed_at Guard s span)
