-- Sets of bytes, and the next byte of one.
use Rattle.std.specs.Prelude.{ℕ, ◌&&◌, Bool, if◌then◌else◌, Option, Some, None}
use Rattle.ddl_base.specs.declared.span.Span.{Span}
use Rattle.ddl_base.specs.declared.why.Why.TheVariants as why
use Rattle.ddl_types.specs.Value.{Stream}
use Rattle.ddl_types.specs.Outcome.{Outcome, Stuck, ends, parsed}
use Rattle.ddl_ops.specs.Primitives.{byte_value, has_byte, first_byte, onward, missed_at}

-- a set of bytes, by its test
abbrev pub Set : Type 0
Set = ℕ → Bool

-- a class as a grammar: the next byte, where it is in the set
abbrev pub class_byte : Option Set → Span → Stream → Outcome
class_byte (Some test) span s = if has_byte s && test (first_byte s) then parsed (byte_value (first_byte s)) (onward s) else missed_at why.Class s span
class_byte None span s = ends Stuck
