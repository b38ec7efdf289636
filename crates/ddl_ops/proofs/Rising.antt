-- A larger depth: what value forms give, and what operators and patterns make of it.
use Rattle.ddl_base.specs.declared.span.Span.{Span}
use Rattle.ddl_types.specs.declared.fault.Fault.{Fault}
use Rattle.ddl_types.specs.Outcome.{Outcome}
use Rattle.ddl_types.specs.Growth.{Grows, at_deep, at_fault, at_stuck, at_tick}
use Rattle.std.specs.Prelude.{true, false}
use Rattle.ddl_types.specs.Value.{Value, boolean}
use Rattle.ddl_ops.specs.declared.operators.Infix.{Infix}
use Rattle.ddl_ops.specs.declared.operators.Infix.TheVariants.{Arithmetic, Compare, Beside, Append, And, Or}
use Rattle.ddl_ops.specs.Valued.{Given, Valued, gives, fails, deep, stuck, counts, then_value, then_parse}
use Rattle.ddl_ops.specs.Operators.{infix_value}
use Rattle.ddl_ops.specs.Patterns.{Matched, has_it, has_another, has_none, value_at, outcome_at}

-- the same, or more where the first is Deep
pub data Rises {A : Type 0} : Given A → Given A → Type 0 where
  is_deep : {o : Given A} → Rises deep o
  is_value : {v : A} → Rises (gives v) (gives v)
  is_fault : {fault : Fault} {span : Span} → Rises (fails fault span) (fails fault span)
  is_stuck : Rises stuck stuck
  is_counted : {o p : Given A} → Rises o p → Rises (counts o) (counts p)

pub rises_same : {A : Type 0} (o : Given A) → Rises o o
rises_same (gives v) = is_value
rises_same (fails fault span) = is_fault
rises_same deep = is_deep
rises_same stuck = is_stuck
rises_same (counts o) = is_counted (rises_same o)

pub then_value_rises : {A B : Type 0} {o o' : Given A} (k k' : A → Given B) → Rises o o' → ((v : A) → Rises (k v) (k' v)) →
    Rises (then_value o k) (then_value o' k')
then_value_rises k k' is_deep e = is_deep
then_value_rises k k' (is_value {v = v}) e = e v
then_value_rises k k' is_fault e = is_fault
then_value_rises k k' is_stuck e = is_stuck
then_value_rises k k' (is_counted h) e = is_counted (then_value_rises k k' h e)

pub then_parse_grows : {A : Type 0} {o o' : Given A} (k k' : A → Outcome) → Rises o o' → ((v : A) → Grows (k v) (k' v)) →
    Grows (then_parse o k) (then_parse o' k')
then_parse_grows k k' is_deep e = at_deep
then_parse_grows k k' (is_value {v = v}) e = e v
then_parse_grows k k' is_fault e = at_fault
then_parse_grows k k' is_stuck e = at_stuck
then_parse_grows k k' (is_counted h) e = at_tick (then_parse_grows k k' h e)

pub infix_rises : (op : Infix) (span : Span) (v : Value) {o o' : Valued} → Rises o o' → Rises (infix_value op span v o) (infix_value op span v o')
infix_rises (Arithmetic op) span v h = then_value_rises _ _ h (λ w. rises_same _)
infix_rises (Compare c) span v h = then_value_rises _ _ h (λ w. rises_same _)
infix_rises Beside span v h = then_value_rises _ _ h (λ w. rises_same _)
infix_rises Append span v h = then_value_rises _ _ h (λ w. rises_same _)
infix_rises And span (boolean true) h = then_value_rises _ _ h (λ w. rises_same _)
infix_rises And span (boolean false) h = rises_same _
infix_rises Or span (boolean true) h = rises_same _
infix_rises Or span (boolean false) h = then_value_rises _ _ h (λ w. rises_same _)
infix_rises op span v h = is_stuck

pub value_at_rises : (m : Matched) (k k' : Value → Valued) {b b' : Valued} → ((v : Value) → Rises (k v) (k' v)) → Rises b b' →
    Rises (value_at m k b) (value_at m k' b')
value_at_rises (has_it content) k k' e h = e content
value_at_rises has_another k k' e h = h
value_at_rises has_none k k' e h = is_stuck

pub outcome_at_grows : (m : Matched) (k k' : Value → Outcome) {b b' : Outcome} → ((v : Value) → Grows (k v) (k' v)) → Grows b b' →
    Grows (outcome_at m k b) (outcome_at m k' b')
outcome_at_grows (has_it content) k k' e h = e content
outcome_at_grows has_another k k' e h = h
outcome_at_grows has_none k k' e h = at_stuck
