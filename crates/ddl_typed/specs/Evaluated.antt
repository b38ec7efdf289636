-- What the evaluator's functions give.
use Rattle.std.specs.Prelude.{◌≡◌, ℕ, ◌+◌, List, [], ◌∷◌, map, length, false, Option, Some, None, Result, Ok, Err}
use Rattle.std.specs.declared.alloc.Global.{Global}
use Rattle.std.specs.declared.rc.Rc.{Rc}
use Rattle.ddl_base.specs.declared.span.Span.{Span}
use Rattle.ddl_types.specs.Value.{Value, Stream, in_input, unit, array}
use Rattle.ddl_types.specs.Types.{Ty}
use Rattle.ddl_types.specs.Outcome.{Outcome, parsed, missed, unticked}
use Rattle.ddl_typed.specs.Tree.{no_spec, Expr, Items, Item, expr, text}
use Rattle.ddl_typed.specs.Env.{Env, empty, with_value}
use Rattle.ddl_ops.specs.Valued.{Valued}
use Rattle.ddl_typed.specs.Blocks as b
use Rattle.ddl_ops.specs.Primitives.{byte_values, one_byte, at_end, match_bytes}
use Rattle.ddl_typed.specs.Lower.{bottom}
use Rattle.ddl_typed.specs.Meaning.{val, den, den_items, den_item}
use Rattle.ddl_typed.specs.SharedView.{shared_view, parts_view}
use Rattle.ddl_typed.specs.AnswerView.{source_of, is_said}
use Rattle.ddl_typed.specs.declared.shared.Shared.{Shared}
use Rattle.ddl_typed.specs.declared.built.Built.{Built}
use Rattle.ddl_typed.specs.declared.step.Parsed.{Parsed}
use Rattle.ddl_typed.specs.declared.step.Stop.{Stop}
use Rattle.ddl_typed.specs.declared.step.Stop.TheVariants.{Failed, NoMemory}

-- the input from a place on
abbrev pub stream_at : List ℕ → ℕ → Stream
stream_at input at = record { bytes = input; source = in_input; from = at; to = length input }

-- the values of names that are numbered from n on, above an environment
abbrev pub env_from : ℕ → List Value → Env → Env
env_from n [] env = env
env_from n (v ∷ vs) env = env_from (n + 1) vs (with_value n v env)

abbrev pub rc_view : Rc Shared Global → Value
rc_view rc = shared_view rc.value

-- the values of the names in scope
abbrev pub scope_view : List (Rc Shared Global) → Env
scope_view scope = env_from 0 (map rc_view scope) empty

abbrev pub result_view : Option (Rc Shared Global) → Option Value
result_view None = None
result_view (Some rc) = Some (rc_view rc)

abbrev pub last_view : Option (Rc Shared Global) → Value
last_view None = unit
last_view (Some rc) = rc_view rc

abbrev pub built_view : Built → b.Built
built_view built = record { named = parts_view built.parts.items; result = result_view built.result; last = last_view built.last }

-- the meaning of a form without its ticks; the simple forms need no depth
unfoldable pub meant : List ℕ → Expr → Env → ℕ → Outcome
meant input e env at = unticked (den no_spec bottom e env (stream_at input at))

unfoldable pub meant_item : List ℕ → Item → Env → ℕ → Outcome
meant_item input i env at = unticked (den_item no_spec bottom i env (stream_at input at))

unfoldable pub meant_items : List ℕ → Items → Env → b.Built → ℕ → Outcome
meant_items input is env built at = unticked (den_items no_spec bottom is env built (stream_at input at))

-- the next byte
unfoldable pub byte_at : List ℕ → Span → ℕ → Outcome
byte_at input span at = unticked (one_byte span (stream_at input at))

-- the end
unfoldable pub end_at : List ℕ → Span → ℕ → Outcome
end_at input span at = unticked (at_end span (stream_at input at))

-- the match of these bytes of a text
unfoldable pub matched : List ℕ → List ℕ → List ℕ → Span → ℕ → Outcome
matched input bs whole span at = unticked (match_bytes bs (array (byte_values whole)) span (stream_at input at))

-- the value of a value form
unfoldable pub simple_value_of : Expr → Env → Valued
simple_value_of e env = val no_spec bottom e env

-- the outcome is this value or this failure, which is not that of a `Fail`; where memory ran out nothing is told
abbrev pub Gives : List ℕ → Outcome → Result Parsed Stop → Type 0
Gives input o (Ok p) = o ≡ parsed (rc_view p.value) (stream_at input p.at)
Gives input o (Err (Failed f)) = (o ≡ missed f.why (source_of f.in_input) f.at f.span) × (is_said f.why ≡ false)
Gives input o (Err NoMemory) = Unit {0}

-- the form is the text of these bytes
abbrev pub IsTextOf : List ℕ → Expr → Type 0
IsTextOf bs e = (ty : Ty) × (span : Span) × (e ≡ expr (text bs) ty span)
