-- The equations of the simple forms, without their ticks.
use Rattle.std.proofs.Common.{◌≡◌, ℕ, ◌+◌, ◌<◌, ◌≤◌, List, [], ◌∷◌, length, get_or, refl, ap, ◌∙◌, arith}
use Rattle.ddl_base.specs.declared.span.Span.{Span}
use Rattle.ddl_base.specs.declared.why.Why.{Why}
use Rattle.ddl_base.specs.declared.why.Why.TheVariants as why
use Rattle.ddl_types.specs.Value.{Value, Stream, Source, in_input, unit, array}
use Rattle.ddl_types.specs.Types.{Ty}
use Rattle.ddl_types.specs.Outcome.{Outcome, tick, parsed, missed, unticked}
use Rattle.ddl_types.specs.Joining.{Bind}
use Rattle.ddl_types.proofs.Joins.{unticked_leave, unticked_bind, both_end}
use Rattle.ddl_typed.specs.Tree.{no_spec, Expr, Items, Item, expr, pure, uint8, match, end, block, no_items, item, plain, let_, field, result_}
use Rattle.ddl_typed.specs.Env.{Env}
use Rattle.ddl_ops.specs.Valued.{gives, counts, then_parse}
use Rattle.ddl_ops.specs.Primitives.{byte_value, byte_values, match_bytes, with_bytes}
use Rattle.ddl_typed.specs.Blocks.{Built, nothing_built, block_value, bound, with_part}
use Rattle.ddl_typed.specs.Lower.{bottom}
use Rattle.ddl_typed.specs.Meaning.{den_items, den_item}
use Rattle.ddl_typed.specs.Evaluated.{stream_at, meant, meant_item, meant_items, byte_at, end_at, matched, simple_value_of, IsTextOf}

-- ---- forms

pub byte_there : (input : List ℕ) (span : Span) (at : ℕ) → at < length input
    → byte_at input span at ≡ parsed (byte_value (get_or input at 0)) (stream_at input (at + 1))
unfolding byte_at
byte_there input span at h = grind arith

pub byte_absent : (input : List ℕ) (span : Span) (at : ℕ) → length input ≤ at → byte_at input span at ≡ missed why.Byte in_input at span
unfolding byte_at
byte_absent input span at h = grind arith

pub meant_uint8 : (input : List ℕ) (ty : Ty) (span : Span) (env : Env) (at : ℕ) → meant input (expr uint8 ty span) env at ≡ byte_at input span at
unfolding meant byte_at
meant_uint8 input ty span env at = refl

pub end_there : (input : List ℕ) (span : Span) (at : ℕ) → length input ≤ at → end_at input span at ≡ parsed unit (stream_at input at)
unfolding end_at
end_there input span at h = grind arith

pub end_absent : (input : List ℕ) (span : Span) (at : ℕ) → at < length input → end_at input span at ≡ missed why.End in_input at span
unfolding end_at
end_absent input span at h = grind arith

pub meant_end : (input : List ℕ) (ty : Ty) (span : Span) (env : Env) (at : ℕ) → meant input (expr end ty span) env at ≡ end_at input span at
unfolding meant end_at
meant_end input ty span env at = refl

pub meant_pure : (input : List ℕ) (e : Expr) (ty : Ty) (span : Span) (env : Env) (at : ℕ) (v : Value) → simple_value_of e env ≡ counts (gives v)
    → meant input (expr (pure e) ty span) env at ≡ parsed v (stream_at input at)
unfolding meant simple_value_of
meant_pure input e ty span env at v h = ap (λ o. unticked (tick (then_parse o (λ w. parsed w (stream_at input at))))) h

-- the bytes of a text are those of its value
with_text : (bs : List ℕ) (rest : List ℕ → Outcome) → with_bytes (byte_values bs) rest ≡ rest bs
with_text [] rest = refl
with_text (b ∷ bs) rest = with_text bs (λ cs. rest (b ∷ cs))

pub meant_match : (input : List ℕ) (bs : List ℕ) (e : Expr) (ty : Ty) (span : Span) (env : Env) (at : ℕ) → IsTextOf bs e
    → meant input (expr (match e) ty span) env at ≡ matched input bs bs span at
unfolding meant matched
meant_match input bs e ty span env at h =
    ap (λ f. meant input (expr (match f) ty span) env at) h.2
    ∙ ap unticked (with_text bs (λ cs. match_bytes cs (array (byte_values bs)) span (stream_at input at)))

pub meant_block : (input : List ℕ) (is : Items) (ty : Ty) (span : Span) (env : Env) (at : ℕ)
    → meant input (expr (block is) ty span) env at ≡ meant_items input is env nothing_built at
unfolding meant meant_items
meant_block input is ty span env at = unticked_leave (den_items no_spec bottom is env nothing_built (stream_at input at))

-- ---- items

pub item_plain : (input : List ℕ) (e : Expr) (env : Env) (at : ℕ) → meant_item input (plain e) env at ≡ meant input e env at
unfolding meant meant_item
item_plain input e env at = refl

pub item_let : (input : List ℕ) (x : ℕ) (e : Expr) (env : Env) (at : ℕ) → meant_item input (let_ x e) env at ≡ meant input e env at
unfolding meant meant_item
item_let input x e env at = refl

pub item_field : (input name : List ℕ) (x : ℕ) (e : Expr) (env : Env) (at : ℕ) → meant_item input (field name x e) env at ≡ meant input e env at
unfolding meant meant_item
item_field input name x e env at = refl

pub item_result : (input : List ℕ) (e : Expr) (env : Env) (at : ℕ) → meant_item input (result_ e) env at ≡ meant input e env at
unfolding meant meant_item
item_result input e env at = refl

pub items_none : (input : List ℕ) (env : Env) (b : Built) (at : ℕ) → meant_items input no_items env b at ≡ parsed (block_value b) (stream_at input at)
unfolding meant_items
items_none input env b at = refl

-- the rest of the items without its ticks
rest_of : Items → Env → Built → Item → Value → Stream → Outcome
rest_of is env b i v s = unticked (den_items no_spec bottom is (bound i v env) (with_part i v b) s)

items_bound : (input : List ℕ) (i : Item) (is : Items) (env : Env) (b : Built) (at : ℕ)
    → meant_items input (item i is) env b at ≡ Bind (meant_item input i env at) (rest_of is env b i)
unfolding meant_items meant_item rest_of
items_bound input i is env b at = unticked_bind (den_item no_spec bottom i env (stream_at input at)) (λ v s.
    den_items no_spec bottom is (bound i v env) (with_part i v b) s)

-- an item that gave a value
pub items_gave : (input : List ℕ) (i : Item) (is : Items) (env : Env) (b : Built) (at next : ℕ) (v : Value)
    → meant_item input i env at ≡ parsed v (stream_at input next)
    → meant_items input (item i is) env b at ≡ meant_items input is (bound i v env) (with_part i v b) next
unfolding meant_items rest_of
items_gave input i is env b at next v h =
    items_bound input i is env b at
    ∙ ap (λ o. Bind o (rest_of is env b i)) h
    ∙ both_end (rest_of is env b i v (stream_at input next))

-- an item that failed
pub items_failed : (input : List ℕ) (i : Item) (is : Items) (env : Env) (b : Built) (at : ℕ) (w : Why) (source : Source) (a : ℕ) (span : Span)
    → meant_item input i env at ≡ missed w source a span → meant_items input (item i is) env b at ≡ missed w source a span
items_failed input i is env b at w source a span h = items_bound input i is env b at ∙ ap (λ o. Bind o (rest_of is env b i)) h

pub ruleset meants = (
  byte_there,
  byte_absent,
  end_there,
  end_absent,
  meant_uint8,
  meant_end,
  meant_pure,
  meant_match,
  meant_block,
  item_plain,
  item_let,
  item_field,
  item_result,
  items_none,
)
