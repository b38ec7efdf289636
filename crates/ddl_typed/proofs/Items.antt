-- One more item of a block, and one more name in scope.
use Rattle.std.proofs.Common.{◌≡◌, ℕ, zero, suc, ◌+◌, ◌<◌, ◌≤◌, List, [], ◌∷◌, ◌++◌, length, map, drop, take, get_or, refl, ap, sym, ◌∙◌, subst, drop-cons}
use Rattle.std.proofs.Common.{add-one, append_assoc, arith}
use Rattle.std.proofs.lemmas.List.{drop_all, take-append-drop, map-append, length-map, get_or-map}
use Rattle.std.proofs.Math.Seq.{take-append_seam}
use Rattle.std.specs.declared.alloc.Global.{Global}
use Rattle.std.specs.declared.rc.Rc.{Rc}
use Rattle.ddl_base.specs.declared.span.Span.{Span}
use Rattle.ddl_base.specs.declared.why.Why.{Why}
use Rattle.ddl_types.specs.Value.{Value, Source, array}
use Rattle.ddl_types.specs.Types.{Ty}
use Rattle.ddl_types.specs.Outcome.{parsed, missed}
use Rattle.ddl_typed.specs.Tree.{item, expr, text, local}
use Rattle.ddl_typed.specs.Env.{lookup, Env, empty, with_value}
use Rattle.ddl_ops.specs.Valued.{counts, gives}
use Rattle.ddl_typed.specs.Blocks.{Built, block_value, bound, with_part}
use Rattle.ddl_typed.specs.Simple.{AreSimple, IsSimpleItem, names_after}
use Rattle.ddl_typed.specs.declared.expr.TItem.{TItem}
use Rattle.ddl_typed.specs.declared.shared.Shared.{Shared}
use Rattle.ddl_typed.specs.View.{item_view, items_view}
use Rattle.ddl_typed.specs.Evaluated.{stream_at, meant_item, meant_items, rc_view, scope_view, env_from, simple_value_of}
use Rattle.ddl_ops.specs.Primitives.{byte_values}
use Rattle.ddl_typed.proofs.Meant.{items_none, items_gave, items_failed}

-- ---- items

at_item : (xs : List TItem) (k : ℕ) (x : TItem) → k < length xs → x ≡ get_or xs k x → items_view (drop k xs) ≡ item (item_view x) (items_view (drop (k + 1) xs))
at_item xs k x h e = let next : drop k xs ≡ x ∷ drop (k + 1) xs = rw (add-one, drop-cons xs k x, ← e) in ap items_view next

pub next_simple : (xs : List TItem) (k n : ℕ) (x : TItem) → k < length xs → x ≡ get_or xs k x → AreSimple (items_view (drop k xs)) n
    → IsSimpleItem (item_view x) n × AreSimple (items_view (drop (k + 1) xs)) (names_after (item_view x) n)
next_simple xs k n x h e s = subst (λ is. AreSimple is n) (at_item xs k x h e) s

pub next_gave : (input : List ℕ) (xs : List TItem) (k : ℕ) (x : TItem) (env : Env) (b : Built) (at next : ℕ) (v : Value) → k < length xs → x ≡ get_or xs k x
    → meant_item input (item_view x) env at ≡ parsed v (stream_at input next)
    → meant_items input (items_view (drop k xs)) env b at ≡ meant_items input (items_view (drop (k + 1) xs)) (bound (item_view x) v env)
    (with_part (item_view x) v b) next
next_gave input xs k x env b at next v h e g =
    ap (λ is. meant_items input is env b at) (at_item xs k x h e) ∙ items_gave input (item_view x) (items_view (drop (k + 1) xs)) env b at next v g

pub next_failed : (input : List ℕ) (xs : List TItem) (k : ℕ) (x : TItem) (env : Env) (b : Built) (at : ℕ) (w : Why) (source : Source) (a : ℕ) (span : Span)
    → k < length xs → x ≡ get_or xs k x → meant_item input (item_view x) env at ≡ missed w source a span
    → meant_items input (items_view (drop k xs)) env b at ≡ missed w source a span
next_failed input xs k x env b at w source a span h e g =
    ap (λ is. meant_items input is env b at) (at_item xs k x h e) ∙ items_failed input (item_view x) (items_view (drop (k + 1) xs)) env b at w source a span g

pub none_left : (input : List ℕ) (xs : List TItem) (k : ℕ) (env : Env) (b : Built) (at : ℕ) → length xs ≤ k
    → meant_items input (items_view (drop k xs)) env b at ≡ parsed (block_value b) (stream_at input at)
none_left input xs k env b at h = ap (λ ys. meant_items input (items_view ys) env b at) (drop_all k xs h) ∙ items_none input env b at

-- what is kept below a number of names is kept below fewer
pub kept_below : {X : Type 0} (xs ys zs : List X) → take (length ys) zs ≡ ys → take (length xs) ys ≡ xs → take (length xs) zs ≡ xs
kept_below xs ys zs h k =
    let zs_is : zs ≡ ys ++ drop (length ys) zs = sym (take-append-drop (length ys) zs) ∙ ap (λ l. l ++ drop (length ys) zs) h in
    let ys_is : ys ≡ xs ++ drop (length xs) ys = sym (take-append-drop (length xs) ys) ∙ ap (λ l. l ++ drop (length xs) ys) k in
    ap (take (length xs)) (zs_is ∙ ap (λ l. l ++ drop (length ys) zs) ys_is ∙ append_assoc xs (drop (length xs) ys) (drop (length ys) zs))
    ∙ take-append_seam xs (drop (length xs) ys ++ drop (length ys) zs)

pub ruleset steps = (next_simple, next_gave, next_failed, none_left, kept_below)

-- ---- names

one_more_name : (n : ℕ) (vs : List Value) (v : Value) (env : Env) → env_from n (vs ++ v ∷ []) env ≡ with_value (n + length vs) v (env_from n vs env)
one_more_name n [] v env = ap (λ m. with_value m v env) (omega arith)
one_more_name n (w ∷ vs) v env =
    one_more_name (n + 1) vs v (with_value n w env) ∙ ap (λ m. with_value m v (env_from (n + 1) vs (with_value n w env))) (omega arith)

pub scope_push : (scope : List (Rc Shared Global)) (rc : Rc Shared Global)
    → scope_view (scope ++ rc ∷ []) ≡ with_value (length scope) (rc_view rc) (scope_view scope)
scope_push scope rc =
    ap (λ vs. env_from 0 vs empty) (map-append rc_view scope (rc ∷ []))
    ∙ one_more_name 0 (map rc_view scope) (rc_view rc) empty
    ∙ ap (λ m. with_value m (rc_view rc) (scope_view scope)) (let e : 0 + length (map rc_view scope) ≡ length scope = omega (arith, length-map scope rc_view)
    in e)

pub take_push : {X : Type 0} (xs ys : List X) → take (length xs) (xs ++ ys) ≡ xs
take_push xs ys = take-append_seam xs ys

-- later names leave the earlier ones
lower_name : (m y : ℕ) (vs : List Value) (env : Env) → y < m → lookup (env_from m vs env) y ≡ lookup env y
lower_name m y [] env h = refl
lower_name m y (v ∷ vs) env h = lower_name (m + 1) y vs (with_value m v env) (omega arith) ∙ grind arith

name_at : (n x : ℕ) (vs : List Value) (env : Env) (d : Value) → x < length vs → lookup (env_from n vs env) (n + x) ≡ gives (get_or vs x d)
name_at n x [] env d h = absurd (omega arith)
name_at n zero (v ∷ vs) env d h = lower_name (n + 1) (n + 0) vs (with_value n v env) (omega arith) ∙ grind arith
name_at n (suc x) (v ∷ vs) env d h =
    ap (λ m. lookup (env_from (n + 1) vs (with_value n v env)) m) (let e : n + suc x ≡ n + 1 + x = omega arith in e)
    ∙ name_at (n + 1) x vs (with_value n v env) d (omega arith)

pub scope_at : (scope : List (Rc Shared Global)) (x : ℕ) (rc : Rc Shared Global) → x < length scope → rc ≡ get_or scope x rc
    → lookup (scope_view scope) x ≡ gives (rc_view rc)
scope_at scope x rc h e =
    ap (λ m. lookup (scope_view scope) m) (let z : x ≡ 0 + x = omega arith in z)
    ∙ name_at 0 x (map rc_view scope) empty (rc_view rc) (omega (arith, length-map scope rc_view))
    ∙ ap gives (get_or-map rc_view scope x rc (rc_view rc) h ∙ ap rc_view (sym e))

-- what a simple value form gives
pub value_text : (bs : List ℕ) (ty : Ty) (span : Span) (env : Env) → simple_value_of (expr (text bs) ty span) env ≡ counts (gives (array (byte_values bs)))
unfolding simple_value_of
value_text bs ty span env = refl

pub value_name : (x : ℕ) (ty : Ty) (span : Span) (env : Env) (v : Value) → lookup env x ≡ gives v
    → simple_value_of (expr (local x) ty span) env ≡ counts (gives v)
unfolding simple_value_of
value_name x ty span env v h = ap counts h

pub ruleset scopes = (scope_push, take_push, scope_at, value_text, value_name)
