-- The simple forms mean the same at every depth.
use Rattle.std.proofs.Common.{◌≡◌, ℕ, refl, ap, ◌∙◌}
use Rattle.ddl_base.specs.declared.span.Span.{Span}
use Rattle.ddl_types.specs.Types.{Ty}
use Rattle.ddl_types.specs.Value.{Value, Stream}
use Rattle.ddl_types.specs.Outcome.{Outcome, ends, tick, miss, parse, parsed}
use Rattle.ddl_types.specs.Joining.{Both, Bind, leave}
use Rattle.ddl_typed.specs.Tree.{Expr, Form, Items, Item, Spec, no_spec, expr, text, local, pure, uint8, match, end, block, no_items, item, plain, let_, field}
use Rattle.ddl_typed.specs.Tree.{result_}
use Rattle.ddl_typed.specs.Env.{Env}
use Rattle.ddl_ops.specs.Valued.{then_parse}
use Rattle.ddl_ops.specs.Primitives.{match_value}
use Rattle.ddl_typed.specs.Blocks.{Built, nothing_built, with_part, bound}
use Rattle.ddl_typed.specs.Lower.{Lower, bottom}
use Rattle.ddl_typed.specs.Meaning.{val, den, form_den, den_items, den_item}
use Rattle.ddl_typed.specs.Simple.{IsText, IsSimpleValue, IsSimple, IsSimpleForm, AreSimple, IsSimpleItem, names_after}

-- the same rest of each parse gives the same outcome
bind_same : (o : Outcome) (k k' : Value → Stream → Outcome) → ((v : Value) (s : Stream) → k v s ≡ k' v s) → Bind o k ≡ Bind o k'
bind_same (ends e) k k' h = refl
bind_same (tick o) k k' h = ap tick (bind_same o k k' h)
bind_same (miss w i a f o) k k' h = ap (miss w i a f) (bind_same o k k' h)
bind_same (parse v s o) k k' h = ap (λ p. Both p (Bind o k)) (h v s) ∙ ap (Both (k' v s)) (bind_same o k k' h)

module _ (spec : Spec) (lower : Lower) where
  same_value : (e : Expr) (n : ℕ) (env : Env) → IsSimpleValue e n → val spec lower e env ≡ val no_spec bottom e env
  same_value (expr (text bs) ty span) n env h = refl
  same_value (expr (local x) ty span) n env h = refl
  same_value (expr form ty span) n env h = absurd h

  same_text : (e : Expr) (env : Env) → IsText e → val spec lower e env ≡ val no_spec bottom e env
  same_text (expr (text bs) ty span) env h = refl
  same_text (expr form ty span) env h = absurd h

  mutual
    pub same_den : (e : Expr) (n : ℕ) (env : Env) (s : Stream) → IsSimple e n → den spec lower e env s ≡ den no_spec bottom e env s
    same_den (expr form ty span) n env s h = same_form form ty span n env s h

    same_form : (form : Form) (ty : Ty) (span : Span) (n : ℕ) (env : Env) (s : Stream) → IsSimpleForm form n
        → form_den spec lower form ty span env s ≡ form_den no_spec bottom form ty span env s
    same_form (pure e) ty span n env s h = ap (λ o. tick (then_parse o (λ v. parsed v s))) (same_value e n env h)
    same_form uint8 ty span n env s h = refl
    same_form (match e) ty span n env s h = ap (λ o. tick (then_parse o (λ v. match_value v span s))) (same_text e env h)
    same_form end ty span n env s h = refl
    same_form (block is) ty span n env s h = ap (λ o. tick (leave o)) (same_items is n env nothing_built s h)
    same_form form ty span n env s h = absurd h

    same_items : (is : Items) (n : ℕ) (env : Env) (b : Built) (s : Stream) → AreSimple is n
        → den_items spec lower is env b s ≡ den_items no_spec bottom is env b s
    same_items no_items n env b s h = refl
    same_items (item i is) n env b s h =
        ap (λ o. Bind o (λ v t. den_items spec lower is (bound i v env) (with_part i v b) t)) (same_item i n env s h.0)
        ∙ bind_same (den_item no_spec bottom i env s) _ _ (λ v t. same_items is (names_after i n) (bound i v env) (with_part i v b) t h.1)

    same_item : (i : Item) (n : ℕ) (env : Env) (s : Stream) → IsSimpleItem i n → den_item spec lower i env s ≡ den_item no_spec bottom i env s
    same_item (plain e) n env s h = same_den e n env s h
    same_item (let_ x e) n env s h = same_den e n env s h.1
    same_item (field name x e) n env s h = same_den e n env s h.1
    same_item (result_ e) n env s h = same_den e n env s h
