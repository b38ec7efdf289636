-- Calls of the declarations of a group in its own trees: they hand on the group's variables.
use Rattle.std.specs.Prelude.{ℕ, zero, suc, if◌then◌else◌, Bool}
use Rattle.ddl_types.specs.Types.{Ty.var}
use Rattle.ddl_typed.specs.Tree.{Expr, Form, Exprs, Named, Content, Cases, Bounds, Alts, Args, Items, Item, expr, just_, list, record_, union_, select, infix_}
use Rattle.ddl_typed.specs.Tree.{prefix_, cast, builtin, value_call, paren, if_, case_, for_, map_, pure, match, primitive, is_, fits, block, first, choose}
use Rattle.ddl_typed.specs.Tree.{many, optional, call, no_exprs, more, no_named, named, no_content, content, no_cases, when, unbounded, exactly, from_, up_to}
use Rattle.ddl_typed.specs.Tree.{between, no_alts, alt, tag, no_args, by_value, by_grammar, by_class, by_type, by_hand, no_items, item, plain, let_, field}
use Rattle.ddl_typed.specs.Tree.{result_}

-- so many variables as they are, from the i-th on
abbrev pub own_types : ℕ → ℕ → Args → Args
own_types zero i as_ = as_
own_types (suc k) i as_ = by_type i (var i) (own_types k (suc i) as_)

-- in a group of these members, with n variables
module _ (is_member : ℕ → Bool) (n : ℕ) where
  abbrev pub with_types : ℕ → Args → Args
  with_types d as_ = if is_member d then own_types n 0 as_ else as_

  abbrev mutual
    pub with_calls : Expr → Expr
    with_calls (expr g t s) = expr (form_calls g) t s

    pub form_calls : Form → Form
    form_calls (just_ e) = just_ (with_calls e)
    form_calls (list es) = list (all_calls es)
    form_calls (record_ ns) = record_ (named_calls ns)
    form_calls (union_ x c) = union_ x (content_calls c)
    form_calls (select e x) = select (with_calls e) x
    form_calls (infix_ o a b) = infix_ o (with_calls a) (with_calls b)
    form_calls (prefix_ o e) = prefix_ o (with_calls e)
    form_calls (cast c e) = cast c (with_calls e)
    form_calls (builtin b es) = builtin b (all_calls es)
    form_calls (value_call d as_) = value_call d (with_types d (args_calls as_))
    form_calls (paren e) = paren (with_calls e)
    form_calls (if_ c a b) = if_ (with_calls c) (with_calls a) (with_calls b)
    form_calls (case_ e cs) = case_ (with_calls e) (cases_calls cs)
    form_calls (for_ x i b l e) = for_ x (with_calls i) b (with_calls l) (with_calls e)
    form_calls (map_ b l e) = map_ b (with_calls l) (with_calls e)
    form_calls (pure e) = pure (with_calls e)
    form_calls (match e) = match (with_calls e)
    form_calls (primitive p es) = primitive p (all_calls es)
    form_calls (is_ e p) = is_ (with_calls e) p
    form_calls (fits e) = fits (with_calls e)
    form_calls (block is) = block (items_calls is)
    form_calls (first as_) = first (alts_calls as_)
    form_calls (choose as_) = choose (alts_calls as_)
    form_calls (many c b e) = many c (bounds_calls b) (with_calls e)
    form_calls (optional c e) = optional c (with_calls e)
    form_calls (call d as_) = call d (with_types d (args_calls as_))
    form_calls g = g

    pub all_calls : Exprs → Exprs
    all_calls no_exprs = no_exprs
    all_calls (more e es) = more (with_calls e) (all_calls es)

    pub named_calls : Named → Named
    named_calls no_named = no_named
    named_calls (named x e ns) = named x (with_calls e) (named_calls ns)

    pub content_calls : Content → Content
    content_calls no_content = no_content
    content_calls (content e) = content (with_calls e)

    pub cases_calls : Cases → Cases
    cases_calls no_cases = no_cases
    cases_calls (when p e cs) = when p (with_calls e) (cases_calls cs)

    pub bounds_calls : Bounds → Bounds
    bounds_calls unbounded = unbounded
    bounds_calls (exactly a) = exactly (with_calls a)
    bounds_calls (from_ a) = from_ (with_calls a)
    bounds_calls (up_to a) = up_to (with_calls a)
    bounds_calls (between a b) = between (with_calls a) (with_calls b)

    pub alts_calls : Alts → Alts
    alts_calls no_alts = no_alts
    alts_calls (alt e as_) = alt (with_calls e) (alts_calls as_)
    alts_calls (tag x e as_) = tag x (with_calls e) (alts_calls as_)

    pub args_calls : Args → Args
    args_calls no_args = no_args
    args_calls (by_value i e as_) = by_value i (with_calls e) (args_calls as_)
    args_calls (by_grammar i s e as_) = by_grammar i s (with_calls e) (args_calls as_)
    args_calls (by_class i c as_) = by_class i c (args_calls as_)
    args_calls (by_type i t as_) = by_type i t (args_calls as_)
    args_calls (by_hand x y as_) = by_hand x y (args_calls as_)

    pub items_calls : Items → Items
    items_calls no_items = no_items
    items_calls (item i is) = item (item_calls i) (items_calls is)

    pub item_calls : Item → Item
    item_calls (plain e) = plain (with_calls e)
    item_calls (let_ x e) = let_ x (with_calls e)
    item_calls (field l x e) = field l x (with_calls e)
    item_calls (result_ e) = result_ (with_calls e)
