-- The text of a copy.
use Rattle.std.specs.Prelude.{ℕ, List, [], ◌∷◌, Option, Some, None}
use Rattle.ddl_ops.specs.ByteSets.{Set}
use Rattle.ddl_typed.specs.Tree.{Name, under, Class, those, Expr, Form, Exprs, Named, Content, Cases, Bounds, Alts, Args, Items, Item, Spec, expr, text, local}
use Rattle.ddl_typed.specs.Tree.{literal, truth, nothing_, just_, list, record_, union_, select, infix_, prefix_, cast, builtin, value_call, paren, if_, case_}
use Rattle.ddl_typed.specs.Tree.{for_, map_, pure, uint8, match, end, class, fail, primitive, is_, fits, block, first, choose, many, optional, call, parameter}
use Rattle.ddl_typed.specs.Tree.{no_exprs, more, no_named, named, no_content, content, no_cases, when, unbounded, exactly, from_, up_to, between, no_alts, alt}
use Rattle.ddl_typed.specs.Tree.{tag, no_args, by_value, by_grammar, by_class, by_type, by_hand, no_items, item, plain, let_, field, result_}
use Rattle.ddl_typed.specs.Classes.{class_set}
use Rattle.ddl_copies.specs.Shapes.{Shape, Instance, Origin, no_parameters, member, origin_of, shape_of, static_env, closed_in, used_at, captured}
use Rattle.ddl_copies.specs.Shapes.{argument_shape, call_instance}

-- the name that a value has here which an argument hands on: where the argument is a grammar parameter, its shape captured the
-- value, and it stands under that parameter
abbrev pub name_here : Expr → Name → Name
name_here (expr (parameter g) ty span) n = under g n
name_here e n = n

-- values that are handed on, each by its name in the copy that is called and its name here
abbrev pub hands_on : (Name → Name) → (Name → Name) → List Name → Args → Args
hands_on there here [] rest = rest
hands_on there here (n ∷ ns) rest = by_hand (there n) (here n) (hands_on there here ns rest)

-- a class by its bytes
abbrev pub set_or : Option Set → Class → Class
set_or None c = c
set_or (Some set) c = those set

-- each copy that is named has a number
module _ (spec : Spec) (number : Origin → ℕ) where
  -- a grammar parameter: the call of the copy that its shape names, which gets the values that the shape captured
  abbrev pub parameter_call : ℕ → Option Shape → Form
  parameter_call g None = parameter g
  parameter_call g (Some σ) = call (number (origin_of σ)) (hands_on (λ n. n) (under g) (captured σ) no_args)

  -- the text of a copy: the same forms in the same order; a type and a class is that of the instance, a call names the copy of the
  -- declaration at the instance that it gives, and a grammar parameter becomes the call of the copy that its shape names
  abbrev mutual
    pub copied : Expr → Instance → Expr
    copied (expr form ty span) σs = expr (copied_form form σs) (closed_in σs ty) span

    pub copied_form : Form → Instance → Form
    copied_form (text bs) σs = text bs
    copied_form (local x) σs = local x
    copied_form (literal n) σs = literal n
    copied_form (truth b) σs = truth b
    copied_form nothing_ σs = nothing_
    copied_form (just_ e) σs = just_ (copied e σs)
    copied_form (list es) σs = list (copied_exprs es σs)
    copied_form (record_ ns) σs = record_ (copied_named ns σs)
    copied_form (union_ name c) σs = union_ name (copied_content c σs)
    copied_form (select e name) σs = select (copied e σs) name
    copied_form (infix_ op a b) σs = infix_ op (copied a σs) (copied b σs)
    copied_form (prefix_ op e) σs = prefix_ op (copied e σs)
    copied_form (cast c e) σs = cast c (copied e σs)
    copied_form (builtin b es) σs = builtin b (copied_exprs es σs)
    copied_form (value_call f args) σs = value_call (number (member f (call_instance spec args σs no_parameters))) (copied_args args σs)
    copied_form (paren e) σs = paren (copied e σs)
    copied_form (if_ c a b) σs = if_ (copied c σs) (copied a σs) (copied b σs)
    copied_form (case_ e cs) σs = case_ (copied e σs) (copied_cases cs σs)
    copied_form (for_ x start names e body) σs = for_ x (copied start σs) names (copied e σs) (copied body σs)
    copied_form (map_ names e body) σs = map_ names (copied e σs) (copied body σs)
    copied_form (pure e) σs = pure (copied e σs)
    copied_form uint8 σs = uint8
    copied_form (match e) σs = match (copied e σs)
    copied_form end σs = end
    copied_form (class c) σs = class (set_or (class_set spec c (static_env σs)) c)
    copied_form (fail n) σs = fail n
    copied_form (primitive p es) σs = primitive p (copied_exprs es σs)
    copied_form (is_ e p) σs = is_ (copied e σs) p
    copied_form (fits e) σs = fits (copied e σs)
    copied_form (block is) σs = block (copied_items is σs)
    copied_form (first as_) σs = first (copied_alts as_ σs)
    copied_form (choose as_) σs = choose (copied_alts as_ σs)
    copied_form (many c b e) σs = many c (copied_bounds b σs) (copied e σs)
    copied_form (optional c e) σs = optional c (copied e σs)
    copied_form (call f args) σs = call (number (member f (call_instance spec args σs no_parameters))) (copied_args args σs)
    copied_form (parameter g) σs = parameter_call g (shape_of σs g)

    pub copied_exprs : Exprs → Instance → Exprs
    copied_exprs no_exprs σs = no_exprs
    copied_exprs (more e es) σs = more (copied e σs) (copied_exprs es σs)

    pub copied_named : Named → Instance → Named
    copied_named no_named σs = no_named
    copied_named (named name e ns) σs = named name (copied e σs) (copied_named ns σs)

    pub copied_content : Content → Instance → Content
    copied_content no_content σs = no_content
    copied_content (content e) σs = content (copied e σs)

    pub copied_cases : Cases → Instance → Cases
    copied_cases no_cases σs = no_cases
    copied_cases (when p e cs) σs = when p (copied e σs) (copied_cases cs σs)

    pub copied_bounds : Bounds → Instance → Bounds
    copied_bounds unbounded σs = unbounded
    copied_bounds (exactly a) σs = exactly (copied a σs)
    copied_bounds (from_ a) σs = from_ (copied a σs)
    copied_bounds (up_to b) σs = up_to (copied b σs)
    copied_bounds (between a b) σs = between (copied a σs) (copied b σs)

    pub copied_alts : Alts → Instance → Alts
    copied_alts no_alts σs = no_alts
    copied_alts (alt e as_) σs = alt (copied e σs) (copied_alts as_ σs)
    copied_alts (tag name e as_) σs = tag name (copied e σs) (copied_alts as_ σs)

    pub copied_items : Items → Instance → Items
    copied_items no_items σs = no_items
    copied_items (item i is) σs = item (copied_item i σs) (copied_items is σs)

    pub copied_item : Item → Instance → Item
    copied_item (plain e) σs = plain (copied e σs)
    copied_item (let_ x e) σs = let_ x (copied e σs)
    copied_item (field name x e) σs = field name x (copied e σs)
    copied_item (result_ e) σs = result_ (copied e σs)

    -- types and classes go, and a grammar argument becomes the values that it captures
    pub copied_args : Args → Instance → Args
    copied_args no_args σs = no_args
    copied_args (by_value x e args) σs = by_value x (copied e σs) (copied_args args σs)
    copied_args (by_grammar x site e args) σs = hands_on (under x) (name_here e) (captured (argument_shape site e (used_at site σs))) (copied_args args σs)
    copied_args (by_class x c args) σs = copied_args args σs
    copied_args (by_type x t args) σs = copied_args args σs
    copied_args (by_hand there here args) σs = by_hand there here (copied_args args σs)
