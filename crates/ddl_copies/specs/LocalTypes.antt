-- The type of a value that an argument captures: that with which the argument's text uses it.
use Rattle.std.specs.Prelude.{ℕ, if◌then◌else◌, ◌==◌, List, [], ◌++◌, map, Option, Some, None}
use Rattle.ddl_types.specs.Types.{Ty, con, none, unit}
use Rattle.ddl_typed.specs.Tree.{Expr, Form, Exprs, Named, Content, Cases, Bounds, Alts, Args, Items, expr, local, just_, list, record_, union_}
use Rattle.ddl_typed.specs.Tree.{select, infix_, prefix_, cast, builtin, value_call, paren, if_, case_, for_, map_, pure, match, primitive, is_, fits, block}
use Rattle.ddl_typed.specs.Tree.{first, choose, many, optional, call, no_exprs, more, no_named, named, no_content, content, no_cases, when, unbounded, exactly}
use Rattle.ddl_typed.specs.Tree.{from_, up_to, between, no_alts, alt, tag, no_args, by_value, by_grammar, by_class, by_type, by_hand, no_items, item, plain}
use Rattle.ddl_typed.specs.Tree.{let_, field, result_}
use Rattle.ddl_copies.specs.Shapes.{Shape, Instance, at_name, at_place, no_parameters, grammar_at, class_at, type_at, closed_in}

-- the first of two, where there is one
abbrev pub or_else : Option Ty → Option Ty → Option Ty
or_else None o = o
or_else (Some t) o = Some t

-- the type with which a form uses a local name first, in the order of the text
module _ (x : ℕ) where
  abbrev mutual
    pub used : Expr → Option Ty
    used (expr (local y) ty span) = if x == y then Some ty else None
    used (expr form ty span) = used_in form

    pub used_in : Form → Option Ty
    used_in (just_ e) = used e
    used_in (list es) = used_in_exprs es
    used_in (record_ ns) = used_in_named ns
    used_in (union_ name c) = used_in_content c
    used_in (select e name) = used e
    used_in (infix_ op a b) = or_else (used a) (used b)
    used_in (prefix_ op e) = used e
    used_in (cast c e) = used e
    used_in (builtin b es) = used_in_exprs es
    used_in (value_call f args) = used_in_args args
    used_in (paren e) = used e
    used_in (if_ c a b) = or_else (used c) (or_else (used a) (used b))
    used_in (case_ e cs) = or_else (used e) (used_in_cases cs)
    used_in (for_ y start names e body) = or_else (used start) (or_else (used e) (used body))
    used_in (map_ names e body) = or_else (used e) (used body)
    used_in (pure e) = used e
    used_in (match e) = used e
    used_in (primitive p es) = used_in_exprs es
    used_in (is_ e p) = used e
    used_in (fits e) = used e
    used_in (block is) = used_in_items is
    used_in (first as_) = used_in_alts as_
    used_in (choose as_) = used_in_alts as_
    used_in (many c b e) = or_else (used_in_bounds b) (used e)
    used_in (optional c e) = used e
    used_in (call f args) = used_in_args args
    used_in form = None

    pub used_in_exprs : Exprs → Option Ty
    used_in_exprs no_exprs = None
    used_in_exprs (more e es) = or_else (used e) (used_in_exprs es)

    pub used_in_named : Named → Option Ty
    used_in_named no_named = None
    used_in_named (named name e ns) = or_else (used e) (used_in_named ns)

    pub used_in_content : Content → Option Ty
    used_in_content no_content = None
    used_in_content (content e) = used e

    pub used_in_cases : Cases → Option Ty
    used_in_cases no_cases = None
    used_in_cases (when p e cs) = or_else (used e) (used_in_cases cs)

    pub used_in_bounds : Bounds → Option Ty
    used_in_bounds unbounded = None
    used_in_bounds (exactly a) = used a
    used_in_bounds (from_ a) = used a
    used_in_bounds (up_to b) = used b
    used_in_bounds (between a b) = or_else (used a) (used b)

    pub used_in_alts : Alts → Option Ty
    used_in_alts no_alts = None
    used_in_alts (alt e as_) = or_else (used e) (used_in_alts as_)
    used_in_alts (tag name e as_) = or_else (used e) (used_in_alts as_)

    pub used_in_items : Items → Option Ty
    used_in_items no_items = None
    used_in_items (item (plain e) is) = or_else (used e) (used_in_items is)
    used_in_items (item (let_ y e) is) = or_else (used e) (used_in_items is)
    used_in_items (item (field name y e) is) = or_else (used e) (used_in_items is)
    used_in_items (item (result_ e) is) = or_else (used e) (used_in_items is)

    pub used_in_args : Args → Option Ty
    used_in_args no_args = None
    used_in_args (by_value y e args) = or_else (used e) (used_in_args args)
    used_in_args (by_grammar y site e args) = or_else (used e) (used_in_args args)
    used_in_args (by_class y c args) = used_in_args args
    used_in_args (by_type y t args) = used_in_args args
    used_in_args (by_hand there here args) = used_in_args args

-- the type that was found; what a valid argument captures is used in it
abbrev pub type_or : Option Ty → Ty
type_or None = con unit none
type_or (Some ty) = ty

-- the types of the values that a shape captures, in the order of their names, with the types of the shape's instance
abbrev mutual
  pub captured_types : Shape → List Ty
  captured_types (at_name f τs) = []
  captured_types (at_place site e τs) = map (λ x. closed_in τs (type_or (used x e))) site.values ++ all_captured_types τs

  pub all_captured_types : Instance → List Ty
  all_captured_types no_parameters = []
  all_captured_types (grammar_at g σ τs) = captured_types σ ++ all_captured_types τs
  all_captured_types (class_at x set τs) = all_captured_types τs
  all_captured_types (type_at j t τs) = all_captured_types τs
