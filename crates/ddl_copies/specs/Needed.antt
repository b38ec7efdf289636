-- Which copies an entry needs: the least set that is closed under use.
use Rattle.std.specs.Prelude.{ℕ, if◌then◌else◌, List, [], ◌∷◌, ◌++◌, Option, Some, None}
use Rattle.ddl_typed.specs.Tree.{Site, Expr, Form, Exprs, Named, Content, Cases, Bounds, Alts, Args, Items, Spec, expr, just_, list, record_, union_, select}
use Rattle.ddl_typed.specs.Tree.{infix_, prefix_, cast, builtin, value_call, paren, if_, case_, for_, map_, pure, match, primitive, is_, fits, block, first}
use Rattle.ddl_typed.specs.Tree.{choose, many, optional, call, parameter, no_exprs, more, no_named, named, no_content, content, no_cases, when, unbounded}
use Rattle.ddl_typed.specs.Tree.{exactly, from_, up_to, between, no_alts, alt, tag, no_args, by_value, by_grammar, by_class, by_type, by_hand, no_items, item}
use Rattle.ddl_typed.specs.Tree.{plain, let_, field, result_}
use Rattle.ddl_typed.specs.Meaning.{form_at}
use Rattle.ddl_copies.specs.Queue.{Reached}
use Rattle.ddl_copies.specs.Shapes.{Instance, Origin, no_parameters, member, argument, used_at, types_alone, call_instance, unit_types}

-- the members of a list of copies
abbrev pub members_of : List Origin → List Origin
members_of [] = []
members_of (member f τs ∷ os) = member f τs ∷ members_of os
members_of (argument site e τs ∷ os) = members_of os

-- the arguments of a list of copies
abbrev pub arguments_of : List Origin → List Origin
arguments_of [] = []
arguments_of (member f τs ∷ os) = arguments_of os
arguments_of (argument site e τs ∷ os) = argument site e τs ∷ arguments_of os

module _ (spec : Spec) where
  -- the copy that an argument is: none where it is a parameter, or a declaration without arguments
  abbrev pub argument_uses : Site → Expr → Instance → List Origin
  argument_uses site (expr (parameter h) ty span) τs = []
  argument_uses site (expr (call f args) ty span) τs = if types_alone args then [] else argument site (expr (call f args) ty span) τs ∷ []
  argument_uses site e τs = argument site e τs ∷ []

  -- the copies that a form uses at an instance, in the order of the text: of a call first the declaration, then the arguments
  abbrev mutual
    pub uses : Expr → Instance → List Origin
    uses (expr form ty span) σs = form_uses form σs

    pub form_uses : Form → Instance → List Origin
    form_uses (just_ e) σs = uses e σs
    form_uses (list es) σs = uses_all es σs
    form_uses (record_ ns) σs = uses_named ns σs
    form_uses (union_ name c) σs = uses_content c σs
    form_uses (select e name) σs = uses e σs
    form_uses (infix_ op a b) σs = uses a σs ++ uses b σs
    form_uses (prefix_ op e) σs = uses e σs
    form_uses (cast c e) σs = uses e σs
    form_uses (builtin b es) σs = uses_all es σs
    form_uses (value_call f args) σs = member f (call_instance spec args σs no_parameters) ∷ uses_args args σs
    form_uses (paren e) σs = uses e σs
    form_uses (if_ c a b) σs = uses c σs ++ (uses a σs ++ uses b σs)
    form_uses (case_ e cs) σs = uses e σs ++ uses_cases cs σs
    form_uses (for_ x start names e body) σs = uses start σs ++ (uses e σs ++ uses body σs)
    form_uses (map_ names e body) σs = uses e σs ++ uses body σs
    form_uses (pure e) σs = uses e σs
    form_uses (match e) σs = uses e σs
    form_uses (primitive p es) σs = uses_all es σs
    form_uses (is_ e p) σs = uses e σs
    form_uses (fits e) σs = uses e σs
    form_uses (block is) σs = uses_items is σs
    form_uses (first as_) σs = uses_alts as_ σs
    form_uses (choose as_) σs = uses_alts as_ σs
    form_uses (many c b e) σs = uses_bounds b σs ++ uses e σs
    form_uses (optional c e) σs = uses e σs
    form_uses (call f args) σs = member f (call_instance spec args σs no_parameters) ∷ uses_args args σs
    form_uses form σs = []

    pub uses_all : Exprs → Instance → List Origin
    uses_all no_exprs σs = []
    uses_all (more e es) σs = uses e σs ++ uses_all es σs

    pub uses_named : Named → Instance → List Origin
    uses_named no_named σs = []
    uses_named (named name e ns) σs = uses e σs ++ uses_named ns σs

    pub uses_content : Content → Instance → List Origin
    uses_content no_content σs = []
    uses_content (content e) σs = uses e σs

    pub uses_cases : Cases → Instance → List Origin
    uses_cases no_cases σs = []
    uses_cases (when p e cs) σs = uses e σs ++ uses_cases cs σs

    pub uses_bounds : Bounds → Instance → List Origin
    uses_bounds unbounded σs = []
    uses_bounds (exactly a) σs = uses a σs
    uses_bounds (from_ a) σs = uses a σs
    uses_bounds (up_to b) σs = uses b σs
    uses_bounds (between a b) σs = uses a σs ++ uses b σs

    pub uses_alts : Alts → Instance → List Origin
    uses_alts no_alts σs = []
    uses_alts (alt e as_) σs = uses e σs ++ uses_alts as_ σs
    uses_alts (tag name e as_) σs = uses e σs ++ uses_alts as_ σs

    pub uses_items : Items → Instance → List Origin
    uses_items no_items σs = []
    uses_items (item (plain e) is) σs = uses e σs ++ uses_items is σs
    uses_items (item (let_ x e) is) σs = uses e σs ++ uses_items is σs
    uses_items (item (field name x e) is) σs = uses e σs ++ uses_items is σs
    uses_items (item (result_ e) is) σs = uses e σs ++ uses_items is σs

    pub uses_args : Args → Instance → List Origin
    uses_args no_args σs = []
    uses_args (by_value x e args) σs = uses e σs ++ uses_args args σs
    uses_args (by_grammar x site e args) σs = argument_uses site e (used_at site σs) ++ (uses e (used_at site σs) ++ uses_args args σs)
    uses_args (by_class x c args) σs = uses_args args σs
    uses_args (by_type x t args) σs = uses_args args σs
    uses_args (by_hand there here args) σs = uses_args args σs

  -- the copies that a declaration uses at an instance
  abbrev pub body_uses : Option Expr → Instance → List Origin
  body_uses None σs = []
  body_uses (Some e) σs = uses e σs

  -- the copies that a copy uses; those of an argument are used where the argument stands
  abbrev pub copy_uses : Origin → List Origin
  copy_uses (member f σs) = body_uses (form_at spec.decls f) σs
  copy_uses (argument site e τs) = []

  -- the members among them
  abbrev pub member_uses : Origin → List Origin
  member_uses o = members_of (copy_uses o)

  -- the arguments that these copies use, in order
  abbrev pub all_arguments : List Origin → List Origin
  all_arguments [] = []
  all_arguments (o ∷ os) = arguments_of (copy_uses o) ++ all_arguments os

-- the copies that an entry needs, whose type variables stand for `{}`
abbrev pub Needs : Spec → ℕ → ℕ → Origin → Type 0
Needs spec entry variables = Reached (copy_uses spec) (member entry (unit_types variables))
