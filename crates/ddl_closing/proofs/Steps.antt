-- What is left of a form, from what is left of its parts.
use Rattle.std.proofs.Common.{◌≡◌, ℕ, ◌+◌, ◌<◌, ◌≤◌, Bool, true, false, List, [], ◌∷◌, map, length, drop, get_or, Option, Some, None, refl, ap, ◌∙◌, add-one}
use Rattle.std.proofs.Common.{drop-cons}
use Rattle.std.proofs.lemmas.List.{drop_all}
use Rattle.ddl_base.specs.declared.span.Span.{Span}
use Rattle.ddl_ops.specs.declared.operators.Infix.{Infix}
use Rattle.ddl_ops.specs.declared.operators.Prefix.{Prefix}
use Rattle.ddl_ops.specs.declared.operators.Cast.{Cast}
use Rattle.ddl_ops.specs.declared.operators.Builtin.{Builtin}
use Rattle.ddl_ops.specs.declared.operators.Primitive.{Primitive}
use Rattle.ddl_ops.specs.declared.pattern.Pattern.{Pattern}
use Rattle.ddl_types.specs.Types.{Ty}
use Rattle.ddl_judging.specs.Shapes.{Shapes}
use Rattle.ddl_typed.specs.declared.parts.Binder.{Binder}
use Rattle.ddl_typed.specs.declared.parts.Choice.{Choice}
use Rattle.ddl_typed.specs.Tree as t
use Rattle.ddl_typed.specs.declared.expr.TAlternative.{TAlternative, out-TAlternative}
use Rattle.ddl_typed.specs.declared.expr.TArgument.{TArgument}
use Rattle.ddl_typed.specs.View.{OneAlternative, OneArgument, value, grammar, class_of, type_of, hand, with_alternative, with_argument}
use Rattle.ddl_typed.specs.View.{alts_view, args_view, argument_view, view}
use Rattle.ddl_typed.proofs.Layers.{alternative_view_out}
use Rattle.ddl_closing.proofs.Turns.{next_alternative_there, next_argument_there}
use Rattle.ddl_typing.specs.Gaps.{Gap, first_gap, or_later, own_gap}
use Rattle.ddl_closing.specs.Left.{left, all_left, named_left, content_left, cases_left, bounds_left, alts_left, args_left, items_left, item_left}
use Rattle.ddl_closing.specs.Left.{argument_left}

-- ---- forms

pub of_text : (v : Bool) (ss : Shapes) (x : List ℕ) (u : Ty) (s : Span) → left v ss (t.expr (t.text x) u s) ≡ None
unfolding left all_left named_left content_left cases_left bounds_left alts_left args_left items_left item_left
of_text v ss x u s = refl

pub of_local : (v : Bool) (ss : Shapes) (n : ℕ) (u : Ty) (s : Span) → left v ss (t.expr (t.local n) u s) ≡ None
unfolding left all_left named_left content_left cases_left bounds_left alts_left args_left items_left item_left
of_local v ss n u s = refl

pub of_literal : (v : Bool) (ss : Shapes) (n : ℕ) (u : Ty) (s : Span) → left v ss (t.expr (t.literal n) u s) ≡ None
unfolding left all_left named_left content_left cases_left bounds_left alts_left args_left items_left item_left
of_literal v ss n u s = refl

pub of_truth : (v : Bool) (ss : Shapes) (b : Bool) (u : Ty) (s : Span) → left v ss (t.expr (t.truth b) u s) ≡ None
unfolding left all_left named_left content_left cases_left bounds_left alts_left args_left items_left item_left
of_truth v ss b u s = refl

pub of_nothing : (v : Bool) (ss : Shapes) (u : Ty) (s : Span) → left v ss (t.expr t.nothing_ u s) ≡ None
unfolding left all_left named_left content_left cases_left bounds_left alts_left args_left items_left item_left
of_nothing v ss u s = refl

pub of_just : (v : Bool) (ss : Shapes) (a : t.Expr) (u : Ty) (s : Span) → left v ss (t.expr (t.just_ a) u s) ≡ left true ss a
unfolding left all_left named_left content_left cases_left bounds_left alts_left args_left items_left item_left
of_just v ss a u s = refl

pub of_list : (v : Bool) (ss : Shapes) (es : t.Exprs) (u : Ty) (s : Span) → left v ss (t.expr (t.list es) u s) ≡ all_left ss es
unfolding left all_left named_left content_left cases_left bounds_left alts_left args_left items_left item_left
of_list v ss es u s = refl

pub of_record : (v : Bool) (ss : Shapes) (ns : t.Named) (u : Ty) (s : Span) → left v ss (t.expr (t.record_ ns) u s) ≡ named_left ss ns
unfolding left all_left named_left content_left cases_left bounds_left alts_left args_left items_left item_left
of_record v ss ns u s = refl

pub of_union : (v : Bool) (ss : Shapes) (x : List ℕ) (c : t.Content) (u : Ty) (s : Span) → left v ss (t.expr (t.union_ x c) u s) ≡ content_left ss c
unfolding left all_left named_left content_left cases_left bounds_left alts_left args_left items_left item_left
of_union v ss x c u s = refl

pub of_select : (v : Bool) (ss : Shapes) (a : t.Expr) (x : List ℕ) (u : Ty) (s : Span) → left v ss (t.expr (t.select a x) u s) ≡ left true ss a
unfolding left all_left named_left content_left cases_left bounds_left alts_left args_left items_left item_left
of_select v ss a x u s = refl

pub of_infix : (v : Bool) (ss : Shapes) (o : Infix) (a b : t.Expr) (u : Ty) (s : Span)
    → left v ss (t.expr (t.infix_ o a b) u s) ≡ or_later (left true ss a) (left true ss b)
unfolding left all_left named_left content_left cases_left bounds_left alts_left args_left items_left item_left
of_infix v ss o a b u s = refl

pub of_prefix : (v : Bool) (ss : Shapes) (o : Prefix) (a : t.Expr) (u : Ty) (s : Span) → left v ss (t.expr (t.prefix_ o a) u s) ≡ left true ss a
unfolding left all_left named_left content_left cases_left bounds_left alts_left args_left items_left item_left
of_prefix v ss o a u s = refl

pub of_cast : (v : Bool) (ss : Shapes) (c : Cast) (a : t.Expr) (u : Ty) (s : Span) → left v ss (t.expr (t.cast c a) u s) ≡ left true ss a
unfolding left all_left named_left content_left cases_left bounds_left alts_left args_left items_left item_left
of_cast v ss c a u s = refl

pub of_builtin : (v : Bool) (ss : Shapes) (b : Builtin) (es : t.Exprs) (u : Ty) (s : Span) → left v ss (t.expr (t.builtin b es) u s) ≡ all_left ss es
unfolding left all_left named_left content_left cases_left bounds_left alts_left args_left items_left item_left
of_builtin v ss b es u s = refl

pub of_value_call : (v : Bool) (ss : Shapes) (d : ℕ) (as_ : t.Args) (u : Ty) (s : Span) → left v ss (t.expr (t.value_call d as_) u s) ≡ args_left ss as_
unfolding left all_left named_left content_left cases_left bounds_left alts_left args_left items_left item_left
of_value_call v ss d as_ u s = refl

pub of_paren : (v : Bool) (ss : Shapes) (a : t.Expr) (u : Ty) (s : Span) → left v ss (t.expr (t.paren a) u s) ≡ left v ss a
unfolding left all_left named_left content_left cases_left bounds_left alts_left args_left items_left item_left
of_paren v ss a u s = refl

pub of_if : (v : Bool) (ss : Shapes) (c a b : t.Expr) (u : Ty) (s : Span)
    → left v ss (t.expr (t.if_ c a b) u s) ≡ or_later (left true ss c) (or_later (left v ss a) (left v ss b))
unfolding left all_left named_left content_left cases_left bounds_left alts_left args_left items_left item_left
of_if v ss c a b u s = refl

pub of_case : (v : Bool) (ss : Shapes) (a : t.Expr) (cs : t.Cases) (u : Ty) (s : Span)
    → left v ss (t.expr (t.case_ a cs) u s) ≡ or_later (own_gap v ss a cs s) (or_later (left true ss a) (cases_left v ss cs))
unfolding left all_left named_left content_left cases_left bounds_left alts_left args_left items_left item_left
of_case v ss a cs u s = refl

pub of_for : (v : Bool) (ss : Shapes) (n : ℕ) (i : t.Expr) (b : Binder) (l a : t.Expr) (u : Ty) (s : Span)
    → left v ss (t.expr (t.for_ n i b l a) u s) ≡ or_later (left true ss i) (or_later (left true ss l) (left v ss a))
unfolding left all_left named_left content_left cases_left bounds_left alts_left args_left items_left item_left
of_for v ss n i b l a u s = refl

pub of_map : (v : Bool) (ss : Shapes) (b : Binder) (l a : t.Expr) (u : Ty) (s : Span)
    → left v ss (t.expr (t.map_ b l a) u s) ≡ or_later (left true ss l) (left v ss a)
unfolding left all_left named_left content_left cases_left bounds_left alts_left args_left items_left item_left
of_map v ss b l a u s = refl

pub of_pure : (v : Bool) (ss : Shapes) (a : t.Expr) (u : Ty) (s : Span) → left v ss (t.expr (t.pure a) u s) ≡ left true ss a
unfolding left all_left named_left content_left cases_left bounds_left alts_left args_left items_left item_left
of_pure v ss a u s = refl

pub of_uint8 : (v : Bool) (ss : Shapes) (u : Ty) (s : Span) → left v ss (t.expr t.uint8 u s) ≡ None
unfolding left all_left named_left content_left cases_left bounds_left alts_left args_left items_left item_left
of_uint8 v ss u s = refl

pub of_match : (v : Bool) (ss : Shapes) (a : t.Expr) (u : Ty) (s : Span) → left v ss (t.expr (t.match a) u s) ≡ left true ss a
unfolding left all_left named_left content_left cases_left bounds_left alts_left args_left items_left item_left
of_match v ss a u s = refl

pub of_end : (v : Bool) (ss : Shapes) (u : Ty) (s : Span) → left v ss (t.expr t.end u s) ≡ None
unfolding left all_left named_left content_left cases_left bounds_left alts_left args_left items_left item_left
of_end v ss u s = refl

pub of_class : (v : Bool) (ss : Shapes) (c : t.Class) (u : Ty) (s : Span) → left v ss (t.expr (t.class c) u s) ≡ None
unfolding left all_left named_left content_left cases_left bounds_left alts_left args_left items_left item_left
of_class v ss c u s = refl

pub of_fail : (v : Bool) (ss : Shapes) (n : ℕ) (u : Ty) (s : Span) → left v ss (t.expr (t.fail n) u s) ≡ None
unfolding left all_left named_left content_left cases_left bounds_left alts_left args_left items_left item_left
of_fail v ss n u s = refl

pub of_primitive : (v : Bool) (ss : Shapes) (p : Primitive) (es : t.Exprs) (u : Ty) (s : Span) → left v ss (t.expr (t.primitive p es) u s) ≡ all_left ss es
unfolding left all_left named_left content_left cases_left bounds_left alts_left args_left items_left item_left
of_primitive v ss p es u s = refl

pub of_is : (v : Bool) (ss : Shapes) (a : t.Expr) (p : Pattern) (u : Ty) (s : Span) → left v ss (t.expr (t.is_ a p) u s) ≡ left true ss a
unfolding left all_left named_left content_left cases_left bounds_left alts_left args_left items_left item_left
of_is v ss a p u s = refl

pub of_fits : (v : Bool) (ss : Shapes) (a : t.Expr) (u : Ty) (s : Span) → left v ss (t.expr (t.fits a) u s) ≡ left true ss a
unfolding left all_left named_left content_left cases_left bounds_left alts_left args_left items_left item_left
of_fits v ss a u s = refl

pub of_block : (v : Bool) (ss : Shapes) (is : t.Items) (u : Ty) (s : Span) → left v ss (t.expr (t.block is) u s) ≡ items_left ss is
unfolding left all_left named_left content_left cases_left bounds_left alts_left args_left items_left item_left
of_block v ss is u s = refl

pub of_first : (v : Bool) (ss : Shapes) (as_ : t.Alts) (u : Ty) (s : Span) → left v ss (t.expr (t.first as_) u s) ≡ alts_left ss as_
unfolding left all_left named_left content_left cases_left bounds_left alts_left args_left items_left item_left
of_first v ss as_ u s = refl

pub of_choose : (v : Bool) (ss : Shapes) (as_ : t.Alts) (u : Ty) (s : Span) → left v ss (t.expr (t.choose as_) u s) ≡ alts_left ss as_
unfolding left all_left named_left content_left cases_left bounds_left alts_left args_left items_left item_left
of_choose v ss as_ u s = refl

pub of_many : (v : Bool) (ss : Shapes) (c : Choice) (b : t.Bounds) (a : t.Expr) (u : Ty) (s : Span)
    → left v ss (t.expr (t.many c b a) u s) ≡ or_later (bounds_left ss b) (left false ss a)
unfolding left all_left named_left content_left cases_left bounds_left alts_left args_left items_left item_left
of_many v ss c b a u s = refl

pub of_optional : (v : Bool) (ss : Shapes) (c : Choice) (a : t.Expr) (u : Ty) (s : Span) → left v ss (t.expr (t.optional c a) u s) ≡ left false ss a
unfolding left all_left named_left content_left cases_left bounds_left alts_left args_left items_left item_left
of_optional v ss c a u s = refl

pub of_call : (v : Bool) (ss : Shapes) (d : ℕ) (as_ : t.Args) (u : Ty) (s : Span) → left v ss (t.expr (t.call d as_) u s) ≡ args_left ss as_
unfolding left all_left named_left content_left cases_left bounds_left alts_left args_left items_left item_left
of_call v ss d as_ u s = refl

pub of_parameter : (v : Bool) (ss : Shapes) (n : ℕ) (u : Ty) (s : Span) → left v ss (t.expr (t.parameter n) u s) ≡ None
unfolding left all_left named_left content_left cases_left bounds_left alts_left args_left items_left item_left
of_parameter v ss n u s = refl

-- ---- parts

pub no_content : (ss : Shapes) → content_left ss t.no_content ≡ None
unfolding left all_left named_left content_left cases_left bounds_left alts_left args_left items_left item_left
no_content ss = refl

pub content : (ss : Shapes) (a : t.Expr) → content_left ss (t.content a) ≡ left true ss a
unfolding left all_left named_left content_left cases_left bounds_left alts_left args_left items_left item_left
content ss a = refl

pub unbounded : (ss : Shapes) → bounds_left ss t.unbounded ≡ None
unfolding left all_left named_left content_left cases_left bounds_left alts_left args_left items_left item_left
unbounded ss = refl

pub exactly_bound : (ss : Shapes) (a : t.Expr) → bounds_left ss (t.exactly a) ≡ left true ss a
unfolding left all_left named_left content_left cases_left bounds_left alts_left args_left items_left item_left
exactly_bound ss a = refl

pub from_bound : (ss : Shapes) (a : t.Expr) → bounds_left ss (t.from_ a) ≡ left true ss a
unfolding left all_left named_left content_left cases_left bounds_left alts_left args_left items_left item_left
from_bound ss a = refl

pub up_to_bound : (ss : Shapes) (a : t.Expr) → bounds_left ss (t.up_to a) ≡ left true ss a
unfolding left all_left named_left content_left cases_left bounds_left alts_left args_left items_left item_left
up_to_bound ss a = refl

pub between_bounds : (ss : Shapes) (a b : t.Expr) → bounds_left ss (t.between a b) ≡ or_later (left true ss a) (left true ss b)
unfolding left all_left named_left content_left cases_left bounds_left alts_left args_left items_left item_left
between_bounds ss a b = refl

pub plain_item : (ss : Shapes) (a : t.Expr) → item_left ss (t.plain a) ≡ left false ss a
unfolding left all_left named_left content_left cases_left bounds_left alts_left args_left items_left item_left
plain_item ss a = refl

pub let_item : (ss : Shapes) (n : ℕ) (a : t.Expr) → item_left ss (t.let_ n a) ≡ left false ss a
unfolding left all_left named_left content_left cases_left bounds_left alts_left args_left items_left item_left
let_item ss n a = refl

pub field_item : (ss : Shapes) (x : List ℕ) (n : ℕ) (a : t.Expr) → item_left ss (t.field x n a) ≡ left false ss a
unfolding left all_left named_left content_left cases_left bounds_left alts_left args_left items_left item_left
field_item ss x n a = refl

pub result_item : (ss : Shapes) (a : t.Expr) → item_left ss (t.result_ a) ≡ left false ss a
unfolding left all_left named_left content_left cases_left bounds_left alts_left args_left items_left item_left
result_item ss a = refl

-- ---- lists

pub no_values : (ss : Shapes) → all_left ss t.no_exprs ≡ None
unfolding left all_left named_left content_left cases_left bounds_left alts_left args_left items_left item_left
no_values ss = refl

pub next_value : (ss : Shapes) (a : t.Expr) (es : t.Exprs) → all_left ss (t.more a es) ≡ or_later (left true ss a) (all_left ss es)
unfolding left all_left named_left content_left cases_left bounds_left alts_left args_left items_left item_left
next_value ss a es = refl

pub no_fields : (ss : Shapes) → named_left ss t.no_named ≡ None
unfolding left all_left named_left content_left cases_left bounds_left alts_left args_left items_left item_left
no_fields ss = refl

pub next_field : (ss : Shapes) (x : List ℕ) (a : t.Expr) (ns : t.Named) → named_left ss (t.named x a ns) ≡ or_later (left true ss a) (named_left ss ns)
unfolding left all_left named_left content_left cases_left bounds_left alts_left args_left items_left item_left
next_field ss x a ns = refl

pub no_bodies : (v : Bool) (ss : Shapes) → cases_left v ss t.no_cases ≡ None
unfolding left all_left named_left content_left cases_left bounds_left alts_left args_left items_left item_left
no_bodies v ss = refl

pub next_body : (v : Bool) (ss : Shapes) (p : Pattern) (a : t.Expr) (cs : t.Cases)
    → cases_left v ss (t.when p a cs) ≡ or_later (left v ss a) (cases_left v ss cs)
unfolding left all_left named_left content_left cases_left bounds_left alts_left args_left items_left item_left
next_body v ss p a cs = refl

pub no_alternatives : (ss : Shapes) → alts_left ss t.no_alts ≡ None
unfolding left all_left named_left content_left cases_left bounds_left alts_left args_left items_left item_left
no_alternatives ss = refl

pub no_arguments : (ss : Shapes) → args_left ss t.no_args ≡ None
unfolding left all_left named_left content_left cases_left bounds_left alts_left args_left items_left item_left
no_arguments ss = refl

pub no_items : (ss : Shapes) → items_left ss t.no_items ≡ None
unfolding left all_left named_left content_left cases_left bounds_left alts_left args_left items_left item_left
no_items ss = refl

pub next_item : (ss : Shapes) (i : t.Item) (is : t.Items) → items_left ss (t.item i is) ≡ or_later (item_left ss i) (items_left ss is)
unfolding left all_left named_left content_left cases_left bounds_left alts_left args_left items_left item_left
next_item ss i is = refl

pub next_alternative : (ss : Shapes) (o : Option (List ℕ)) (a : t.Expr) (as_ : t.Alts) → alts_left ss (with_alternative o a as_)
    ≡ or_later (left false ss a) (alts_left ss as_)
unfolding left all_left named_left content_left cases_left bounds_left alts_left args_left items_left item_left
next_alternative ss None a as_ = refl
next_alternative ss (Some x) a as_ = refl

pub next_argument : (ss : Shapes) (o : OneArgument) (as_ : t.Args) → args_left ss (with_argument o as_) ≡ or_later (argument_left ss o) (args_left ss as_)
unfolding left all_left named_left content_left cases_left bounds_left alts_left args_left items_left item_left
next_argument ss (value i e) as_ = refl
next_argument ss (grammar i site e) as_ = refl
next_argument ss (class_of i c) as_ = refl
next_argument ss (type_of i u) as_ = refl
next_argument ss (hand x y) as_ = refl

-- what is left of alternatives and of arguments from a place on

pub alternatives_from : (ss : Shapes) (xs : List TAlternative) (i : ℕ) (x : TAlternative) → x ≡ get_or xs i x → i < length xs
    → alts_left ss (alts_view (drop i xs)) ≡ or_later (left false ss (view (out-TAlternative x).body)) (alts_left ss (alts_view (drop (i + 1) xs)))
alternatives_from ss xs i x e h = let rest = alts_view (drop (i + 1) xs) in
    ap (alts_left ss) (next_alternative_there xs i x e h)
    ∙ ap (λ (a : OneAlternative). alts_left ss (with_alternative a.0 a.1 rest)) (alternative_view_out x)
    ∙ next_alternative ss (out-TAlternative x).tag (view (out-TAlternative x).body) rest

pub arguments_from : (ss : Shapes) (xs : List TArgument) (i : ℕ) (x : TArgument) → x ≡ get_or xs i x → i < length xs
    → args_left ss (args_view (drop i xs)) ≡ or_later (argument_left ss (argument_view x)) (args_left ss (args_view (drop (i + 1) xs)))
arguments_from ss xs i x e h = ap (args_left ss) (next_argument_there xs i x e h)
    ∙ next_argument ss (argument_view x) (args_view (drop (i + 1) xs))

-- the search that a contract names is that of the definition
pub left_is : (v : Bool) (ss : Shapes) (e : t.Expr) → left v ss e ≡ first_gap v ss e
unfolding left
left_is v ss e = refl

pub ruleset steps = (
  left_is,
  of_text,
  of_local,
  of_literal,
  of_truth,
  of_nothing,
  of_just,
  of_list,
  of_record,
  of_union,
  of_select,
  of_infix,
  of_prefix,
  of_cast,
  of_builtin,
  of_value_call,
  of_paren,
  of_if,
  of_case,
  of_for,
  of_map,
  of_pure,
  of_uint8,
  of_match,
  of_end,
  of_class,
  of_fail,
  of_primitive,
  of_is,
  of_fits,
  of_block,
  of_first,
  of_choose,
  of_many,
  of_optional,
  of_call,
  of_parameter,
  no_content,
  content,
  unbounded,
  exactly_bound,
  from_bound,
  up_to_bound,
  between_bounds,
  plain_item,
  let_item,
  field_item,
  result_item,
)

pub ruleset lists = (
  no_values,
  next_value,
  no_fields,
  next_field,
  no_bodies,
  next_body,
  no_alternatives,
  no_arguments,
  no_items,
  next_item,
  alternatives_from,
  arguments_from,
  plain_item,
  let_item,
  field_item,
  result_item,
)
