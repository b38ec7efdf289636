-- One level of a tree, as it is seen.
use Rattle.std.proofs.Common.{◌≡◌, ap, sym, ◌∙◌, rules, Some, None}
use Rattle.ddl_tree.specs.declared.types.TypeExpr.{TypeExpr, TypeExpr-F, out-TypeExpr, roll-TypeExpr, roll-out-TypeExpr}
use Rattle.ddl_tree.specs.declared.types.TypeExpr as types
use Rattle.ddl_tree.specs.declared.class.Cls.{Cls, Cls-F, out-Cls, roll-Cls, roll-out-Cls}
use Rattle.ddl_tree.specs.declared.class.Cls as classes
use Rattle.ddl_tree.specs.declared.expr.Expr.{Expr, Expr-F, out-Expr, roll-Expr, roll-out-Expr, the_lemmas}
use Rattle.ddl_tree.specs.declared.expr.Bound.{Bound, Bound-F, out-Bound, roll-Bound, roll-out-Bound, fold-roll-Bound}
use Rattle.ddl_tree.specs.declared.expr.Alternatives.{Alternatives, Alternatives-F, out-Alternatives, roll-Alternatives, roll-out-Alternatives}
use Rattle.ddl_tree.specs.declared.expr.Alternatives.{fold-roll-Alternatives}
use Rattle.ddl_tree.specs.declared.expr.Item.{Item, Item-F, out-Item, roll-Item, roll-out-Item, fold-roll-Item}
use Rattle.ddl_tree.specs.declared.expr.Alt.{Alt, out-Alt}
use Rattle.ddl_tree.specs.declared.expr.Binding.{Binding, out-Binding}
use Rattle.ddl_tree.specs.ExprTree as ex
use Rattle.ddl_tree.specs.View.{type_view, type_layer, class_view, class_layer, view, view_layer, bound_view, bound_layer, alternatives_view}
use Rattle.ddl_tree.specs.View.{alternatives_layer, item_view, item_layer, alt_view, alt_layer, binding_view, binding_layer, expr_step, bound_step}
use Rattle.ddl_tree.specs.View.{alternatives_step, item_step, alt_step, binding_step}

type_view_roll : (l : TypeExpr-F TypeExpr) → type_view (roll-TypeExpr l) ≡ type_layer l
unfolding type_view
type_view_roll (TypeExpr-F.Int s) = search (rules, types.the_lemmas)
type_view_roll (TypeExpr-F.Uint n s) = search (rules, types.the_lemmas)
type_view_roll (TypeExpr-F.Sint n s) = search (rules, types.the_lemmas)
type_view_roll (TypeExpr-F.Bool s) = search (rules, types.the_lemmas)
type_view_roll (TypeExpr-F.Stream s) = search (rules, types.the_lemmas)
type_view_roll (TypeExpr-F.Float s) = search (rules, types.the_lemmas)
type_view_roll (TypeExpr-F.Double s) = search (rules, types.the_lemmas)
type_view_roll (TypeExpr-F.Maybe t s) = search (rules, types.the_lemmas)
type_view_roll (TypeExpr-F.ArrayOf t s) = search (rules, types.the_lemmas)
type_view_roll (TypeExpr-F.MapOf t u s) = search (rules, types.the_lemmas)
type_view_roll (TypeExpr-F.Empty s) = search (rules, types.the_lemmas)
type_view_roll (TypeExpr-F.Named x) = search (rules, types.the_lemmas)
type_view_roll (TypeExpr-F.Within t s) = search (rules, types.the_lemmas)

pub type_view_out : (t : TypeExpr) → type_view t ≡ type_layer (out-TypeExpr t)
type_view_out t = ap type_view (sym (roll-out-TypeExpr t)) ∙ type_view_roll (out-TypeExpr t)

class_view_roll : (l : Cls-F Cls) → class_view (roll-Cls l) ≡ class_layer l
unfolding class_view
class_view_roll (Cls-F.Union a b s) = search (rules, classes.the_lemmas)
class_view_roll (Cls-F.One b) = search (rules, classes.the_lemmas)
class_view_roll (Cls-F.Range a b s) = search (rules, classes.the_lemmas)
class_view_roll (Cls-F.Known x) = search (rules, classes.the_lemmas)
class_view_roll (Cls-F.Other c s) = search (rules, classes.the_lemmas)
class_view_roll (Cls-F.Grouped c s) = search (rules, classes.the_lemmas)
class_view_roll (Cls-F.Set c s) = search (rules, classes.the_lemmas)

pub class_view_out : (c : Cls) → class_view c ≡ class_layer (out-Cls c)
class_view_out c = ap class_view (sym (roll-out-Cls c)) ∙ class_view_roll (out-Cls c)

view_roll : (l : Expr-F Alternatives Bound Expr Item Alt Binding) → view (roll-Expr l) ≡ view_layer l
unfolding view bound_view alternatives_view item_view alt_view binding_view
view_roll (Expr-F.Infix o a b s) = search (rules, the_lemmas)
view_roll (Expr-F.Pure a s) = search (rules, the_lemmas)
view_roll (Expr-F.If c a b s) = search (rules, the_lemmas)
view_roll (Expr-F.For x i ns l b s) = search (rules, the_lemmas)
view_roll (Expr-F.Map ns l b s) = search (rules, the_lemmas)
view_roll (Expr-F.Is a p s) = search (rules, the_lemmas)
view_roll (Expr-F.Prefix o a s) = search (rules, the_lemmas)
view_roll (Expr-F.Cast o a t s) = search (rules, the_lemmas)
view_roll (Expr-F.CallGrammar x xs s) = search (rules, the_lemmas)
view_roll (Expr-F.CallValue x xs s) = search (rules, the_lemmas)
view_roll (Expr-F.Just a s) = search (rules, the_lemmas)
view_roll (Expr-F.Many o n a s) = search (rules, the_lemmas)
view_roll (Expr-F.Optional o a s) = search (rules, the_lemmas)
view_roll (Expr-F.Select a x s) = search (rules, the_lemmas)
view_roll (Expr-F.Num n) = search (rules, the_lemmas)
view_roll (Expr-F.Char b s) = search (rules, the_lemmas)
view_roll (Expr-F.Text bs s) = search (rules, the_lemmas)
view_roll (Expr-F.True s) = search (rules, the_lemmas)
view_roll (Expr-F.False s) = search (rules, the_lemmas)
view_roll (Expr-F.Nothing s) = search (rules, the_lemmas)
view_roll (Expr-F.Upper x) = search (rules, the_lemmas)
view_roll (Expr-F.Lower x) = search (rules, the_lemmas)
view_roll (Expr-F.Class x) = search (rules, the_lemmas)
view_roll (Expr-F.Set c s) = search (rules, the_lemmas)
view_roll (Expr-F.Paren a t s) = search (rules, the_lemmas)
view_roll (Expr-F.Array xs s) = search (rules, the_lemmas)
view_roll (Expr-F.RecordOf bs s) = search (rules, the_lemmas)
view_roll (Expr-F.Tagged x None s) = search (rules, the_lemmas)
view_roll (Expr-F.Tagged x (Some a) s) = search (rules, the_lemmas)
view_roll (Expr-F.Block is s) = search (rules, the_lemmas)
view_roll (Expr-F.Choice o xs s) = search (rules, the_lemmas)
view_roll (Expr-F.Case a xs s) = search (rules, the_lemmas)

pub view_out : (e : Expr) → view e ≡ view_layer (out-Expr e)
view_out e = ap view (sym (roll-out-Expr e)) ∙ view_roll (out-Expr e)

bound_view_roll : (l : Bound-F Alternatives Bound Expr Item Alt Binding) → bound_view (roll-Bound l) ≡ bound_layer l
unfolding view bound_view alternatives_view item_view alt_view binding_view
bound_view_roll Bound-F.Free = fold-roll-Bound ex.Alternatives ex.Bound ex.Expr ex.Item ex.Alt ex.Binding alternatives_step bound_step expr_step item_step
    alt_step binding_step Bound-F.Free
bound_view_roll (Bound-F.Exactly a) = fold-roll-Bound ex.Alternatives ex.Bound ex.Expr ex.Item ex.Alt ex.Binding alternatives_step bound_step expr_step
    item_step alt_step binding_step (Bound-F.Exactly a)
bound_view_roll (Bound-F.AtLeast a s) = fold-roll-Bound ex.Alternatives ex.Bound ex.Expr ex.Item ex.Alt ex.Binding alternatives_step bound_step expr_step
    item_step alt_step binding_step (Bound-F.AtLeast a s)
bound_view_roll (Bound-F.AtMost a s) = fold-roll-Bound ex.Alternatives ex.Bound ex.Expr ex.Item ex.Alt ex.Binding alternatives_step bound_step expr_step
    item_step alt_step binding_step (Bound-F.AtMost a s)
bound_view_roll (Bound-F.Between a b s) = fold-roll-Bound ex.Alternatives ex.Bound ex.Expr ex.Item ex.Alt ex.Binding alternatives_step bound_step expr_step
    item_step alt_step binding_step (Bound-F.Between a b s)

pub bound_view_out : (b : Bound) → bound_view b ≡ bound_layer (out-Bound b)
bound_view_out b = ap bound_view (sym (roll-out-Bound b)) ∙ bound_view_roll (out-Bound b)

alternatives_view_roll : (l : Alternatives-F Alternatives Bound Expr Item Alt Binding) → alternatives_view (roll-Alternatives l) ≡ alternatives_layer l
unfolding view bound_view alternatives_view item_view alt_view binding_view
alternatives_view_roll (Alternatives-F.WithTags bs) = fold-roll-Alternatives ex.Alternatives ex.Bound ex.Expr ex.Item ex.Alt ex.Binding alternatives_step
    bound_step expr_step item_step alt_step binding_step (Alternatives-F.WithTags bs)
alternatives_view_roll (Alternatives-F.Untagged xs) = fold-roll-Alternatives ex.Alternatives ex.Bound ex.Expr ex.Item ex.Alt ex.Binding alternatives_step
    bound_step expr_step item_step alt_step binding_step (Alternatives-F.Untagged xs)

pub alternatives_view_out : (a : Alternatives) → alternatives_view a ≡ alternatives_layer (out-Alternatives a)
alternatives_view_out a = ap alternatives_view (sym (roll-out-Alternatives a)) ∙ alternatives_view_roll (out-Alternatives a)

item_view_roll : (l : Item-F Alternatives Bound Expr Item Alt Binding) → item_view (roll-Item l) ≡ item_layer l
unfolding view bound_view alternatives_view item_view alt_view binding_view
item_view_roll (Item-F.Result a s) = fold-roll-Item ex.Alternatives ex.Bound ex.Expr ex.Item ex.Alt ex.Binding alternatives_step bound_step expr_step item_step
    alt_step binding_step (Item-F.Result a s)
item_view_roll (Item-F.Let x a s) = fold-roll-Item ex.Alternatives ex.Bound ex.Expr ex.Item ex.Alt ex.Binding alternatives_step bound_step expr_step item_step
    alt_step binding_step (Item-F.Let x a s)
item_view_roll (Item-F.Field x a s) = fold-roll-Item ex.Alternatives ex.Bound ex.Expr ex.Item ex.Alt ex.Binding alternatives_step bound_step expr_step item_step
    alt_step binding_step (Item-F.Field x a s)
item_view_roll (Item-F.Plain a) = fold-roll-Item ex.Alternatives ex.Bound ex.Expr ex.Item ex.Alt ex.Binding alternatives_step bound_step expr_step item_step
    alt_step binding_step (Item-F.Plain a)

pub item_view_out : (i : Item) → item_view i ≡ item_layer (out-Item i)
item_view_out i = ap item_view (sym (roll-out-Item i)) ∙ item_view_roll (out-Item i)

pub alt_view_out : (a : Alt) → alt_view a ≡ alt_layer (out-Alt a)
unfolding view bound_view alternatives_view item_view alt_view binding_view
alt_view_out a = search (rules, the_lemmas)

pub binding_view_out : (b : Binding) → binding_view b ≡ binding_layer (out-Binding b)
unfolding view bound_view alternatives_view item_view alt_view binding_view
binding_view_out b = search (rules, the_lemmas)

pub ruleset layers = (
  view_out,
  bound_view_out,
  alternatives_view_out,
  item_view_out,
  alt_view_out,
  binding_view_out,
  type_view_out,
  class_view_out,
  the_lemmas,
  types.the_lemmas,
  classes.the_lemmas,
)
