-- The tree that a value of the code stands for.
use Rattle.std.specs.Prelude.{List, [], ◌∷◌, Option, Some, None, map}
use Rattle.ddl_tree.specs.declared.types.TypeExpr.{TypeExpr, TypeExpr-F, fold-TypeExpr}
use Rattle.ddl_tree.specs.declared.class.Cls.{Cls, Cls-F, fold-Cls}
use Rattle.ddl_tree.specs.declared.expr.Expr.{Expr, Expr-F, fold-Expr}
use Rattle.ddl_tree.specs.declared.expr.Bound.{Bound, Bound-F, fold-Bound}
use Rattle.ddl_tree.specs.declared.expr.Alternatives.{Alternatives, Alternatives-F, fold-Alternatives}
use Rattle.ddl_tree.specs.declared.expr.Item.{Item, Item-F, fold-Item}
use Rattle.ddl_tree.specs.declared.expr.Binding.{Binding, Binding-F, fold-Binding}
use Rattle.ddl_tree.specs.declared.expr.Alt.{Alt, Alt-F, fold-Alt}
use Rattle.ddl_tree.specs.TypeTree as ty
use Rattle.ddl_tree.specs.ClassTree as cls
use Rattle.ddl_tree.specs.ExprTree as ex

-- ---- types

abbrev pub type_step : TypeExpr-F ty.TypeExpr → ty.TypeExpr
type_step (TypeExpr-F.Int s) = ty.Int s
type_step (TypeExpr-F.Uint n s) = ty.Uint n s
type_step (TypeExpr-F.Sint n s) = ty.Sint n s
type_step (TypeExpr-F.Bool s) = ty.Bool s
type_step (TypeExpr-F.Stream s) = ty.Stream s
type_step (TypeExpr-F.Float s) = ty.Float s
type_step (TypeExpr-F.Double s) = ty.Double s
type_step (TypeExpr-F.Maybe t s) = ty.Maybe t.value s
type_step (TypeExpr-F.ArrayOf t s) = ty.ArrayOf t.value s
type_step (TypeExpr-F.MapOf t u s) = ty.MapOf t.value u.value s
type_step (TypeExpr-F.Empty s) = ty.Empty s
type_step (TypeExpr-F.Named x) = ty.Named x
type_step (TypeExpr-F.Within t s) = ty.Within t.value s

unfoldable pub type_view : TypeExpr → ty.TypeExpr
type_view = fold-TypeExpr ty.TypeExpr type_step

-- one level, in terms of the view
abbrev pub type_layer : TypeExpr-F TypeExpr → ty.TypeExpr
type_layer (TypeExpr-F.Int s) = ty.Int s
type_layer (TypeExpr-F.Uint n s) = ty.Uint n s
type_layer (TypeExpr-F.Sint n s) = ty.Sint n s
type_layer (TypeExpr-F.Bool s) = ty.Bool s
type_layer (TypeExpr-F.Stream s) = ty.Stream s
type_layer (TypeExpr-F.Float s) = ty.Float s
type_layer (TypeExpr-F.Double s) = ty.Double s
type_layer (TypeExpr-F.Maybe t s) = ty.Maybe (type_view t.value) s
type_layer (TypeExpr-F.ArrayOf t s) = ty.ArrayOf (type_view t.value) s
type_layer (TypeExpr-F.MapOf t u s) = ty.MapOf (type_view t.value) (type_view u.value) s
type_layer (TypeExpr-F.Empty s) = ty.Empty s
type_layer (TypeExpr-F.Named x) = ty.Named x
type_layer (TypeExpr-F.Within t s) = ty.Within (type_view t.value) s

abbrev pub typed_view : Option TypeExpr → Option ty.TypeExpr
typed_view None = None
typed_view (Some t) = Some (type_view t)

-- ---- classes

abbrev pub class_step : Cls-F cls.Cls → cls.Cls
class_step (Cls-F.Union a b s) = cls.Union a.value b.value s
class_step (Cls-F.One b) = cls.One b
class_step (Cls-F.Range a b s) = cls.Range a b s
class_step (Cls-F.Known x) = cls.Known x
class_step (Cls-F.Other c s) = cls.Other c.value s
class_step (Cls-F.Grouped c s) = cls.Grouped c.value s
class_step (Cls-F.Set c s) = cls.Set c.value s

unfoldable pub class_view : Cls → cls.Cls
class_view = fold-Cls cls.Cls class_step

abbrev pub class_layer : Cls-F Cls → cls.Cls
class_layer (Cls-F.Union a b s) = cls.Union (class_view a.value) (class_view b.value) s
class_layer (Cls-F.One b) = cls.One b
class_layer (Cls-F.Range a b s) = cls.Range a b s
class_layer (Cls-F.Known x) = cls.Known x
class_layer (Cls-F.Other c s) = cls.Other (class_view c.value) s
class_layer (Cls-F.Grouped c s) = cls.Grouped (class_view c.value) s
class_layer (Cls-F.Set c s) = cls.Set (class_view c.value) s

-- ---- expressions

abbrev pub exprs_of : List ex.Expr → ex.Exprs
exprs_of [] = ex.no_exprs
exprs_of (a ∷ xs) = ex.an_expr a (exprs_of xs)

abbrev pub bindings_of : List ex.Binding → ex.Bindings
bindings_of [] = ex.no_bindings
bindings_of (b ∷ bs) = ex.a_binding b.name b.value b.span (bindings_of bs)

abbrev pub items_of : List ex.Item → ex.Items
items_of [] = ex.no_items
items_of (i ∷ is) = ex.an_item i (items_of is)

abbrev pub alts_of : List ex.Alt → ex.Alts
alts_of [] = ex.no_alts
alts_of (a ∷ xs) = ex.an_alt a.pattern a.body a.span (alts_of xs)

abbrev pub alternatives_step : Alternatives-F ex.Alternatives ex.Bound ex.Expr ex.Item ex.Alt ex.Binding → ex.Alternatives
alternatives_step (Alternatives-F.WithTags bs) = ex.WithTags (bindings_of bs.items)
alternatives_step (Alternatives-F.Untagged xs) = ex.Untagged (exprs_of xs.items)

abbrev pub bound_step : Bound-F ex.Alternatives ex.Bound ex.Expr ex.Item ex.Alt ex.Binding → ex.Bound
bound_step Bound-F.Free = ex.Free
bound_step (Bound-F.Exactly a) = ex.Exactly a.value
bound_step (Bound-F.AtLeast a s) = ex.AtLeast a.value s
bound_step (Bound-F.AtMost a s) = ex.AtMost a.value s
bound_step (Bound-F.Between a b s) = ex.Between a.value b.value s

abbrev pub expr_step : Expr-F ex.Alternatives ex.Bound ex.Expr ex.Item ex.Alt ex.Binding → ex.Expr
expr_step (Expr-F.Infix o a b s) = ex.Infix o a.value b.value s
expr_step (Expr-F.Pure a s) = ex.Pure a.value s
expr_step (Expr-F.If c a b s) = ex.If c.value a.value b.value s
expr_step (Expr-F.For x i ns l b s) = ex.For x i.value ns l.value b.value s
expr_step (Expr-F.Map ns l b s) = ex.Map ns l.value b.value s
expr_step (Expr-F.Is a p s) = ex.Is a.value p s
expr_step (Expr-F.Prefix o a s) = ex.Prefix o a.value s
expr_step (Expr-F.Cast o a t s) = ex.Cast o a.value (type_view t) s
expr_step (Expr-F.CallGrammar x xs s) = ex.CallGrammar x (exprs_of xs.items) s
expr_step (Expr-F.CallValue x xs s) = ex.CallValue x (exprs_of xs.items) s
expr_step (Expr-F.Just a s) = ex.Just a.value s
expr_step (Expr-F.Many o n a s) = ex.Many o n a.value s
expr_step (Expr-F.Optional o a s) = ex.Optional o a.value s
expr_step (Expr-F.Select a x s) = ex.Select a.value x s
expr_step (Expr-F.Num n) = ex.Num n
expr_step (Expr-F.Char b s) = ex.Char b s
expr_step (Expr-F.Text bs s) = ex.Text bs s
expr_step (Expr-F.True s) = ex.True s
expr_step (Expr-F.False s) = ex.False s
expr_step (Expr-F.Nothing s) = ex.Nothing s
expr_step (Expr-F.Upper x) = ex.Upper x
expr_step (Expr-F.Lower x) = ex.Lower x
expr_step (Expr-F.Class x) = ex.Class x
expr_step (Expr-F.Set c s) = ex.Set (class_view c) s
expr_step (Expr-F.Paren a t s) = ex.Paren a.value (typed_view t) s
expr_step (Expr-F.Array xs s) = ex.Array (exprs_of xs.items) s
expr_step (Expr-F.RecordOf bs s) = ex.RecordOf (bindings_of bs.items) s
expr_step (Expr-F.Tagged x None s) = ex.Tag x s
expr_step (Expr-F.Tagged x (Some a) s) = ex.TagWith x a.value s
expr_step (Expr-F.Block is s) = ex.Block (items_of is.items) s
expr_step (Expr-F.Choice o xs s) = ex.Choice o xs s
expr_step (Expr-F.Case a xs s) = ex.Case a.value (alts_of xs.items) s

abbrev pub item_step : Item-F ex.Alternatives ex.Bound ex.Expr ex.Item ex.Alt ex.Binding → ex.Item
item_step (Item-F.Result a s) = ex.Result a s
item_step (Item-F.Let x a s) = ex.Let x a s
item_step (Item-F.Field x a s) = ex.Field x a s
item_step (Item-F.Plain a) = ex.Plain a

abbrev pub alt_step : Alt-F ex.Alternatives ex.Bound ex.Expr ex.Item ex.Alt ex.Binding → ex.Alt
alt_step a = record { pattern = a.pattern; body = a.body; span = a.span }

abbrev pub binding_step : Binding-F ex.Alternatives ex.Bound ex.Expr ex.Item ex.Alt ex.Binding → ex.Binding
binding_step b = record { name = b.name; value = b.value; span = b.span }

unfoldable pub view : Expr → ex.Expr
view = fold-Expr ex.Alternatives ex.Bound ex.Expr ex.Item ex.Alt ex.Binding alternatives_step bound_step expr_step item_step alt_step binding_step

unfoldable pub bound_view : Bound → ex.Bound
bound_view = fold-Bound ex.Alternatives ex.Bound ex.Expr ex.Item ex.Alt ex.Binding alternatives_step bound_step expr_step item_step alt_step binding_step

unfoldable pub alternatives_view : Alternatives → ex.Alternatives
alternatives_view = fold-Alternatives ex.Alternatives ex.Bound ex.Expr ex.Item ex.Alt ex.Binding alternatives_step bound_step expr_step item_step alt_step
    binding_step

unfoldable pub item_view : Item → ex.Item
item_view = fold-Item ex.Alternatives ex.Bound ex.Expr ex.Item ex.Alt ex.Binding alternatives_step bound_step expr_step item_step alt_step binding_step

unfoldable pub alt_view : Alt → ex.Alt
alt_view = fold-Alt ex.Alternatives ex.Bound ex.Expr ex.Item ex.Alt ex.Binding alternatives_step bound_step expr_step item_step alt_step binding_step

unfoldable pub binding_view : Binding → ex.Binding
binding_view = fold-Binding ex.Alternatives ex.Bound ex.Expr ex.Item ex.Alt ex.Binding alternatives_step bound_step expr_step item_step alt_step binding_step

abbrev pub exprs_view : List Expr → ex.Exprs
exprs_view xs = exprs_of (map view xs)

abbrev pub bindings_view : List Binding → ex.Bindings
bindings_view bs = bindings_of (map binding_view bs)

abbrev pub items_view : List Item → ex.Items
items_view is = items_of (map item_view is)

abbrev pub alts_view : List Alt → ex.Alts
alts_view xs = alts_of (map alt_view xs)

-- ---- one level of each, in terms of the views

abbrev pub view_layer : Expr-F Alternatives Bound Expr Item Alt Binding → ex.Expr
view_layer (Expr-F.Infix o a b s) = ex.Infix o (view a.value) (view b.value) s
view_layer (Expr-F.Pure a s) = ex.Pure (view a.value) s
view_layer (Expr-F.If c a b s) = ex.If (view c.value) (view a.value) (view b.value) s
view_layer (Expr-F.For x i ns l b s) = ex.For x (view i.value) ns (view l.value) (view b.value) s
view_layer (Expr-F.Map ns l b s) = ex.Map ns (view l.value) (view b.value) s
view_layer (Expr-F.Is a p s) = ex.Is (view a.value) p s
view_layer (Expr-F.Prefix o a s) = ex.Prefix o (view a.value) s
view_layer (Expr-F.Cast o a t s) = ex.Cast o (view a.value) (type_view t) s
view_layer (Expr-F.CallGrammar x xs s) = ex.CallGrammar x (exprs_view xs.items) s
view_layer (Expr-F.CallValue x xs s) = ex.CallValue x (exprs_view xs.items) s
view_layer (Expr-F.Just a s) = ex.Just (view a.value) s
view_layer (Expr-F.Many o n a s) = ex.Many o (bound_view n) (view a.value) s
view_layer (Expr-F.Optional o a s) = ex.Optional o (view a.value) s
view_layer (Expr-F.Select a x s) = ex.Select (view a.value) x s
view_layer (Expr-F.Num n) = ex.Num n
view_layer (Expr-F.Char b s) = ex.Char b s
view_layer (Expr-F.Text bs s) = ex.Text bs s
view_layer (Expr-F.True s) = ex.True s
view_layer (Expr-F.False s) = ex.False s
view_layer (Expr-F.Nothing s) = ex.Nothing s
view_layer (Expr-F.Upper x) = ex.Upper x
view_layer (Expr-F.Lower x) = ex.Lower x
view_layer (Expr-F.Class x) = ex.Class x
view_layer (Expr-F.Set c s) = ex.Set (class_view c) s
view_layer (Expr-F.Paren a t s) = ex.Paren (view a.value) (typed_view t) s
view_layer (Expr-F.Array xs s) = ex.Array (exprs_view xs.items) s
view_layer (Expr-F.RecordOf bs s) = ex.RecordOf (bindings_view bs.items) s
view_layer (Expr-F.Tagged x None s) = ex.Tag x s
view_layer (Expr-F.Tagged x (Some a) s) = ex.TagWith x (view a.value) s
view_layer (Expr-F.Block is s) = ex.Block (items_view is.items) s
view_layer (Expr-F.Choice o xs s) = ex.Choice o (alternatives_view xs) s
view_layer (Expr-F.Case a xs s) = ex.Case (view a.value) (alts_view xs.items) s

abbrev pub bound_layer : Bound-F Alternatives Bound Expr Item Alt Binding → ex.Bound
bound_layer Bound-F.Free = ex.Free
bound_layer (Bound-F.Exactly a) = ex.Exactly (view a.value)
bound_layer (Bound-F.AtLeast a s) = ex.AtLeast (view a.value) s
bound_layer (Bound-F.AtMost a s) = ex.AtMost (view a.value) s
bound_layer (Bound-F.Between a b s) = ex.Between (view a.value) (view b.value) s

abbrev pub alternatives_layer : Alternatives-F Alternatives Bound Expr Item Alt Binding → ex.Alternatives
alternatives_layer (Alternatives-F.WithTags bs) = ex.WithTags (bindings_view bs.items)
alternatives_layer (Alternatives-F.Untagged xs) = ex.Untagged (exprs_view xs.items)

abbrev pub item_layer : Item-F Alternatives Bound Expr Item Alt Binding → ex.Item
item_layer (Item-F.Result a s) = ex.Result (view a) s
item_layer (Item-F.Let x a s) = ex.Let x (view a) s
item_layer (Item-F.Field x a s) = ex.Field x (view a) s
item_layer (Item-F.Plain a) = ex.Plain (view a)

abbrev pub alt_layer : Alt-F Alternatives Bound Expr Item Alt Binding → ex.Alt
alt_layer a = record { pattern = a.pattern; body = view a.body; span = a.span }

abbrev pub binding_layer : Binding-F Alternatives Bound Expr Item Alt Binding → ex.Binding
binding_layer b = record { name = b.name; value = view b.value; span = b.span }
