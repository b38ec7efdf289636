-- One level of a tree, as it is seen.
use Rattle.std.proofs.Common.{◌≡◌, ap, sym, ◌∙◌, rules}
use Rattle.ddl_typed.specs.declared.class.TClass.{TClass, TClass-F, out-TClass, roll-TClass, roll-out-TClass}
use Rattle.ddl_typed.specs.declared.class.TClass as c
use Rattle.ddl_typed.specs.declared.expr.TExpr.{TExpr, out-TExpr}
use Rattle.ddl_typed.specs.declared.expr.TForm.{TForm, TForm-F, out-TForm, roll-TForm, roll-out-TForm, the_lemmas}
use Rattle.ddl_typed.specs.declared.expr.TItem.{TItem, TItem-F, out-TItem, roll-TItem, roll-out-TItem}
use Rattle.ddl_typed.specs.declared.expr.TContent.{TContent, TContent-F, out-TContent, roll-TContent, roll-out-TContent}
use Rattle.ddl_typed.specs.declared.expr.TBounds.{TBounds, TBounds-F, out-TBounds, roll-TBounds, roll-out-TBounds}
use Rattle.ddl_typed.specs.declared.expr.TArgument.{TArgument, TArgument-F, out-TArgument, roll-TArgument, roll-out-TArgument}
use Rattle.ddl_typed.specs.declared.expr.TAlternative.{TAlternative, out-TAlternative}
use Rattle.ddl_typed.specs.declared.expr.TCase.{TCase, out-TCase}
use Rattle.ddl_typed.specs.declared.expr.TField.{TField, out-TField}
use Rattle.ddl_typed.specs.PartView.{class_view, class_layer}
use Rattle.ddl_typed.specs.View.{view, form_view, item_view, content_view, bounds_view, argument_view, alternative_view, case_view, field_view, form_layer}
use Rattle.ddl_typed.specs.View.{item_layer, content_layer, bounds_layer, argument_layer, alternative_layer, case_layer, expr_layer, field_layer}

form_view_roll : (l : TForm-F TArgument TBounds TContent TForm TItem TAlternative TCase TExpr TField) → form_view (roll-TForm l) ≡ form_layer l
unfolding view form_view item_view content_view bounds_view argument_view alternative_view case_view field_view
form_view_roll (TForm-F.Text bs) = search (rules, the_lemmas)
form_view_roll (TForm-F.Local x) = search (rules, the_lemmas)
form_view_roll (TForm-F.Number n) = search (rules, the_lemmas)
form_view_roll (TForm-F.Truth b) = search (rules, the_lemmas)
form_view_roll TForm-F.Nothing = search (rules, the_lemmas)
form_view_roll (TForm-F.Just e) = search (rules, the_lemmas)
form_view_roll (TForm-F.List es) = search (rules, the_lemmas)
form_view_roll (TForm-F.Record fs) = search (rules, the_lemmas)
form_view_roll (TForm-F.Union name c) = search (rules, the_lemmas)
form_view_roll (TForm-F.Select e name) = search (rules, the_lemmas)
form_view_roll (TForm-F.Infix op a b) = search (rules, the_lemmas)
form_view_roll (TForm-F.Prefix op e) = search (rules, the_lemmas)
form_view_roll (TForm-F.Cast c e) = search (rules, the_lemmas)
form_view_roll (TForm-F.Builtin b es) = search (rules, the_lemmas)
form_view_roll (TForm-F.ValueCall f args) = search (rules, the_lemmas)
form_view_roll (TForm-F.Paren e) = search (rules, the_lemmas)
form_view_roll (TForm-F.If c a b) = search (rules, the_lemmas)
form_view_roll (TForm-F.Case e cs) = search (rules, the_lemmas)
form_view_roll (TForm-F.For x a names e b) = search (rules, the_lemmas)
form_view_roll (TForm-F.Map names e b) = search (rules, the_lemmas)
form_view_roll (TForm-F.Pure e) = search (rules, the_lemmas)
form_view_roll TForm-F.UInt8 = search (rules, the_lemmas)
form_view_roll (TForm-F.Match e) = search (rules, the_lemmas)
form_view_roll TForm-F.End = search (rules, the_lemmas)
form_view_roll (TForm-F.Class c) = search (rules, the_lemmas)
form_view_roll (TForm-F.Fail n) = search (rules, the_lemmas)
form_view_roll (TForm-F.Primitive p es) = search (rules, the_lemmas)
form_view_roll (TForm-F.Is e p) = search (rules, the_lemmas)
form_view_roll (TForm-F.Fits e) = search (rules, the_lemmas)
form_view_roll (TForm-F.Block is) = search (rules, the_lemmas)
form_view_roll (TForm-F.First as_) = search (rules, the_lemmas)
form_view_roll (TForm-F.Choose as_) = search (rules, the_lemmas)
form_view_roll (TForm-F.Many c b e) = search (rules, the_lemmas)
form_view_roll (TForm-F.Optional c e) = search (rules, the_lemmas)
form_view_roll (TForm-F.Call f args) = search (rules, the_lemmas)
form_view_roll (TForm-F.Parameter x) = search (rules, the_lemmas)

pub form_view_out : (f : TForm) → form_view f ≡ form_layer (out-TForm f)
form_view_out f = ap form_view (sym (roll-out-TForm f)) ∙ form_view_roll (out-TForm f)

item_view_roll : (l : TItem-F TArgument TBounds TContent TForm TItem TAlternative TCase TExpr TField) → item_view (roll-TItem l) ≡ item_layer l
unfolding view form_view item_view content_view bounds_view argument_view alternative_view case_view field_view
item_view_roll (TItem-F.Plain e) = search (rules, the_lemmas)
item_view_roll (TItem-F.Let x e) = search (rules, the_lemmas)
item_view_roll (TItem-F.Field name x e) = search (rules, the_lemmas)
item_view_roll (TItem-F.Result e) = search (rules, the_lemmas)

pub item_view_out : (i : TItem) → item_view i ≡ item_layer (out-TItem i)
item_view_out i = ap item_view (sym (roll-out-TItem i)) ∙ item_view_roll (out-TItem i)

content_view_roll : (l : TContent-F TArgument TBounds TContent TForm TItem TAlternative TCase TExpr TField) → content_view (roll-TContent l) ≡ content_layer l
unfolding view form_view item_view content_view bounds_view argument_view alternative_view case_view field_view
content_view_roll TContent-F.Absent = search (rules, the_lemmas)
content_view_roll (TContent-F.Given e) = search (rules, the_lemmas)

pub content_view_out : (c : TContent) → content_view c ≡ content_layer (out-TContent c)
content_view_out c = ap content_view (sym (roll-out-TContent c)) ∙ content_view_roll (out-TContent c)

bounds_view_roll : (l : TBounds-F TArgument TBounds TContent TForm TItem TAlternative TCase TExpr TField) → bounds_view (roll-TBounds l) ≡ bounds_layer l
unfolding view form_view item_view content_view bounds_view argument_view alternative_view case_view field_view
bounds_view_roll TBounds-F.Unbounded = search (rules, the_lemmas)
bounds_view_roll (TBounds-F.Exactly a) = search (rules, the_lemmas)
bounds_view_roll (TBounds-F.AtLeast a) = search (rules, the_lemmas)
bounds_view_roll (TBounds-F.AtMost b) = search (rules, the_lemmas)
bounds_view_roll (TBounds-F.Between a b) = search (rules, the_lemmas)

pub bounds_view_out : (b : TBounds) → bounds_view b ≡ bounds_layer (out-TBounds b)
bounds_view_out b = ap bounds_view (sym (roll-out-TBounds b)) ∙ bounds_view_roll (out-TBounds b)

argument_view_roll : (l : TArgument-F TArgument TBounds TContent TForm TItem TAlternative TCase TExpr TField)
    → argument_view (roll-TArgument l) ≡ argument_layer l
unfolding view form_view item_view content_view bounds_view argument_view alternative_view case_view field_view
argument_view_roll (TArgument-F.Value x e) = search (rules, the_lemmas)
argument_view_roll (TArgument-F.Grammar x site e) = search (rules, the_lemmas)
argument_view_roll (TArgument-F.ClassOf x c) = search (rules, the_lemmas)
argument_view_roll (TArgument-F.TypeOf x ty) = search (rules, the_lemmas)
argument_view_roll (TArgument-F.ByHand there here) = search (rules, the_lemmas)

pub argument_view_out : (a : TArgument) → argument_view a ≡ argument_layer (out-TArgument a)
argument_view_out a = ap argument_view (sym (roll-out-TArgument a)) ∙ argument_view_roll (out-TArgument a)

pub alternative_view_out : (a : TAlternative) → alternative_view a ≡ alternative_layer (out-TAlternative a)
unfolding view form_view item_view content_view bounds_view argument_view alternative_view case_view field_view
alternative_view_out a = search (rules, the_lemmas)

pub case_view_out : (c : TCase) → case_view c ≡ case_layer (out-TCase c)
unfolding view form_view item_view content_view bounds_view argument_view alternative_view case_view field_view
case_view_out c = search (rules, the_lemmas)

pub field_view_out : (f : TField) → field_view f ≡ field_layer (out-TField f)
unfolding view form_view item_view content_view bounds_view argument_view alternative_view case_view field_view
field_view_out f = search (rules, the_lemmas)

pub view_out : (e : TExpr) → view e ≡ expr_layer (out-TExpr e)
unfolding view form_view item_view content_view bounds_view argument_view alternative_view case_view field_view
view_out e = search (rules, the_lemmas)

class_view_roll : (l : TClass-F TClass) → class_view (roll-TClass l) ≡ class_layer l
unfolding class_view
class_view_roll (TClass-F.Range from to) = search (rules, c.the_lemmas)
class_view_roll (TClass-F.Either a b) = search (rules, c.the_lemmas)
class_view_roll (TClass-F.Except a) = search (rules, c.the_lemmas)
class_view_roll (TClass-F.Declared f) = search (rules, c.the_lemmas)
class_view_roll (TClass-F.Parameter x) = search (rules, c.the_lemmas)
class_view_roll (TClass-F.Set k) = search (rules, c.the_lemmas)

pub class_view_out : (k : TClass) → class_view k ≡ class_layer (out-TClass k)
class_view_out k = ap class_view (sym (roll-out-TClass k)) ∙ class_view_roll (out-TClass k)

pub ruleset class_layers = (class_view_out, c.the_lemmas)

pub ruleset layers = (
  view_out,
  form_view_out,
  item_view_out,
  content_view_out,
  bounds_view_out,
  argument_view_out,
  alternative_view_out,
  case_view_out,
  field_view_out,
  the_lemmas,
)
