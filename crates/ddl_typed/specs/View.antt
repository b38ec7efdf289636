-- The tree that a value of the program stands for.
use Rattle.std.specs.Prelude.{ℕ, List, [], ◌∷◌, map, Option, Some, None}
use Rattle.ddl_typed.specs.declared.expr.TArgument.{TArgument, TArgument-F, fold-TArgument}
use Rattle.ddl_typed.specs.declared.expr.TBounds.{TBounds, TBounds-F, fold-TBounds}
use Rattle.ddl_typed.specs.declared.expr.TContent.{TContent, TContent-F, fold-TContent}
use Rattle.ddl_typed.specs.declared.expr.TForm.{TForm, TForm-F, fold-TForm}
use Rattle.ddl_typed.specs.declared.expr.TItem.{TItem, TItem-F, fold-TItem}
use Rattle.ddl_typed.specs.declared.expr.TAlternative.{TAlternative, TAlternative-F, fold-TAlternative}
use Rattle.ddl_typed.specs.declared.expr.TCase.{TCase, TCase-F, fold-TCase}
use Rattle.ddl_typed.specs.declared.expr.TExpr.{TExpr, TExpr-F, fold-TExpr}
use Rattle.ddl_typed.specs.declared.expr.TField.{TField, TField-F, fold-TField}
use Rattle.ddl_typed.specs.declared.expr.TDecl.{TDecl}
use Rattle.ddl_ops.specs.declared.pattern.Pattern.{Pattern}
use Rattle.ddl_types.specs.Types.{Ty}
use Rattle.ddl_types.specs.TyView.{ty_view}
use Rattle.ddl_typed.specs.PartView.{name_view, site_view, class_view}
use Rattle.ddl_typed.specs.Tree as t

-- ---- the elements of lists, and the lists that they make

abbrev pub OneAlternative : Type 0
OneAlternative = Option (List ℕ) × t.Expr

abbrev pub OneCase : Type 0
OneCase = Pattern × t.Expr

abbrev pub OneField : Type 0
OneField = List ℕ × t.Expr

pub data OneArgument : Type 0 where
  value : ℕ → t.Expr → OneArgument
  grammar : ℕ → t.Site → t.Expr → OneArgument
  class_of : ℕ → t.Class → OneArgument
  type_of : ℕ → Ty → OneArgument
  hand : t.Name → t.Name → OneArgument

abbrev pub exprs_of : List t.Expr → t.Exprs
exprs_of [] = t.no_exprs
exprs_of (e ∷ es) = t.more e (exprs_of es)

abbrev pub fields_of : List OneField → t.Named
fields_of [] = t.no_named
fields_of (f ∷ fs) = t.named f.0 f.1 (fields_of fs)

abbrev pub cases_of : List OneCase → t.Cases
cases_of [] = t.no_cases
cases_of (c ∷ cs) = t.when c.0 c.1 (cases_of cs)

abbrev pub with_alternative : Option (List ℕ) → t.Expr → t.Alts → t.Alts
with_alternative None e as_ = t.alt e as_
with_alternative (Some name) e as_ = t.tag name e as_

abbrev pub alts_of : List OneAlternative → t.Alts
alts_of [] = t.no_alts
alts_of (a ∷ as_) = with_alternative a.0 a.1 (alts_of as_)

abbrev pub with_argument : OneArgument → t.Args → t.Args
with_argument (value x e) args = t.by_value x e args
with_argument (grammar x site e) args = t.by_grammar x site e args
with_argument (class_of x c) args = t.by_class x c args
with_argument (type_of x ty) args = t.by_type x ty args
with_argument (hand there here) args = t.by_hand there here args

abbrev pub args_of : List OneArgument → t.Args
args_of [] = t.no_args
args_of (a ∷ args) = with_argument a (args_of args)

abbrev pub items_of : List t.Item → t.Items
items_of [] = t.no_items
items_of (i ∷ is) = t.item i (items_of is)

-- ---- one level, with each part already seen

abbrev pub form_step : TForm-F OneArgument t.Bounds t.Content t.Form t.Item OneAlternative OneCase t.Expr OneField → t.Form
form_step (TForm-F.Text bs) = t.text bs
form_step (TForm-F.Local x) = t.local x
form_step (TForm-F.Number n) = t.literal n
form_step (TForm-F.Truth b) = t.truth b
form_step TForm-F.Nothing = t.nothing_
form_step (TForm-F.Just e) = t.just_ e.value
form_step (TForm-F.List es) = t.list (exprs_of es.items)
form_step (TForm-F.Record fs) = t.record_ (fields_of fs.items)
form_step (TForm-F.Union name c) = t.union_ name c
form_step (TForm-F.Select e name) = t.select e.value name
form_step (TForm-F.Infix op a b) = t.infix_ op a.value b.value
form_step (TForm-F.Prefix op e) = t.prefix_ op e.value
form_step (TForm-F.Cast c e) = t.cast c e.value
form_step (TForm-F.Builtin b es) = t.builtin b (exprs_of es.items)
form_step (TForm-F.ValueCall f args) = t.value_call f (args_of args.items)
form_step (TForm-F.Paren e) = t.paren e.value
form_step (TForm-F.If c a b) = t.if_ c.value a.value b.value
form_step (TForm-F.Case e cs) = t.case_ e.value (cases_of cs.items)
form_step (TForm-F.For x a names e b) = t.for_ x a.value names e.value b.value
form_step (TForm-F.Map names e b) = t.map_ names e.value b.value
form_step (TForm-F.Pure e) = t.pure e.value
form_step TForm-F.UInt8 = t.uint8
form_step (TForm-F.Match e) = t.match e.value
form_step TForm-F.End = t.end
form_step (TForm-F.Class c) = t.class (class_view c)
form_step (TForm-F.Fail n) = t.fail n
form_step (TForm-F.Primitive p es) = t.primitive p (exprs_of es.items)
form_step (TForm-F.Is e p) = t.is_ e.value p
form_step (TForm-F.Fits e) = t.fits e.value
form_step (TForm-F.Block is) = t.block (items_of is.items)
form_step (TForm-F.First as_) = t.first (alts_of as_.items)
form_step (TForm-F.Choose as_) = t.choose (alts_of as_.items)
form_step (TForm-F.Many c b e) = t.many c b e.value
form_step (TForm-F.Optional c e) = t.optional c e.value
form_step (TForm-F.Call f args) = t.call f (args_of args.items)
form_step (TForm-F.Parameter x) = t.parameter x

abbrev pub item_step : TItem-F OneArgument t.Bounds t.Content t.Form t.Item OneAlternative OneCase t.Expr OneField → t.Item
item_step (TItem-F.Plain e) = t.plain e
item_step (TItem-F.Let x e) = t.let_ x e
item_step (TItem-F.Field name x e) = t.field name x e
item_step (TItem-F.Result e) = t.result_ e

abbrev pub content_step : TContent-F OneArgument t.Bounds t.Content t.Form t.Item OneAlternative OneCase t.Expr OneField → t.Content
content_step TContent-F.Absent = t.no_content
content_step (TContent-F.Given e) = t.content e.value

abbrev pub bounds_step : TBounds-F OneArgument t.Bounds t.Content t.Form t.Item OneAlternative OneCase t.Expr OneField → t.Bounds
bounds_step TBounds-F.Unbounded = t.unbounded
bounds_step (TBounds-F.Exactly a) = t.exactly a.value
bounds_step (TBounds-F.AtLeast a) = t.from_ a.value
bounds_step (TBounds-F.AtMost b) = t.up_to b.value
bounds_step (TBounds-F.Between a b) = t.between a.value b.value

abbrev pub argument_step : TArgument-F OneArgument t.Bounds t.Content t.Form t.Item OneAlternative OneCase t.Expr OneField → OneArgument
argument_step (TArgument-F.Value x e) = value x e
argument_step (TArgument-F.Grammar x site e) = grammar x (site_view site) e
argument_step (TArgument-F.ClassOf x c) = class_of x (class_view c)
argument_step (TArgument-F.TypeOf x ty) = type_of x (ty_view ty)
argument_step (TArgument-F.ByHand there here) = hand (name_view there) (name_view here)

abbrev pub alternative_step : TAlternative-F OneArgument t.Bounds t.Content t.Form t.Item OneAlternative OneCase t.Expr OneField → OneAlternative
alternative_step a = (a.tag, a.body)

abbrev pub case_step : TCase-F OneArgument t.Bounds t.Content t.Form t.Item OneAlternative OneCase t.Expr OneField → OneCase
case_step c = (c.pattern, c.body)

abbrev pub expr_step : TExpr-F OneArgument t.Bounds t.Content t.Form t.Item OneAlternative OneCase t.Expr OneField → t.Expr
expr_step e = t.expr e.form (ty_view e.of) e.span

abbrev pub field_step : TField-F OneArgument t.Bounds t.Content t.Form t.Item OneAlternative OneCase t.Expr OneField → OneField
field_step f = (f.label, f.value)

-- ---- the views

unfoldable pub argument_view : TArgument → OneArgument
argument_view = fold-TArgument OneArgument t.Bounds t.Content t.Form t.Item OneAlternative OneCase t.Expr OneField argument_step bounds_step content_step
    form_step item_step alternative_step case_step expr_step field_step

unfoldable pub bounds_view : TBounds → t.Bounds
bounds_view = fold-TBounds OneArgument t.Bounds t.Content t.Form t.Item OneAlternative OneCase t.Expr OneField argument_step bounds_step content_step form_step
    item_step alternative_step case_step expr_step field_step

unfoldable pub content_view : TContent → t.Content
content_view = fold-TContent OneArgument t.Bounds t.Content t.Form t.Item OneAlternative OneCase t.Expr OneField argument_step bounds_step content_step
    form_step item_step alternative_step case_step expr_step field_step

unfoldable pub form_view : TForm → t.Form
form_view = fold-TForm OneArgument t.Bounds t.Content t.Form t.Item OneAlternative OneCase t.Expr OneField argument_step bounds_step content_step form_step
    item_step alternative_step case_step expr_step field_step

unfoldable pub item_view : TItem → t.Item
item_view = fold-TItem OneArgument t.Bounds t.Content t.Form t.Item OneAlternative OneCase t.Expr OneField argument_step bounds_step content_step form_step
    item_step alternative_step case_step expr_step field_step

unfoldable pub alternative_view : TAlternative → OneAlternative
alternative_view = fold-TAlternative OneArgument t.Bounds t.Content t.Form t.Item OneAlternative OneCase t.Expr OneField argument_step bounds_step content_step
    form_step item_step alternative_step case_step expr_step field_step

unfoldable pub case_view : TCase → OneCase
case_view = fold-TCase OneArgument t.Bounds t.Content t.Form t.Item OneAlternative OneCase t.Expr OneField argument_step bounds_step content_step form_step
    item_step alternative_step case_step expr_step field_step

unfoldable pub view : TExpr → t.Expr
view = fold-TExpr OneArgument t.Bounds t.Content t.Form t.Item OneAlternative OneCase t.Expr OneField argument_step bounds_step content_step form_step item_step
    alternative_step case_step expr_step field_step

unfoldable pub field_view : TField → OneField
field_view = fold-TField OneArgument t.Bounds t.Content t.Form t.Item OneAlternative OneCase t.Expr OneField argument_step bounds_step content_step form_step
    item_step alternative_step case_step expr_step field_step

abbrev pub exprs_view : List TExpr → t.Exprs
exprs_view xs = exprs_of (map view xs)

abbrev pub fields_view : List TField → t.Named
fields_view xs = fields_of (map field_view xs)

abbrev pub cases_view : List TCase → t.Cases
cases_view xs = cases_of (map case_view xs)

abbrev pub alts_view : List TAlternative → t.Alts
alts_view xs = alts_of (map alternative_view xs)

abbrev pub args_view : List TArgument → t.Args
args_view xs = args_of (map argument_view xs)

abbrev pub items_view : List TItem → t.Items
items_view xs = items_of (map item_view xs)

-- ---- one level, in terms of the views

abbrev pub form_layer : TForm-F TArgument TBounds TContent TForm TItem TAlternative TCase TExpr TField → t.Form
form_layer (TForm-F.Text bs) = t.text bs
form_layer (TForm-F.Local x) = t.local x
form_layer (TForm-F.Number n) = t.literal n
form_layer (TForm-F.Truth b) = t.truth b
form_layer TForm-F.Nothing = t.nothing_
form_layer (TForm-F.Just e) = t.just_ (view e.value)
form_layer (TForm-F.List es) = t.list (exprs_view es.items)
form_layer (TForm-F.Record fs) = t.record_ (fields_view fs.items)
form_layer (TForm-F.Union name c) = t.union_ name (content_view c)
form_layer (TForm-F.Select e name) = t.select (view e.value) name
form_layer (TForm-F.Infix op a b) = t.infix_ op (view a.value) (view b.value)
form_layer (TForm-F.Prefix op e) = t.prefix_ op (view e.value)
form_layer (TForm-F.Cast c e) = t.cast c (view e.value)
form_layer (TForm-F.Builtin b es) = t.builtin b (exprs_view es.items)
form_layer (TForm-F.ValueCall f args) = t.value_call f (args_view args.items)
form_layer (TForm-F.Paren e) = t.paren (view e.value)
form_layer (TForm-F.If c a b) = t.if_ (view c.value) (view a.value) (view b.value)
form_layer (TForm-F.Case e cs) = t.case_ (view e.value) (cases_view cs.items)
form_layer (TForm-F.For x a names e b) = t.for_ x (view a.value) names (view e.value) (view b.value)
form_layer (TForm-F.Map names e b) = t.map_ names (view e.value) (view b.value)
form_layer (TForm-F.Pure e) = t.pure (view e.value)
form_layer TForm-F.UInt8 = t.uint8
form_layer (TForm-F.Match e) = t.match (view e.value)
form_layer TForm-F.End = t.end
form_layer (TForm-F.Class c) = t.class (class_view c)
form_layer (TForm-F.Fail n) = t.fail n
form_layer (TForm-F.Primitive p es) = t.primitive p (exprs_view es.items)
form_layer (TForm-F.Is e p) = t.is_ (view e.value) p
form_layer (TForm-F.Fits e) = t.fits (view e.value)
form_layer (TForm-F.Block is) = t.block (items_view is.items)
form_layer (TForm-F.First as_) = t.first (alts_view as_.items)
form_layer (TForm-F.Choose as_) = t.choose (alts_view as_.items)
form_layer (TForm-F.Many c b e) = t.many c (bounds_view b) (view e.value)
form_layer (TForm-F.Optional c e) = t.optional c (view e.value)
form_layer (TForm-F.Call f args) = t.call f (args_view args.items)
form_layer (TForm-F.Parameter x) = t.parameter x

abbrev pub item_layer : TItem-F TArgument TBounds TContent TForm TItem TAlternative TCase TExpr TField → t.Item
item_layer (TItem-F.Plain e) = t.plain (view e)
item_layer (TItem-F.Let x e) = t.let_ x (view e)
item_layer (TItem-F.Field name x e) = t.field name x (view e)
item_layer (TItem-F.Result e) = t.result_ (view e)

abbrev pub content_layer : TContent-F TArgument TBounds TContent TForm TItem TAlternative TCase TExpr TField → t.Content
content_layer TContent-F.Absent = t.no_content
content_layer (TContent-F.Given e) = t.content (view e.value)

abbrev pub bounds_layer : TBounds-F TArgument TBounds TContent TForm TItem TAlternative TCase TExpr TField → t.Bounds
bounds_layer TBounds-F.Unbounded = t.unbounded
bounds_layer (TBounds-F.Exactly a) = t.exactly (view a.value)
bounds_layer (TBounds-F.AtLeast a) = t.from_ (view a.value)
bounds_layer (TBounds-F.AtMost b) = t.up_to (view b.value)
bounds_layer (TBounds-F.Between a b) = t.between (view a.value) (view b.value)

abbrev pub argument_layer : TArgument-F TArgument TBounds TContent TForm TItem TAlternative TCase TExpr TField → OneArgument
argument_layer (TArgument-F.Value x e) = value x (view e)
argument_layer (TArgument-F.Grammar x site e) = grammar x (site_view site) (view e)
argument_layer (TArgument-F.ClassOf x c) = class_of x (class_view c)
argument_layer (TArgument-F.TypeOf x ty) = type_of x (ty_view ty)
argument_layer (TArgument-F.ByHand there here) = hand (name_view there) (name_view here)

abbrev pub alternative_layer : TAlternative-F TArgument TBounds TContent TForm TItem TAlternative TCase TExpr TField → OneAlternative
alternative_layer a = (a.tag, view a.body)

abbrev pub case_layer : TCase-F TArgument TBounds TContent TForm TItem TAlternative TCase TExpr TField → OneCase
case_layer c = (c.pattern, view c.body)

abbrev pub expr_layer : TExpr-F TArgument TBounds TContent TForm TItem TAlternative TCase TExpr TField → t.Expr
expr_layer e = t.expr (form_view e.form) (ty_view e.of) e.span

abbrev pub field_layer : TField-F TArgument TBounds TContent TForm TItem TAlternative TCase TExpr TField → OneField
field_layer f = (f.label, view f.value)

-- the specification of a declaration alone
abbrev pub alone_view : TDecl → t.Spec
alone_view d = t.alone d.span (view d.body)
