-- Each form of an expression, a type, a class and a pattern prints before the rest, and well.
use Rattle.std.proofs.Common.{◌≡◌, false, List, ◌∷◌, Option, Some, None, refl}
use Rattle.std.specs.Prelude.{codes}
use Rattle.ddl_token.specs.declared.token.Tok.{Tok}
use Rattle.ddl_token.specs.declared.token.Tok.TheVariants as k
use Rattle.ddl_token.specs.declared.word.Word.TheVariants as w
use Rattle.ddl_token.specs.declared.mark.Mark.{Mark}
use Rattle.ddl_token.specs.declared.mark.Mark.TheVariants as m
use Rattle.ddl_tree.specs.declared.name.Name.{Name}
use Rattle.ddl_tree.specs.declared.name.ByteLit.{ByteLit}
use Rattle.ddl_tree.specs.declared.name.ByteLit.TheVariants.{Code, Quoted}
use Rattle.ddl_tree.specs.declared.operator.Bias.{Bias}
use Rattle.ddl_tree.specs.declared.operator.Bias.TheVariants.{Biased, Unbiased}
use Rattle.ddl_tree.specs.declared.operator.CastOp.{CastOp}
use Rattle.ddl_tree.specs.declared.operator.CastOp.TheVariants as cast
use Rattle.ddl_tree.specs.declared.operator.InfixOp.{InfixOp}
use Rattle.ddl_tree.specs.declared.operator.InfixOp.TheVariants as op
use Rattle.ddl_tree.specs.declared.operator.PrefixOp.{PrefixOp}
use Rattle.ddl_tree.specs.declared.operator.PrefixOp.TheVariants as pre
use Rattle.ddl_tree.specs.declared.pattern.Names.{Names}
use Rattle.ddl_tree.specs.declared.pattern.Pat.{Pat}
use Rattle.ddl_tree.specs.declared.pattern.Pat.TheVariants as pat
use Rattle.ddl_tree.specs.declared.pattern.Binder.{Binder}
use Rattle.ddl_tree.specs.declared.pattern.Binder.TheVariants.{Called, Ignored}
use Rattle.ddl_tree.specs.declared.pattern.Shape.{Shape}
use Rattle.ddl_tree.specs.declared.pattern.Shape.TheVariants.{IsTag, IsTrue, IsFalse, IsJust, IsNothing}
use Rattle.ddl_tree.specs.TypeTree as ty
use Rattle.ddl_tree.specs.ClassTree as cls
use Rattle.ddl_tree.specs.ExprTree as ex
use Rattle.ddl_tree.specs.Print.{upper, lower, number, infix_token, prefix_token, cast_token, many_token, optional_token, choice_token, shape_token}
use Rattle.ddl_tree.specs.Print.{binder_token, byte_token, print_type, print_typed, print_class, print_content, print_pattern, print_second, print_names, print}
use Rattle.ddl_tree.specs.Print.{print_bound, print_alternatives, print_item, print_args, print_exprs, print_more_exprs, print_bindings, print_more_bindings}
use Rattle.ddl_tree.specs.Print.{print_items, print_more_items, print_alts, print_more_alts}
use Rattle.ddl_lex.specs.Layout.{begins_items}
use Rattle.ddl_show.proofs.Prints.{Prints, nothing, both, token, list}

-- a mark, a name and a number begin no list
mark : {f : List Tok → List Tok} (s : Mark) → Prints f → Prints (λ r. k.Mark s ∷ f r)
mark s p = token (k.Mark s) refl p

name : {f : List Tok → List Tok} (x : Name) → Prints f → Prints (λ r. lower x ∷ f r)
name x p = token (lower x) refl p

-- ---- tokens

infix_stands : (o : InfixOp) → begins_items (infix_token o) ≡ false
infix_stands op.Either = refl
infix_stands op.OrElse = refl
infix_stands op.Or = refl
infix_stands op.And = refl
infix_stands op.Equal = refl
infix_stands op.NotEqual = refl
infix_stands op.Less = refl
infix_stands op.LessEqual = refl
infix_stands op.Greater = refl
infix_stands op.GreaterEqual = refl
infix_stands op.BitOr = refl
infix_stands op.BitXor = refl
infix_stands op.BitAnd = refl
infix_stands op.ShiftLeft = refl
infix_stands op.ShiftRight = refl
infix_stands op.Append = refl
infix_stands op.AppendWithin = refl
infix_stands op.Add = refl
infix_stands op.Subtract = refl
infix_stands op.Multiply = refl
infix_stands op.Divide = refl
infix_stands op.Remainder = refl

prefix_stands : (o : PrefixOp) → begins_items (prefix_token o) ≡ false
prefix_stands pre.Negate = refl
prefix_stands pre.Not = refl
prefix_stands pre.Complement = refl

cast_stands : (o : CastOp) → begins_items (cast_token o) ≡ false
cast_stands cast.Lossless = refl
cast_stands cast.Cut = refl
cast_stands cast.Fit = refl

many_stands : (o : Bias) → begins_items (many_token o) ≡ false
many_stands Biased = refl
many_stands Unbiased = refl

optional_stands : (o : Bias) → begins_items (optional_token o) ≡ false
optional_stands Biased = refl
optional_stands Unbiased = refl

shape_stands : (s : Shape) → begins_items (shape_token s) ≡ false
shape_stands (IsTag x) = refl
shape_stands (IsTrue s) = refl
shape_stands (IsFalse s) = refl
shape_stands (IsJust s) = refl
shape_stands (IsNothing s) = refl

binder_stands : (b : Binder) → begins_items (binder_token b) ≡ false
binder_stands (Called x) = refl
binder_stands (Ignored s) = refl

byte_stands : (b : ByteLit) → begins_items (byte_token b) ≡ false
byte_stands (Code n) = refl
byte_stands (Quoted b s) = refl

-- ---- types, classes, patterns

pub type_prints : (t : ty.TypeExpr) → Prints (print_type t)
type_prints (ty.Int s) = token (k.Lower (codes "int")) refl nothing
type_prints (ty.Uint n s) = token (k.Lower (codes "uint")) refl (token (number n) refl nothing)
type_prints (ty.Sint n s) = token (k.Lower (codes "sint")) refl (token (number n) refl nothing)
type_prints (ty.Bool s) = token (k.Lower (codes "bool")) refl nothing
type_prints (ty.Stream s) = token (k.Lower (codes "stream")) refl nothing
type_prints (ty.Float s) = token (k.Lower (codes "float")) refl nothing
type_prints (ty.Double s) = token (k.Lower (codes "double")) refl nothing
type_prints (ty.Maybe t s) = token (k.Lower (codes "maybe")) refl (type_prints t)
type_prints (ty.ArrayOf t s) = mark m.OpenBracket (both (type_prints t) (mark m.CloseBracket nothing))
type_prints (ty.MapOf t u s) = mark m.OpenBracket (both (type_prints t) (mark m.Arrow (both (type_prints u) (mark m.CloseBracket nothing))))
type_prints (ty.Empty s) = mark m.OpenBrace (mark m.CloseBrace nothing)
type_prints (ty.Named x) = token (upper x) refl nothing
type_prints (ty.Within t s) = mark m.OpenParen (both (type_prints t) (mark m.CloseParen nothing))

pub typed_prints : (t : Option ty.TypeExpr) → Prints (print_typed t)
typed_prints None = nothing
typed_prints (Some t) = mark m.Colon (type_prints t)

pub class_prints : (c : cls.Cls) → Prints (print_class c)
class_prints (cls.Union a b s) = both (class_prints a) (mark m.Bar (class_prints b))
class_prints (cls.One b) = token (byte_token b) (byte_stands b) nothing
class_prints (cls.Range a b s) = token (byte_token a) (byte_stands a) (mark m.DotDot (token (byte_token b) (byte_stands b) nothing))
class_prints (cls.Known x) = token (k.Class x.text) refl nothing
class_prints (cls.Other c s) = mark m.Bang (class_prints c)
class_prints (cls.Grouped c s) = mark m.OpenParen (both (class_prints c) (mark m.CloseParen nothing))
class_prints (cls.Set c s) = mark m.DollarBracket (both (class_prints c) (mark m.CloseBracket nothing))

content_prints : (b : Option Binder) → Prints (print_content b)
content_prints None = nothing
content_prints (Some b) = token (binder_token b) (binder_stands b) nothing

pattern_prints : (p : Pat) → Prints (print_pattern p)
pattern_prints (pat.Any s) = mark m.Underscore nothing
pattern_prints (pat.Num n) = token (number n) refl nothing
pattern_prints (pat.Char b s) = token (k.Char b) refl nothing
pattern_prints (pat.True s) = token (k.Word w.True) refl nothing
pattern_prints (pat.False s) = token (k.Word w.False) refl nothing
pattern_prints (pat.Nothing s) = token (k.Word w.Nothing) refl nothing
pattern_prints (pat.Just b s) = token (k.Word w.Just) refl (token (binder_token b) (binder_stands b) nothing)
pattern_prints (pat.Tag x b s) = name x (content_prints b)

second_prints : (x : Option Name) → Prints (print_second x)
second_prints None = nothing
second_prints (Some x) = mark m.Comma (name x nothing)

names_print : (ns : Names) → Prints (print_names ns)
names_print ns = name ns.first (both (second_prints ns.second) (token (k.Word w.In) refl nothing))

-- ---- expressions

mutual
  pub prints : (e : ex.Expr) → Prints (print e)
  prints (ex.Infix o a b s) = both (prints a) (token (infix_token o) (infix_stands o) (prints b))
  prints (ex.Pure a s) = mark m.Caret (prints a)
  prints (ex.If c a b s) = token (k.Word w.If) refl (both (prints c) (token (k.Word w.Then) refl (both (prints a) (token (k.Word w.Else) refl (prints b)))))
  prints (ex.For x i ns l b s) =
      token (k.Word w.For) refl (mark m.OpenParen (name x (mark m.Equals
      (both (prints i) (mark m.Semicolon (both (names_print ns) (both (prints l) (mark m.CloseParen (prints b)))))))))
  prints (ex.Map ns l b s) = token (k.Word w.Map) refl (mark m.OpenParen (both (names_print ns) (both (prints l) (mark m.CloseParen (prints b)))))
  prints (ex.Is a p s) = both (prints a) (token (k.Word w.Is) refl (token (shape_token p) (shape_stands p) nothing))
  prints (ex.Prefix o a s) = token (prefix_token o) (prefix_stands o) (prints a)
  prints (ex.Cast o a t s) = both (prints a) (token (cast_token o) (cast_stands o) (type_prints t))
  prints (ex.CallGrammar x xs s) = token (upper x) refl (args_print xs)
  prints (ex.CallValue x xs s) = name x (args_print xs)
  prints (ex.Just a s) = token (k.Word w.Just) refl (prints a)
  prints (ex.Many o n a s) = token (many_token o) (many_stands o) (both (bound_prints n) (prints a))
  prints (ex.Optional o a s) = token (optional_token o) (optional_stands o) (prints a)
  prints (ex.Select a x s) = both (prints a) (mark m.Dot (name x nothing))
  prints (ex.Num n) = token (number n) refl nothing
  prints (ex.Char b s) = token (k.Char b) refl nothing
  prints (ex.Text bs s) = token (k.Text bs) refl nothing
  prints (ex.True s) = token (k.Word w.True) refl nothing
  prints (ex.False s) = token (k.Word w.False) refl nothing
  prints (ex.Nothing s) = token (k.Word w.Nothing) refl nothing
  prints (ex.Upper x) = token (upper x) refl nothing
  prints (ex.Lower x) = name x nothing
  prints (ex.Class x) = token (k.Class x.text) refl nothing
  prints (ex.Set c s) = mark m.DollarBracket (both (class_prints c) (mark m.CloseBracket nothing))
  prints (ex.Paren a t s) = mark m.OpenParen (both (prints a) (both (typed_prints t) (mark m.CloseParen nothing)))
  prints (ex.Array xs s) = mark m.OpenBracket (both (exprs_print xs m.Comma) (mark m.CloseBracket nothing))
  prints (ex.RecordOf bs s) = mark m.OpenBrace (both (bindings_print bs m.Comma) (mark m.CloseBrace nothing))
  prints (ex.Tag x s) = mark m.OpenUnion (name x (mark m.CloseUnion nothing))
  prints (ex.TagWith x a s) = mark m.OpenUnion (name x (mark m.Equals (both (prints a) (mark m.CloseUnion nothing))))
  prints (ex.Block is s) = list (k.Word w.Block) (both (items_print is) (mark m.CloseBrace nothing))
  prints (ex.Choice o xs s) = list (choice_token o) (both (alternatives_print xs) (mark m.CloseBrace nothing))
  prints (ex.Case a xs s) = token (k.Word w.Case) refl (both (prints a) (list (k.Word w.Of) (both (alts_print xs) (mark m.CloseBrace nothing))))

  bound_prints : (n : ex.Bound) → Prints (print_bound n)
  bound_prints ex.Free = nothing
  bound_prints (ex.Exactly a) = prints a
  bound_prints (ex.AtLeast a s) = mark m.OpenParen (both (prints a) (mark m.DotDot (mark m.CloseParen nothing)))
  bound_prints (ex.AtMost a s) = mark m.OpenParen (mark m.DotDot (both (prints a) (mark m.CloseParen nothing)))
  bound_prints (ex.Between a b s) = mark m.OpenParen (both (prints a) (mark m.DotDot (both (prints b) (mark m.CloseParen nothing))))

  alternatives_print : (xs : ex.Alternatives) → Prints (print_alternatives xs)
  alternatives_print (ex.WithTags bs) = bindings_print bs m.Semicolon
  alternatives_print (ex.Untagged xs) = exprs_print xs m.Semicolon

  item_prints : (i : ex.Item) → Prints (print_item i)
  item_prints (ex.Result a s) = mark m.DollarDollar (mark m.Equals (prints a))
  item_prints (ex.Let x a s) = token (k.Word w.Let) refl (name x (mark m.Equals (prints a)))
  item_prints (ex.Field x a s) = name x (mark m.Equals (prints a))
  item_prints (ex.Plain a) = prints a

  args_print : (xs : ex.Exprs) → Prints (print_args xs)
  args_print ex.no_exprs = nothing
  args_print (ex.an_expr a xs) = both (prints a) (args_print xs)

  exprs_print : (xs : ex.Exprs) (by : Mark) → Prints (print_exprs xs by)
  exprs_print ex.no_exprs by = nothing
  exprs_print (ex.an_expr a xs) by = both (prints a) (more_exprs_print xs by)

  more_exprs_print : (xs : ex.Exprs) (by : Mark) → Prints (print_more_exprs xs by)
  more_exprs_print ex.no_exprs by = nothing
  more_exprs_print (ex.an_expr a xs) by = mark by (both (prints a) (more_exprs_print xs by))

  bindings_print : (bs : ex.Bindings) (by : Mark) → Prints (print_bindings bs by)
  bindings_print ex.no_bindings by = nothing
  bindings_print (ex.a_binding x a s bs) by = name x (mark m.Equals (both (prints a) (more_bindings_print bs by)))

  more_bindings_print : (bs : ex.Bindings) (by : Mark) → Prints (print_more_bindings bs by)
  more_bindings_print ex.no_bindings by = nothing
  more_bindings_print (ex.a_binding x a s bs) by = mark by (name x (mark m.Equals (both (prints a) (more_bindings_print bs by))))

  items_print : (is : ex.Items) → Prints (print_items is)
  items_print ex.no_items = nothing
  items_print (ex.an_item i is) = both (item_prints i) (more_items_print is)

  more_items_print : (is : ex.Items) → Prints (print_more_items is)
  more_items_print ex.no_items = nothing
  more_items_print (ex.an_item i is) = mark m.Semicolon (both (item_prints i) (more_items_print is))

  alts_print : (xs : ex.Alts) → Prints (print_alts xs)
  alts_print ex.no_alts = nothing
  alts_print (ex.an_alt p a s xs) = both (pattern_prints p) (mark m.Arrow (both (prints a) (more_alts_print xs)))

  more_alts_print : (xs : ex.Alts) → Prints (print_more_alts xs)
  more_alts_print ex.no_alts = nothing
  more_alts_print (ex.an_alt p a s xs) = mark m.Semicolon (both (pattern_prints p) (mark m.Arrow (both (prints a) (more_alts_print xs))))
