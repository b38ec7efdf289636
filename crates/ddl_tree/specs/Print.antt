-- The tokens of each form, by the productions of the grammar. Each function prints its form, and then the rest.
use Rattle.std.specs.Prelude.{List, ◌∷◌, Option, Some, None, codes}
use Rattle.ddl_token.specs.declared.token.Tok.{Tok}
use Rattle.ddl_token.specs.declared.token.Tok.TheVariants as k
use Rattle.ddl_token.specs.declared.word.Word.TheVariants as w
use Rattle.ddl_token.specs.declared.mark.Mark.{Mark}
use Rattle.ddl_token.specs.declared.mark.Mark.TheVariants as m
use Rattle.ddl_tree.specs.declared.name.Name.{Name}
use Rattle.ddl_tree.specs.declared.name.Number.{Number}
use Rattle.ddl_tree.specs.declared.name.ByteLit.{ByteLit}
use Rattle.ddl_tree.specs.declared.name.ByteLit.TheVariants.{Code, Quoted}
use Rattle.ddl_tree.specs.declared.operator.Bias.{Bias}
use Rattle.ddl_tree.specs.declared.operator.Bias.TheVariants.{Biased, Unbiased}
use Rattle.ddl_tree.specs.declared.operator.CastOp.{CastOp}
use Rattle.ddl_tree.specs.declared.operator.CastOp.TheVariants as cast
use Rattle.ddl_tree.specs.declared.operator.InfixOp.{InfixOp}
use Rattle.ddl_tree.specs.declared.operator.InfixOp.TheVariants as op
use Rattle.ddl_tree.specs.declared.operator.PrefixOp.{PrefixOp}
use Rattle.ddl_tree.specs.declared.operator.PrefixOp.TheVariants as pre
use Rattle.ddl_tree.specs.declared.pattern.Names.{Names}
use Rattle.ddl_tree.specs.declared.pattern.Pat.{Pat}
use Rattle.ddl_tree.specs.declared.pattern.Pat.TheVariants as pat
use Rattle.ddl_tree.specs.declared.pattern.Binder.{Binder}
use Rattle.ddl_tree.specs.declared.pattern.Binder.TheVariants.{Called, Ignored}
use Rattle.ddl_tree.specs.declared.pattern.Shape.{Shape}
use Rattle.ddl_tree.specs.declared.pattern.Shape.TheVariants.{IsTag, IsTrue, IsFalse, IsJust, IsNothing}
use Rattle.ddl_tree.specs.TypeTree as ty
use Rattle.ddl_tree.specs.ClassTree as cls
use Rattle.ddl_tree.specs.ExprTree as ex

-- ---- tokens

abbrev pub upper : Name → Tok
upper x = k.Upper x.text

abbrev pub lower : Name → Tok
lower x = k.Lower x.text

abbrev pub number : Number → Tok
number n = k.Number n.value n.base n.digits

abbrev pub infix_token : InfixOp → Tok
infix_token op.Either = k.Mark m.Bar
infix_token op.OrElse = k.Mark m.OrElse
infix_token op.Or = k.Mark m.OrOr
infix_token op.And = k.Mark m.AndAnd
infix_token op.Equal = k.Mark m.EqualEqual
infix_token op.NotEqual = k.Mark m.NotEqual
infix_token op.Less = k.Mark m.Less
infix_token op.LessEqual = k.Mark m.LessEqual
infix_token op.Greater = k.Mark m.Greater
infix_token op.GreaterEqual = k.Mark m.GreaterEqual
infix_token op.BitOr = k.Mark m.BitOr
infix_token op.BitXor = k.Mark m.BitXor
infix_token op.BitAnd = k.Mark m.BitAnd
infix_token op.ShiftLeft = k.Mark m.ShiftLeft
infix_token op.ShiftRight = k.Mark m.ShiftRight
infix_token op.Append = k.Mark m.Hash
infix_token op.AppendWithin = k.Mark m.LessHash
infix_token op.Add = k.Mark m.Plus
infix_token op.Subtract = k.Mark m.Minus
infix_token op.Multiply = k.Mark m.Star
infix_token op.Divide = k.Mark m.Slash
infix_token op.Remainder = k.Mark m.Percent

abbrev pub prefix_token : PrefixOp → Tok
prefix_token pre.Negate = k.Mark m.Minus
prefix_token pre.Not = k.Mark m.Bang
prefix_token pre.Complement = k.Mark m.Tilde

abbrev pub cast_token : CastOp → Tok
cast_token cast.Lossless = k.Word w.As
cast_token cast.Cut = k.Word w.AsCut
cast_token cast.Fit = k.Word w.AsFit

abbrev pub many_token : Bias → Tok
many_token Biased = k.Word w.Many
many_token Unbiased = k.Word w.ManyAll

abbrev pub optional_token : Bias → Tok
optional_token Biased = k.Word w.Optional
optional_token Unbiased = k.Word w.OptionalAll

abbrev pub choice_token : Bias → Tok
choice_token Biased = k.Word w.First
choice_token Unbiased = k.Word w.Choose

abbrev pub shape_token : Shape → Tok
shape_token (IsTag x) = lower x
shape_token (IsTrue s) = k.Word w.True
shape_token (IsFalse s) = k.Word w.False
shape_token (IsJust s) = k.Word w.Just
shape_token (IsNothing s) = k.Word w.Nothing

abbrev pub binder_token : Binder → Tok
binder_token (Called x) = lower x
binder_token (Ignored s) = k.Mark m.Underscore

abbrev pub byte_token : ByteLit → Tok
byte_token (Code n) = number n
byte_token (Quoted b s) = k.Char b

-- ---- types, classes, patterns

abbrev pub print_type : ty.TypeExpr → List Tok → List Tok
print_type (ty.Int s) r = k.Lower (codes "int") ∷ r
print_type (ty.Uint n s) r = k.Lower (codes "uint") ∷ number n ∷ r
print_type (ty.Sint n s) r = k.Lower (codes "sint") ∷ number n ∷ r
print_type (ty.Bool s) r = k.Lower (codes "bool") ∷ r
print_type (ty.Stream s) r = k.Lower (codes "stream") ∷ r
print_type (ty.Float s) r = k.Lower (codes "float") ∷ r
print_type (ty.Double s) r = k.Lower (codes "double") ∷ r
print_type (ty.Maybe t s) r = k.Lower (codes "maybe") ∷ print_type t r
print_type (ty.ArrayOf t s) r = k.Mark m.OpenBracket ∷ print_type t (k.Mark m.CloseBracket ∷ r)
print_type (ty.MapOf t u s) r = k.Mark m.OpenBracket ∷ print_type t (k.Mark m.Arrow ∷ print_type u (k.Mark m.CloseBracket ∷ r))
print_type (ty.Empty s) r = k.Mark m.OpenBrace ∷ k.Mark m.CloseBrace ∷ r
print_type (ty.Named x) r = upper x ∷ r
print_type (ty.Within t s) r = k.Mark m.OpenParen ∷ print_type t (k.Mark m.CloseParen ∷ r)

-- `: t`, where a type is written
abbrev pub print_typed : Option ty.TypeExpr → List Tok → List Tok
print_typed None r = r
print_typed (Some t) r = k.Mark m.Colon ∷ print_type t r

abbrev pub print_class : cls.Cls → List Tok → List Tok
print_class (cls.Union a b s) r = print_class a (k.Mark m.Bar ∷ print_class b r)
print_class (cls.One b) r = byte_token b ∷ r
print_class (cls.Range a b s) r = byte_token a ∷ k.Mark m.DotDot ∷ byte_token b ∷ r
print_class (cls.Known x) r = k.Class x.text ∷ r
print_class (cls.Other c s) r = k.Mark m.Bang ∷ print_class c r
print_class (cls.Grouped c s) r = k.Mark m.OpenParen ∷ print_class c (k.Mark m.CloseParen ∷ r)
print_class (cls.Set c s) r = k.Mark m.DollarBracket ∷ print_class c (k.Mark m.CloseBracket ∷ r)

abbrev pub print_content : Option Binder → List Tok → List Tok
print_content None r = r
print_content (Some b) r = binder_token b ∷ r

abbrev pub print_pattern : Pat → List Tok → List Tok
print_pattern (pat.Any s) r = k.Mark m.Underscore ∷ r
print_pattern (pat.Num n) r = number n ∷ r
print_pattern (pat.Char b s) r = k.Char b ∷ r
print_pattern (pat.True s) r = k.Word w.True ∷ r
print_pattern (pat.False s) r = k.Word w.False ∷ r
print_pattern (pat.Nothing s) r = k.Word w.Nothing ∷ r
print_pattern (pat.Just b s) r = k.Word w.Just ∷ binder_token b ∷ r
print_pattern (pat.Tag x b s) r = lower x ∷ print_content b r

abbrev pub print_second : Option Name → List Tok → List Tok
print_second None r = r
print_second (Some x) r = k.Mark m.Comma ∷ lower x ∷ r

-- `x in` or `i, x in`
abbrev pub print_names : Names → List Tok → List Tok
print_names ns r = lower ns.first ∷ print_second ns.second (k.Word w.In ∷ r)

-- ---- expressions

abbrev mutual
  pub print : ex.Expr → List Tok → List Tok
  print (ex.Infix o a b s) r = print a (infix_token o ∷ print b r)
  print (ex.Pure a s) r = k.Mark m.Caret ∷ print a r
  print (ex.If c a b s) r = k.Word w.If ∷ print c (k.Word w.Then ∷ print a (k.Word w.Else ∷ print b r))
  print (ex.For x i ns l b s) r = k.Word w.For ∷ k.Mark m.OpenParen ∷ lower x ∷ k.Mark m.Equals
      ∷ print i (k.Mark m.Semicolon ∷ print_names ns (print l (k.Mark m.CloseParen ∷ print b r)))
  print (ex.Map ns l b s) r = k.Word w.Map ∷ k.Mark m.OpenParen ∷ print_names ns (print l (k.Mark m.CloseParen ∷ print b r))
  print (ex.Is a p s) r = print a (k.Word w.Is ∷ shape_token p ∷ r)
  print (ex.Prefix o a s) r = prefix_token o ∷ print a r
  print (ex.Cast o a t s) r = print a (cast_token o ∷ print_type t r)
  print (ex.CallGrammar x xs s) r = upper x ∷ print_args xs r
  print (ex.CallValue x xs s) r = lower x ∷ print_args xs r
  print (ex.Just a s) r = k.Word w.Just ∷ print a r
  print (ex.Many o n a s) r = many_token o ∷ print_bound n (print a r)
  print (ex.Optional o a s) r = optional_token o ∷ print a r
  print (ex.Select a x s) r = print a (k.Mark m.Dot ∷ lower x ∷ r)
  print (ex.Num n) r = number n ∷ r
  print (ex.Char b s) r = k.Char b ∷ r
  print (ex.Text bs s) r = k.Text bs ∷ r
  print (ex.True s) r = k.Word w.True ∷ r
  print (ex.False s) r = k.Word w.False ∷ r
  print (ex.Nothing s) r = k.Word w.Nothing ∷ r
  print (ex.Upper x) r = upper x ∷ r
  print (ex.Lower x) r = lower x ∷ r
  print (ex.Class x) r = k.Class x.text ∷ r
  print (ex.Set c s) r = k.Mark m.DollarBracket ∷ print_class c (k.Mark m.CloseBracket ∷ r)
  print (ex.Paren a t s) r = k.Mark m.OpenParen ∷ print a (print_typed t (k.Mark m.CloseParen ∷ r))
  print (ex.Array xs s) r = k.Mark m.OpenBracket ∷ print_exprs xs m.Comma (k.Mark m.CloseBracket ∷ r)
  print (ex.RecordOf bs s) r = k.Mark m.OpenBrace ∷ print_bindings bs m.Comma (k.Mark m.CloseBrace ∷ r)
  print (ex.Tag x s) r = k.Mark m.OpenUnion ∷ lower x ∷ k.Mark m.CloseUnion ∷ r
  print (ex.TagWith x a s) r = k.Mark m.OpenUnion ∷ lower x ∷ k.Mark m.Equals ∷ print a (k.Mark m.CloseUnion ∷ r)
  print (ex.Block is s) r = k.Word w.Block ∷ k.Mark m.OpenBrace ∷ print_items is (k.Mark m.CloseBrace ∷ r)
  print (ex.Choice o xs s) r = choice_token o ∷ k.Mark m.OpenBrace ∷ print_alternatives xs (k.Mark m.CloseBrace ∷ r)
  print (ex.Case a xs s) r = k.Word w.Case ∷ print a (k.Word w.Of ∷ k.Mark m.OpenBrace ∷ print_alts xs (k.Mark m.CloseBrace ∷ r))

  pub print_bound : ex.Bound → List Tok → List Tok
  print_bound ex.Free r = r
  print_bound (ex.Exactly a) r = print a r
  print_bound (ex.AtLeast a s) r = k.Mark m.OpenParen ∷ print a (k.Mark m.DotDot ∷ k.Mark m.CloseParen ∷ r)
  print_bound (ex.AtMost a s) r = k.Mark m.OpenParen ∷ k.Mark m.DotDot ∷ print a (k.Mark m.CloseParen ∷ r)
  print_bound (ex.Between a b s) r = k.Mark m.OpenParen ∷ print a (k.Mark m.DotDot ∷ print b (k.Mark m.CloseParen ∷ r))

  pub print_alternatives : ex.Alternatives → List Tok → List Tok
  print_alternatives (ex.WithTags bs) r = print_bindings bs m.Semicolon r
  print_alternatives (ex.Untagged xs) r = print_exprs xs m.Semicolon r

  pub print_item : ex.Item → List Tok → List Tok
  print_item (ex.Result a s) r = k.Mark m.DollarDollar ∷ k.Mark m.Equals ∷ print a r
  print_item (ex.Let x a s) r = k.Word w.Let ∷ lower x ∷ k.Mark m.Equals ∷ print a r
  print_item (ex.Field x a s) r = lower x ∷ k.Mark m.Equals ∷ print a r
  print_item (ex.Plain a) r = print a r

  -- one after another
  pub print_args : ex.Exprs → List Tok → List Tok
  print_args ex.no_exprs r = r
  print_args (ex.an_expr a xs) r = print a (print_args xs r)

  -- parted by a mark
  pub print_exprs : ex.Exprs → Mark → List Tok → List Tok
  print_exprs ex.no_exprs by r = r
  print_exprs (ex.an_expr a xs) by r = print a (print_more_exprs xs by r)

  pub print_more_exprs : ex.Exprs → Mark → List Tok → List Tok
  print_more_exprs ex.no_exprs by r = r
  print_more_exprs (ex.an_expr a xs) by r = k.Mark by ∷ print a (print_more_exprs xs by r)

  pub print_bindings : ex.Bindings → Mark → List Tok → List Tok
  print_bindings ex.no_bindings by r = r
  print_bindings (ex.a_binding x a s bs) by r = lower x ∷ k.Mark m.Equals ∷ print a (print_more_bindings bs by r)

  pub print_more_bindings : ex.Bindings → Mark → List Tok → List Tok
  print_more_bindings ex.no_bindings by r = r
  print_more_bindings (ex.a_binding x a s bs) by r = k.Mark by ∷ lower x ∷ k.Mark m.Equals ∷ print a (print_more_bindings bs by r)

  pub print_items : ex.Items → List Tok → List Tok
  print_items ex.no_items r = r
  print_items (ex.an_item i is) r = print_item i (print_more_items is r)

  pub print_more_items : ex.Items → List Tok → List Tok
  print_more_items ex.no_items r = r
  print_more_items (ex.an_item i is) r = k.Mark m.Semicolon ∷ print_item i (print_more_items is r)

  pub print_alts : ex.Alts → List Tok → List Tok
  print_alts ex.no_alts r = r
  print_alts (ex.an_alt p a s xs) r = print_pattern p (k.Mark m.Arrow ∷ print a (print_more_alts xs r))

  pub print_more_alts : ex.Alts → List Tok → List Tok
  print_more_alts ex.no_alts r = r
  print_more_alts (ex.an_alt p a s xs) r = k.Mark m.Semicolon ∷ print_pattern p (k.Mark m.Arrow ∷ print a (print_more_alts xs r))
