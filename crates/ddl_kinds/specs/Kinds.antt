-- Kinds: what a place wants, and which forms it takes.
use Rattle.std.specs.Prelude.{List, [], ◌∷◌, Option, Some, None, Bool, true, false}
use Rattle.ddl_tree.specs.declared.kind.Kind.{Kind}
use Rattle.ddl_tree.specs.declared.kind.Kind.TheVariants as k
use Rattle.ddl_tree.specs.declared.operator.InfixOp.{InfixOp}
use Rattle.ddl_tree.specs.declared.operator.InfixOp.TheVariants as op
use Rattle.ddl_tree.specs.declared.operator.CastOp.{CastOp}
use Rattle.ddl_tree.specs.declared.operator.CastOp.TheVariants as cast
use Rattle.ddl_kinds.specs.declared.want.Want.{Want}
use Rattle.ddl_kinds.specs.declared.want.Want.TheVariants as w
use Rattle.ddl_kinds.specs.declared.want.Form.{Form}
use Rattle.ddl_kinds.specs.declared.want.Form.TheVariants as f
use Rattle.ddl_tree.specs.TypeTree as ty
use Rattle.ddl_tree.specs.ExprTree as ex

-- which forms a place takes: parentheses hand on what is wanted, but `Fail` wants the bare literal
abbrev pub takes : Want → Form → Bool
takes w.Text f.Text = true
takes w.Text x = false
takes w.Class f.Class = true
takes w.Class f.Group = true
takes w.Class x = false
takes w.Free f.Bits = false
takes w.Free x = true
takes w.Grammar f.Value = false
takes w.Grammar f.Bits = false
takes w.Grammar x = true
takes w.Value f.Grammar = false
takes w.Value f.Class = false
takes w.Value f.Bits = false
takes w.Value x = true

-- what a name of a kind is as a form
abbrev pub form_of_kind : Kind → Form
form_of_kind k.Grammar = f.Grammar
form_of_kind k.Value = f.Value
form_of_kind k.Class = f.Class
form_of_kind k.Bits = f.Bits

-- `|` and `<|` join grammars, every other operator values
abbrev pub sides : InfixOp → Want
sides op.Either = w.Grammar
sides op.OrElse = w.Grammar
sides o = w.Value

abbrev pub form_of_infix : InfixOp → Form
form_of_infix op.Either = f.Grammar
form_of_infix op.OrElse = f.Grammar
form_of_infix o = f.Value

-- `as?` may fail, so it is a grammar
abbrev pub form_of_cast : CastOp → Form
form_of_cast cast.Fit = f.Grammar
form_of_cast c = f.Value

abbrev pub cast_want : CastOp → Want
cast_want cast.Fit = w.Grammar
cast_want c = w.Value

-- what stands in a free place, by how it is written: of a form with branches the first one tells it, of a loop its body
abbrev mutual
  pub free_want : ex.Expr → Want
  free_want (ex.Infix o a b s) = sides o
  free_want (ex.Pure a s) = w.Grammar
  free_want (ex.If c a b s) = free_want a
  free_want (ex.For x i ns l b s) = free_want b
  free_want (ex.Map ns l b s) = free_want b
  free_want (ex.Is a p s) = w.Grammar
  free_want (ex.Cast o a t s) = cast_want o
  free_want (ex.CallGrammar x xs s) = w.Grammar
  free_want (ex.Many o n a s) = w.Grammar
  free_want (ex.Optional o a s) = w.Grammar
  free_want (ex.Text bs s) = w.Grammar
  free_want (ex.Upper x) = w.Grammar
  free_want (ex.Class x) = w.Grammar
  free_want (ex.Set c s) = w.Grammar
  free_want (ex.Paren a t s) = free_want a
  free_want (ex.Block is s) = w.Grammar
  free_want (ex.Choice o xs s) = w.Grammar
  free_want (ex.Case a xs s) = first_want xs
  free_want e = w.Value

  pub first_want : ex.Alts → Want
  first_want ex.no_alts = w.Free
  first_want (ex.an_alt p b s xs) = free_want b

-- what the branches of a form have to be: what is wanted of it, and in a free place what the first one is
abbrev pub settled : Want → Want → Want
settled w.Free first = first
settled want first = want

-- with a written type parentheses hold a grammar or a value
abbrev pub form_of_parens : Option ty.TypeExpr → Form
form_of_parens None = f.Group
form_of_parens (Some t) = f.Either

-- what the next argument has to be; one too many was refused before
abbrev pub next_want : List Want → Want
next_want [] = w.Free
next_want (want ∷ ws) = want
