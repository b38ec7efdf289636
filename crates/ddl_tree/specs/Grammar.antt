-- Which expressions the grammar makes. The nonterminals are numbered from the widest to the narrowest:
-- 1 expr, 2 biased, 3 guard, 4 or, 5 and, 6 cmp, 7 bor, 8 bxor, 9 band, 10 shift, 11 cat, 12 sum, 13 prod, 14 un, 15 cast, 16 app, 17 atom, 18 simple.
use Rattle.std.specs.Prelude.{ℕ, ◌+◌, ◌≤◌}
use Rattle.ddl_tree.specs.declared.operator.InfixOp.{InfixOp}
use Rattle.ddl_tree.specs.declared.operator.InfixOp.TheVariants as op
use Rattle.ddl_tree.specs.ClassTree as cls
use Rattle.ddl_tree.specs.ExprTree as ex

-- ---- operators

-- the nonterminal of an expression with this operator
abbrev pub infix_level : InfixOp → ℕ
infix_level op.Either = 1
infix_level op.OrElse = 2
infix_level op.Or = 4
infix_level op.And = 5
infix_level op.Equal = 6
infix_level op.NotEqual = 6
infix_level op.Less = 6
infix_level op.LessEqual = 6
infix_level op.Greater = 6
infix_level op.GreaterEqual = 6
infix_level op.BitOr = 7
infix_level op.BitXor = 8
infix_level op.BitAnd = 9
infix_level op.ShiftLeft = 10
infix_level op.ShiftRight = 10
infix_level op.Append = 11
infix_level op.AppendWithin = 11
infix_level op.Add = 12
infix_level op.Subtract = 12
infix_level op.Multiply = 13
infix_level op.Divide = 13
infix_level op.Remainder = 13

-- the widest nonterminal of its left side: its own where the operator groups to the left
abbrev pub left_level : InfixOp → ℕ
left_level op.Either = 2
left_level op.OrElse = 3
left_level op.Equal = 7
left_level op.NotEqual = 7
left_level op.Less = 7
left_level op.LessEqual = 7
left_level op.Greater = 7
left_level op.GreaterEqual = 7
left_level o = infix_level o

-- the widest nonterminal of its right side: its own where the operator groups to the right
abbrev pub right_level : InfixOp → ℕ
right_level op.Either = 1
right_level op.OrElse = 2
right_level o = infix_level o + 1

-- ---- classes: 1 cls, 2 catom

abbrev pub class_level : cls.Cls → ℕ
class_level (cls.Union a b s) = 1
class_level _ = 2

abbrev pub IsClass : cls.Cls → Type 0
IsClass (cls.Union a b s) = IsClass a × IsClass b × (2 ≤ class_level b)
IsClass (cls.One b) = Unit {0}
IsClass (cls.Range a b s) = Unit {0}
IsClass (cls.Known x) = Unit {0}
IsClass (cls.Other c s) = IsClass c × (2 ≤ class_level c)
IsClass (cls.Grouped c s) = IsClass c
IsClass (cls.Set c s) = IsClass c

-- ---- expressions

-- the narrowest nonterminal that an expression comes from
abbrev pub level : ex.Expr → ℕ
level (ex.Infix o a b s) = infix_level o
level (ex.Pure a s) = 3
level (ex.If c a b s) = 3
level (ex.For x i ns l b s) = 3
level (ex.Map ns l b s) = 3
level (ex.Is a p s) = 3
level (ex.Prefix o a s) = 14
level (ex.Cast o a t s) = 15
level (ex.CallGrammar x xs s) = 16
level (ex.CallValue x xs s) = 16
level (ex.Just a s) = 16
level (ex.Many o n a s) = 16
level (ex.Optional o a s) = 16
level (ex.Select a x s) = 17
level _ = 18

abbrev pub SomeExprs : ex.Exprs → Type 0
SomeExprs ex.no_exprs = ⊥
SomeExprs (ex.an_expr a xs) = Unit {0}

abbrev pub SomeBindings : ex.Bindings → Type 0
SomeBindings ex.no_bindings = ⊥
SomeBindings (ex.a_binding x a s bs) = Unit {0}

abbrev pub SomeItems : ex.Items → Type 0
SomeItems ex.no_items = ⊥
SomeItems (ex.an_item i is) = Unit {0}

abbrev pub SomeAlts : ex.Alts → Type 0
SomeAlts ex.no_alts = ⊥
SomeAlts (ex.an_alt p a s xs) = Unit {0}

-- each part comes from the nonterminal that stands at its place in the production
abbrev mutual
  pub IsExpr : ex.Expr → Type 0
  IsExpr (ex.Infix o a b s) = IsExpr a × IsExpr b × (left_level o ≤ level a) × (right_level o ≤ level b)
  IsExpr (ex.Pure a s) = IsExpr a × (4 ≤ level a)
  IsExpr (ex.If c a b s) = IsExpr c × IsExpr a × IsExpr b × (3 ≤ level b)
  IsExpr (ex.For x i ns l b s) = IsExpr i × IsExpr l × IsExpr b × (3 ≤ level b)
  IsExpr (ex.Map ns l b s) = IsExpr l × IsExpr b × (3 ≤ level b)
  IsExpr (ex.Is a p s) = IsExpr a × (4 ≤ level a)
  IsExpr (ex.Prefix o a s) = IsExpr a × (14 ≤ level a)
  IsExpr (ex.Cast o a t s) = IsExpr a × (15 ≤ level a)
  IsExpr (ex.CallGrammar x xs s) = SomeExprs xs × AreAtoms xs
  IsExpr (ex.CallValue x xs s) = SomeExprs xs × AreAtoms xs
  IsExpr (ex.Just a s) = IsExpr a × (17 ≤ level a)
  IsExpr (ex.Many o n a s) = IsBound n × IsExpr a × (17 ≤ level a)
  IsExpr (ex.Optional o a s) = IsExpr a × (17 ≤ level a)
  IsExpr (ex.Select a x s) = IsExpr a × (17 ≤ level a)
  IsExpr (ex.Set c s) = IsClass c
  IsExpr (ex.Paren a t s) = IsExpr a
  IsExpr (ex.Array xs s) = AreExprs xs
  IsExpr (ex.RecordOf bs s) = AreBindings bs
  IsExpr (ex.TagWith x a s) = IsExpr a
  IsExpr (ex.Block is s) = SomeItems is × AreItems is
  IsExpr (ex.Choice o xs s) = AreAlternatives xs
  IsExpr (ex.Case a xs s) = IsExpr a × SomeAlts xs × AreAlts xs
  IsExpr _ = Unit {0}

  pub IsBound : ex.Bound → Type 0
  IsBound ex.Free = Unit {0}
  IsBound (ex.Exactly a) = IsExpr a × (17 ≤ level a)
  IsBound (ex.AtLeast a s) = IsExpr a
  IsBound (ex.AtMost a s) = IsExpr a
  IsBound (ex.Between a b s) = IsExpr a × IsExpr b

  pub AreAlternatives : ex.Alternatives → Type 0
  AreAlternatives (ex.WithTags bs) = SomeBindings bs × AreBindings bs
  AreAlternatives (ex.Untagged xs) = SomeExprs xs × AreExprs xs

  pub IsItem : ex.Item → Type 0
  IsItem (ex.Result a s) = IsExpr a
  IsItem (ex.Let x a s) = IsExpr a
  IsItem (ex.Field x a s) = IsExpr a
  IsItem (ex.Plain a) = IsExpr a

  pub AreAtoms : ex.Exprs → Type 0
  AreAtoms ex.no_exprs = Unit {0}
  AreAtoms (ex.an_expr a xs) = IsExpr a × (17 ≤ level a) × AreAtoms xs

  pub AreExprs : ex.Exprs → Type 0
  AreExprs ex.no_exprs = Unit {0}
  AreExprs (ex.an_expr a xs) = IsExpr a × AreExprs xs

  pub AreBindings : ex.Bindings → Type 0
  AreBindings ex.no_bindings = Unit {0}
  AreBindings (ex.a_binding x a s bs) = IsExpr a × AreBindings bs

  pub AreItems : ex.Items → Type 0
  AreItems ex.no_items = Unit {0}
  AreItems (ex.an_item i is) = IsItem i × AreItems is

  pub AreAlts : ex.Alts → Type 0
  AreAlts ex.no_alts = Unit {0}
  AreAlts (ex.an_alt p a s xs) = IsExpr a × AreAlts xs
