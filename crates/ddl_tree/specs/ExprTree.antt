-- Expressions and their parts, as definitions see them: one form for each alternative of the grammar.
use Rattle.std.specs.Prelude.{ℕ, List, Option}
use Rattle.ddl_base.specs.declared.span.Span.{Span}
use Rattle.ddl_tree.specs.declared.name.Name.{Name}
use Rattle.ddl_tree.specs.declared.name.Number.{Number}
use Rattle.ddl_tree.specs.declared.operator.Bias.{Bias}
use Rattle.ddl_tree.specs.declared.operator.CastOp.{CastOp}
use Rattle.ddl_tree.specs.declared.operator.InfixOp.{InfixOp}
use Rattle.ddl_tree.specs.declared.operator.PrefixOp.{PrefixOp}
use Rattle.ddl_tree.specs.declared.pattern.Names.{Names}
use Rattle.ddl_tree.specs.declared.pattern.Pat.{Pat}
use Rattle.ddl_tree.specs.declared.pattern.Shape.{Shape}
use Rattle.ddl_tree.specs.TypeTree.{TypeExpr}
use Rattle.ddl_tree.specs.ClassTree.{Cls}

mutual
  pub data Expr : Type 0 where
    Infix : InfixOp → Expr → Expr → Span → Expr
    Pure : Expr → Span → Expr
    If : Expr → Expr → Expr → Span → Expr
    For : Name → Expr → Names → Expr → Expr → Span → Expr
    Map : Names → Expr → Expr → Span → Expr
    Is : Expr → Shape → Span → Expr
    Prefix : PrefixOp → Expr → Span → Expr
    Cast : CastOp → Expr → TypeExpr → Span → Expr
    CallGrammar : Name → Exprs → Span → Expr
    CallValue : Name → Exprs → Span → Expr
    Just : Expr → Span → Expr
    Many : Bias → Bound → Expr → Span → Expr
    Optional : Bias → Expr → Span → Expr
    Select : Expr → Name → Span → Expr
    Num : Number → Expr
    Char : ℕ → Span → Expr
    Text : List ℕ → Span → Expr
    True : Span → Expr
    False : Span → Expr
    Nothing : Span → Expr
    Upper : Name → Expr
    Lower : Name → Expr
    Class : Name → Expr
    Set : Cls → Span → Expr
    Paren : Expr → Option TypeExpr → Span → Expr
    Array : Exprs → Span → Expr
    RecordOf : Bindings → Span → Expr
    Tag : Name → Span → Expr
    TagWith : Name → Expr → Span → Expr
    Block : Items → Span → Expr
    Choice : Bias → Alternatives → Span → Expr
    Case : Expr → Alts → Span → Expr

  pub data Bound : Type 0 where
    Free : Bound
    Exactly : Expr → Bound
    AtLeast : Expr → Span → Bound
    AtMost : Expr → Span → Bound
    Between : Expr → Expr → Span → Bound

  pub data Alternatives : Type 0 where
    WithTags : Bindings → Alternatives
    Untagged : Exprs → Alternatives

  pub data Item : Type 0 where
    Result : Expr → Span → Item
    Let : Name → Expr → Span → Item
    Field : Name → Expr → Span → Item
    Plain : Expr → Item

  pub data Exprs : Type 0 where
    no_exprs : Exprs
    an_expr : Expr → Exprs → Exprs

  pub data Bindings : Type 0 where
    no_bindings : Bindings
    a_binding : Name → Expr → Span → Bindings → Bindings

  pub data Items : Type 0 where
    no_items : Items
    an_item : Item → Items → Items

  pub data Alts : Type 0 where
    no_alts : Alts
    an_alt : Pat → Expr → Span → Alts → Alts

-- `x = e`
pub record Binding : Type 0 where
  pub name : Name
  pub value : Expr
  pub span : Span

-- `p -> e`
pub record Alt : Type 0 where
  pub pattern : Pat
  pub body : Expr
  pub span : Span

-- where an expression stands
abbrev pub expr_span : Expr → Span
expr_span (Infix o a b s) = s
expr_span (Pure a s) = s
expr_span (If c a b s) = s
expr_span (For x i ns l b s) = s
expr_span (Map ns l b s) = s
expr_span (Is a p s) = s
expr_span (Prefix o a s) = s
expr_span (Cast o a t s) = s
expr_span (CallGrammar x xs s) = s
expr_span (CallValue x xs s) = s
expr_span (Just a s) = s
expr_span (Many o n a s) = s
expr_span (Optional o a s) = s
expr_span (Select a x s) = s
expr_span (Num n) = n.span
expr_span (Char b s) = s
expr_span (Text bs s) = s
expr_span (True s) = s
expr_span (False s) = s
expr_span (Nothing s) = s
expr_span (Upper x) = x.span
expr_span (Lower x) = x.span
expr_span (Class x) = x.span
expr_span (Set c s) = s
expr_span (Paren a t s) = s
expr_span (Array xs s) = s
expr_span (RecordOf bs s) = s
expr_span (Tag x s) = s
expr_span (TagWith x a s) = s
expr_span (Block is s) = s
expr_span (Choice o xs s) = s
expr_span (Case a xs s) = s

-- where a part of a block stands
abbrev pub item_span : Item → Span
item_span (Result a s) = s
item_span (Let x a s) = s
item_span (Field x a s) = s
item_span (Plain a) = expr_span a
