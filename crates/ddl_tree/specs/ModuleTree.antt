-- Modules and declarations, as definitions see them: one form for each alternative of the grammar.
use Rattle.std.specs.Prelude.{List, Option}
use Rattle.ddl_base.specs.declared.span.Span.{Span}
use Rattle.ddl_tree.specs.declared.name.Name.{Name}
use Rattle.ddl_tree.specs.declared.name.Number.{Number}
use Rattle.ddl_tree.specs.declared.module.Import.{Import}
use Rattle.ddl_tree.specs.TypeTree.{TypeExpr}
use Rattle.ddl_tree.specs.ClassTree.{Cls}
use Rattle.ddl_tree.specs.ExprTree.{Expr}

pub data Param : Type 0 where
  Upper : Name → Param
  Lower : Name → Param
  Class : Name → Param
  TypedUpper : Name → TypeExpr → Span → Param
  TypedLower : Name → TypeExpr → Span → Param

pub data Part : Type 0 where
  Fixed : Number → Part
  Named : Name → TypeExpr → Span → Part
  Unnamed : TypeExpr → Span → Part

pub data Bits : Type 0 where
  Exactly : Number → Bits
  Parts : List Part → Span → Bits

-- `x = bits`
pub record Con : Type 0 where
  pub name : Name
  pub bits : Bits
  pub span : Span

pub data Decl : Type 0 where
  Grammar : Name → List Param → Option TypeExpr → Expr → Span → Decl
  Value : Name → List Param → Option TypeExpr → Expr → Span → Decl
  ClassDef : Name → Cls → Span → Decl
  BitsDef : Name → Bits → Span → Decl
  BitsUnion : Name → List Con → Span → Decl

pub record Module : Type 0 where
  pub imports : List Import
  pub decls : List Decl

-- where a parameter stands
abbrev pub param_span : Param → Span
param_span (Upper x) = x.span
param_span (Lower x) = x.span
param_span (Class x) = x.span
param_span (TypedUpper x t s) = s
param_span (TypedLower x t s) = s

-- where a part of a layout stands
abbrev pub part_span : Part → Span
part_span (Fixed n) = n.span
part_span (Named x t s) = s
part_span (Unnamed t s) = s

-- where a layout stands
abbrev pub bits_span : Bits → Span
bits_span (Exactly n) = n.span
bits_span (Parts ps s) = s

-- where a declaration stands
abbrev pub decl_span : Decl → Span
decl_span (Grammar x ps t e s) = s
decl_span (Value x ps t e s) = s
decl_span (ClassDef x c s) = s
decl_span (BitsDef x b s) = s
decl_span (BitsUnion x cs s) = s
