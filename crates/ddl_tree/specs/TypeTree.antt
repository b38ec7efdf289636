-- Written types, as definitions see them: one form for each alternative of the grammar.
use Rattle.ddl_base.specs.declared.span.Span.{Span}
use Rattle.ddl_tree.specs.declared.name.Name.{Name}
use Rattle.ddl_tree.specs.declared.name.Number.{Number}

pub data TypeExpr : Type 0 where
  Int : Span → TypeExpr
  Uint : Number → Span → TypeExpr
  Sint : Number → Span → TypeExpr
  Bool : Span → TypeExpr
  Stream : Span → TypeExpr
  Float : Span → TypeExpr
  Double : Span → TypeExpr
  Maybe : TypeExpr → Span → TypeExpr
  ArrayOf : TypeExpr → Span → TypeExpr
  MapOf : TypeExpr → TypeExpr → Span → TypeExpr
  Empty : Span → TypeExpr
  Named : Name → TypeExpr
  Within : TypeExpr → Span → TypeExpr

-- where a type stands
abbrev pub type_span : TypeExpr → Span
type_span (Int s) = s
type_span (Uint n s) = s
type_span (Sint n s) = s
type_span (Bool s) = s
type_span (Stream s) = s
type_span (Float s) = s
type_span (Double s) = s
type_span (Maybe t s) = s
type_span (ArrayOf t s) = s
type_span (MapOf t u s) = s
type_span (Empty s) = s
type_span (Named n) = n.span
type_span (Within t s) = s
