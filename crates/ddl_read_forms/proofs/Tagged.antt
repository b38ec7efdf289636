-- A tag, alone or with a value, as it is seen.
use Rattle.std.proofs.Common.{◌≡◌, Some, None, rules}
use Rattle.std.specs.Global.{Box}
use Rattle.ddl_base.specs.declared.span.Span.{Span}
use Rattle.ddl_tree.specs.declared.name.Name.{Name}
use Rattle.ddl_tree.specs.declared.expr.Expr.{Expr}
use Rattle.ddl_tree.specs.declared.expr.Expr.TheVariants as expr
use Rattle.ddl_tree.specs.ExprTree as ex
use Rattle.ddl_tree.specs.View.{view}
use Rattle.ddl_tree.proofs.Layers.{layers}

pub tag_alone : (x : Name) (s : Span) → view (expr.Tagged x None s) ≡ ex.Tag x s
tag_alone x s = search (rules, layers)

pub tag_with : (x : Name) (a : Box Expr) (s : Span) → view (expr.Tagged x (Some a) s) ≡ ex.TagWith x (view a.value) s
tag_with x a s = search (rules, layers)

pub ruleset tagged = (tag_alone, tag_with)
