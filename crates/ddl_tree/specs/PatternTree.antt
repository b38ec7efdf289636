-- Where patterns and their parts stand. They hold no other forms, so definitions see them as the code does.
use Rattle.ddl_base.specs.declared.span.Span.{Span}
use Rattle.ddl_tree.specs.declared.pattern.Pat.{Pat}
use Rattle.ddl_tree.specs.declared.pattern.Pat.TheVariants.{Any, Num, Char, True, False, Nothing, Just, Tag}
use Rattle.ddl_tree.specs.declared.pattern.Binder.{Binder}
use Rattle.ddl_tree.specs.declared.pattern.Binder.TheVariants.{Called, Ignored}
use Rattle.ddl_tree.specs.declared.pattern.Shape.{Shape}
use Rattle.ddl_tree.specs.declared.pattern.Shape.TheVariants.{IsTag, IsTrue, IsFalse, IsJust, IsNothing}

abbrev pub pattern_span : Pat → Span
pattern_span (Any s) = s
pattern_span (Num n) = n.span
pattern_span (Char b s) = s
pattern_span (True s) = s
pattern_span (False s) = s
pattern_span (Nothing s) = s
pattern_span (Just b s) = s
pattern_span (Tag x b s) = s

abbrev pub binder_span : Binder → Span
binder_span (Called x) = x.span
binder_span (Ignored s) = s

abbrev pub shape_span : Shape → Span
shape_span (IsTag x) = x.span
shape_span (IsTrue s) = s
shape_span (IsFalse s) = s
shape_span (IsJust s) = s
shape_span (IsNothing s) = s
