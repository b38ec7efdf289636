-- Classes of bytes, as definitions see them: one form for each alternative of the grammar.
use Rattle.ddl_base.specs.declared.span.Span.{Span}
use Rattle.ddl_tree.specs.declared.name.Name.{Name}
use Rattle.ddl_tree.specs.declared.name.ByteLit.{ByteLit}
use Rattle.ddl_tree.specs.declared.name.ByteLit.TheVariants.{Code, Quoted}

pub data Cls : Type 0 where
  Union : Cls → Cls → Span → Cls
  One : ByteLit → Cls
  Range : ByteLit → ByteLit → Span → Cls
  Known : Name → Cls
  Other : Cls → Span → Cls
  Grouped : Cls → Span → Cls
  Set : Cls → Span → Cls

-- where a byte of a class stands
abbrev pub byte_span : ByteLit → Span
byte_span (Code n) = n.span
byte_span (Quoted b s) = s

-- where a class stands
abbrev pub class_span : Cls → Span
class_span (Union a b s) = s
class_span (One b) = byte_span b
class_span (Range a b s) = s
class_span (Known n) = n.span
class_span (Other c s) = s
class_span (Grouped c s) = s
class_span (Set c s) = s
