-- Forms that are one operation.
use Rattle.std.specs.Prelude.{ℕ, List}
use Rattle.ddl_base.specs.declared.span.Span.{Span}
use Rattle.ddl_core.specs.Core.{Operation, Form, perform}

-- a form that is one operation, or another one
pub data Lone : Type 0 where
  lone : Operation → List ℕ → Span → Lone
  several : Lone

abbrev pub lone_of : Form → Lone
lone_of (perform op xs span) = lone op xs span
lone_of g = several
