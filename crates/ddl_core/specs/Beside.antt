-- What a program in the core language has beside its meaning.
use Rattle.std.specs.Prelude.{ℕ, List, Option}
use Rattle.ddl_base.specs.declared.span.Span.{Span}
use Rattle.ddl_core.specs.Places.{DeclName, PlaceShape}

-- the modules' names, the texts of `Fail`, the name of each function's declaration, records and unions and then bitdata under
-- their numbers, and where the name of what is run stands
pub record Beside : Type 0 where
  pub units : List (List ℕ)
  pub texts : List (List ℕ)
  pub decls : List DeclName
  pub places : List PlaceShape
  pub entry_name : Option Span
