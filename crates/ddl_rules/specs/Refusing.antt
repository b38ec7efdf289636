-- Written types that are none.
use Rattle.std.specs.Prelude.{ℕ, ◌&&◌, nat_le, if◌then◌else◌, Option, Some, None}
use Rattle.ddl_base.specs.declared.span.Span.{Span}
use Rattle.ddl_tree.specs.TypeTree as y
use Rattle.ddl_rules.specs.declared.refusing.TypeRefusal.{TypeRefusal}
use Rattle.ddl_rules.specs.declared.refusing.TypeRefusal.TheVariants.{WidthRange, FloatOut}

abbrev pub first_of : Option TypeRefusal → Option TypeRefusal → Option TypeRefusal
first_of (Some r) later = Some r
first_of None later = later

-- widths are 1 to 128
abbrev pub width_refusal : Span → ℕ → Option TypeRefusal
width_refusal s n = if nat_le 1 n && nat_le n 128 then None else Some (WidthRange s n)

-- the first refusal in a written type, in text order: a width that is none, and `float` or `double`
abbrev pub type_refusal : y.TypeExpr → Option TypeRefusal
type_refusal (y.Uint n s) = width_refusal s n.value
type_refusal (y.Sint n s) = width_refusal s n.value
type_refusal (y.Float s) = Some (FloatOut s)
type_refusal (y.Double s) = Some (FloatOut s)
type_refusal (y.Maybe t s) = type_refusal t
type_refusal (y.ArrayOf t s) = type_refusal t
type_refusal (y.MapOf t u s) = first_of (type_refusal t) (type_refusal u)
type_refusal (y.Within t s) = type_refusal t
type_refusal (y.Int s) = None
type_refusal (y.Bool s) = None
type_refusal (y.Stream s) = None
type_refusal (y.Empty s) = None
type_refusal (y.Named x) = None
