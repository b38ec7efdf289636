-- The types of what stands in variables.
use Rattle.std.specs.Prelude.{ℕ, zero, suc, List, [], ◌∷◌, if◌then◌else◌, bytes_eq}
use Rattle.ddl_types.specs.Types.{Ty, Tys, con, none, uint, bool, unit, array_of, map_of, maybe_of, place, on, arguments}
use Rattle.ddl_types.specs.Types as t
use Rattle.ddl_ops.specs.declared.pattern.Pattern.{Pattern}
use Rattle.ddl_ops.specs.declared.pattern.Pattern.TheVariants as P
use Rattle.ddl_typed.specs.Specification.{Place}
use Rattle.ddl_typed.specs.Tree.{Expr, Content, expr, no_content, content}

-- the type of a form
abbrev pub type_of : Expr → Ty
type_of (expr form ty span) = ty

-- truth values, `{}`, counts and positions, arrays of a type
abbrev pub truth_type : Ty
truth_type = con bool none

abbrev pub unit_type : Ty
unit_type = con unit none

abbrev pub count_type : Ty
count_type = con (uint 64) none

abbrev pub array_type : Ty → Ty
array_type ty = con array_of (t.more ty none)

-- the content of a union form: none is `{}`
abbrev pub union_type : Content → Ty
union_type no_content = unit_type
union_type (content e) = type_of e

-- the key of a map, the position in an array
abbrev pub key_type : Ty → Ty
key_type (con map_of (t.more key ts)) = key
key_type ty = count_type

-- the element of an array or of a map
abbrev pub element_type : Ty → Ty
element_type (con array_of (t.more ty ts)) = ty
element_type (con map_of (t.more key (t.more ty ts))) = ty
element_type ty = unit_type

-- ---- what a value holds that has a pattern

-- the parts of a type as a list
abbrev pub listed_types : Tys → List Ty
listed_types none = []
listed_types (t.more ty ts) = ty ∷ listed_types ts

-- the type under a name
abbrev pub named_type : List ℕ → List (List ℕ) → List Ty → Ty
named_type name (other ∷ names) (ty ∷ tys) = if bytes_eq name other then ty else named_type name names tys
named_type name names tys = unit_type

-- the type of a tag of the place of a number, without its arguments
abbrev pub tag_type : List Place → ℕ → List ℕ → Ty
tag_type [] m name = unit_type
tag_type (p ∷ ps) zero name = named_type name p.names p.types
tag_type (p ∷ ps) (suc m) name = tag_type ps m name

-- the content of a value of a type that has a pattern: that of a `just` or of a tag, else `{}`
abbrev pub content_type : List Place → Pattern → Ty → Ty
content_type places (P.Just x) (con maybe_of (t.more ty ts)) = ty
content_type places (P.Tag name x) (con (place m) ts) = on (tag_type places m name) (arguments (listed_types ts))
content_type places p ty = unit_type
