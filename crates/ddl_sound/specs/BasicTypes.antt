-- Types by name, and what is asked of types.
use Rattle.std.specs.Prelude.{◌≡◌, ℕ, List, ◌∷◌, if◌then◌else◌, bytes_eq, Option, Some, None}
use Rattle.ddl_types.specs.Types.{Ty, con, none, int, uint, sint, bool, unit, stream, maybe_of, array_of, map_of, bits}
use Rattle.ddl_types.specs.Types as t

abbrev pub byte_type : Ty
byte_type = con (uint 8) none

-- lengths, positions and offsets
abbrev pub count_type : Ty
count_type = con (uint 64) none

abbrev pub unit_type : Ty
unit_type = con unit none

abbrev pub stream_type : Ty
stream_type = con stream none

abbrev pub array_type : Ty → Ty
array_type ty = con array_of (t.more ty none)

abbrev pub maybe_type : Ty → Ty
maybe_type ty = con maybe_of (t.more ty none)

abbrev pub map_type : Ty → Ty → Ty
map_type key ty = con map_of (t.more key (t.more ty none))

abbrev pub IsBool : Ty → Type 0
IsBool (con bool ts) = Unit {0}
IsBool ty = ⊥

abbrev pub IsUnsigned : Ty → Type 0
IsUnsigned (con (uint w) ts) = Unit {0}
IsUnsigned ty = ⊥

-- numbers and bitdata
abbrev pub IsNumeric : Ty → Type 0
IsNumeric (con int ts) = Unit {0}
IsNumeric (con (uint w) ts) = Unit {0}
IsNumeric (con (sint w) ts) = Unit {0}
IsNumeric (con (bits m) ts) = Unit {0}
IsNumeric ty = ⊥

-- keys are numbers, truth values and arrays of unsigned numbers
abbrev pub IsKey : Ty → Type 0
IsKey (con int ts) = Unit {0}
IsKey (con (uint w) ts) = Unit {0}
IsKey (con (sint w) ts) = Unit {0}
IsKey (con bool ts) = Unit {0}
IsKey (con array_of (t.more (con (uint w) us) ts)) = Unit {0}
IsKey ty = ⊥

-- what turns over a type have: the position and the element of an array, the key and the element of a map
abbrev pub Loops : Ty → Ty → Ty → Type 0
Loops (con array_of (t.more ty ts)) key element = (key ≡ count_type) × (element ≡ ty)
Loops (con map_of (t.more k (t.more ty ts))) key element = (key ≡ k) × (element ≡ ty)
Loops ty key element = ⊥

-- what a `map` over a type gathers: an array over an array, a map with the same keys over a map
abbrev pub Gathers : Ty → Ty → Ty → Type 0
Gathers (con array_of ts) body ty = ty ≡ array_type body
Gathers (con map_of (t.more k ts)) body ty = ty ≡ map_type k body
Gathers over body ty = ⊥

-- the type of the field of a name
abbrev pub field_type : List ℕ → List (List ℕ) → List Ty → Option Ty
field_type label (other ∷ names) (ty ∷ tys) = if bytes_eq other label then Some ty else field_type label names tys
field_type label names tys = None
