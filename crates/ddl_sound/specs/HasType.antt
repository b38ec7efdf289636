-- Which values have which type.
use Rattle.std.specs.Prelude.{◌≡◌, ◌<◌, ◌≤◌, length, ℕ, true, false, List, [], ◌∷◌, if◌then◌else◌, bytes_eq, slice_get, Option, Some, None}
use Rattle.std.specs.declared.cmp.Ordering.TheVariants.{Less}
use Rattle.ddl_types.specs.Num.{in_range}
use Rattle.ddl_types.specs.Layout.{Layout, fits}
use Rattle.ddl_types.specs.Types.{Ty, Tys, con, none, bool, unit, stream, maybe_of, array_of, map_of, bits, place, on, arguments}
use Rattle.ddl_types.specs.Types as t
use Rattle.ddl_types.specs.Value.{Value, Values, Fields, Pairs, Stream}
use Rattle.ddl_types.specs.Value as v
use Rattle.ddl_ops.specs.Bitdata.{layout_at}
use Rattle.ddl_ops.specs.Comparisons.{key_order}
use Rattle.ddl_ops.specs.Numbers.{number_type}
use Rattle.ddl_typed.specs.Specification.{Place}

-- the parts of a type as a list
abbrev pub list_of : Tys → List Ty
list_of none = []
list_of (t.more ty ts) = ty ∷ list_of ts

-- a type of a place, at the place's arguments
abbrev pub at_arguments : Ty → Tys → Ty
at_arguments ty ts = on ty (arguments (list_of ts))

-- the record or the union of a number
abbrev pub place_at : List Place → ℕ → Option Place
place_at places n = slice_get places n

-- the type of a tag's content
abbrev pub tag_type : List ℕ → List (List ℕ) → List Ty → Option Ty
tag_type name (other ∷ names) (ty ∷ tys) = if bytes_eq name other then Some ty else tag_type name names tys
tag_type name names tys = None

-- numbers are bytes
abbrev pub Bytes : List ℕ → Type 0
Bytes [] = Unit {0}
Bytes (b ∷ bs) = (b < 256) × Bytes bs

-- a stream is one of bytes, and within them
abbrev pub IsStream : Stream → Type 0
IsStream s = Bytes s.bytes × (s.from ≤ s.to) × (s.to ≤ length s.bytes)

-- a key is less than the first key of a map
abbrev pub IsBefore : Value → Pairs → Type 0
IsBefore k v.no_pairs = Unit {0}
IsBefore k (v.pair l w ps) = key_order k l ≡ Some Less

-- the keys of a map rise
abbrev pub KeysRise : Pairs → Type 0
KeysRise v.no_pairs = Unit {0}
KeysRise (v.pair k w ps) = IsBefore k ps × KeysRise ps

module _ (places : List Place) (layouts : List Layout) where
  -- a number is in its type's range; a bitdata's number fits its layout; a record has the fields of its place, and a
  -- union one of its tags, of the place's types at its arguments; the keys of a map rise; a stream is within its bytes
  abbrev mutual
    pub HasType : Value → Ty → Type 0
    HasType (v.number ty z) of = (number_type of ≡ Some ty) × (in_range ty z ≡ true)
    HasType (v.bitdata l n) (con (bits m) ts) = (layout_at layouts m ≡ Some l) × (fits l n ≡ true)
    HasType (v.boolean b) (con bool ts) = Unit {0}
    HasType v.unit (con unit ts) = Unit {0}
    HasType v.nothing (con maybe_of ts) = Unit {0}
    HasType (v.just w) (con maybe_of (t.more ty ts)) = HasType w ty
    HasType (v.fields fs) (con (place m) ts) =
        (p : Place) × (place_at places m ≡ Some p) × (p.tagged ≡ false) × FieldsHave fs p.names p.types ts
    HasType (v.tagged name w) (con (place m) ts) =
        (p : Place) × (place_at places m ≡ Some p) × (p.tagged ≡ true) ×
        ((ty : Ty) × (tag_type name p.names p.types ≡ Some ty) × HasType w (at_arguments ty ts))
    HasType (v.array vs) (con array_of (t.more ty ts)) = AllHave vs ty
    HasType (v.mapping ps) (con map_of (t.more key (t.more ty ts))) = KeysRise ps × PairsHave ps key ty
    HasType (v.stream s) (con stream ts) = IsStream s
    HasType w of = ⊥

    -- the fields of a record, in the order of its place
    pub FieldsHave : Fields → List (List ℕ) → List Ty → Tys → Type 0
    FieldsHave v.no_fields [] [] ts = Unit {0}
    FieldsHave (v.field name w fs) (other ∷ names) (ty ∷ tys) ts =
        (name ≡ other) × HasType w (at_arguments ty ts) × FieldsHave fs names tys ts
    FieldsHave fs names tys ts = ⊥

    pub AllHave : Values → Ty → Type 0
    AllHave v.no_values ty = Unit {0}
    AllHave (v.value w vs) ty = HasType w ty × AllHave vs ty

    pub PairsHave : Pairs → Ty → Ty → Type 0
    PairsHave v.no_pairs key ty = Unit {0}
    PairsHave (v.pair k w ps) key ty = HasType k key × HasType w ty × PairsHave ps key ty
