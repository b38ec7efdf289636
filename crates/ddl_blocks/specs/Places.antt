-- Records, unions and bitdata by their numbers, and which types are there.
use Rattle.std.specs.Prelude.{◌≡◌, ℕ, suc, ◌≤◌, List, [], ◌∷◌, Bool, true, false, Option, Some, None, slice_get}
use Rattle.ddl_types.specs.Layout.{Layout}
use Rattle.ddl_types.specs.Types.{Ty, Tys, Head, var, con, none, more, uint, sint, stream, maybe_of, array_of, map_of, bits, place, Below}
use Rattle.ddl_core.specs.Places.{PlaceShape, record_shape, union_shape, bits_shape}
use Rattle.ddl_blocks.specs.Code.{ValueType, of_type, builder, thread}

-- each of a list
abbrev pub Each : {A : Type 0} → (A → Type 0) → List A → Type 0
Each P [] = Unit {0}
Each P (x ∷ xs) = P x × Each P xs

-- records and unions, in the order of their numbers
abbrev pub places_of : List PlaceShape → List PlaceShape
places_of [] = []
places_of (record_shape names types ∷ ps) = record_shape names types ∷ places_of ps
places_of (union_shape tags types ∷ ps) = union_shape tags types ∷ places_of ps
places_of (bits_shape name l ∷ ps) = places_of ps

-- the layouts of the bitdata, in the order of their numbers
abbrev pub layouts_of : List PlaceShape → List Layout
layouts_of [] = []
layouts_of (record_shape names types ∷ ps) = layouts_of ps
layouts_of (union_shape tags types ∷ ps) = layouts_of ps
layouts_of (bits_shape name l ∷ ps) = l ∷ layouts_of ps

-- the record or the union of a number, and the bitdata of a number
abbrev pub place_at : List PlaceShape → ℕ → Option PlaceShape
place_at ps n = slice_get (places_of ps) n

abbrev pub bits_at : List PlaceShape → ℕ → Option Layout
bits_at ps n = slice_get (layouts_of ps) n

-- the types of its fields, or of the contents of its tags
abbrev pub types_in : PlaceShape → List Ty
types_in (record_shape names types) = types
types_in (union_shape tags types) = types
types_in (bits_shape name l) = []

-- the arguments of a place, as a list
abbrev pub listed : Tys → List Ty
listed none = []
listed (more ty ts) = ty ∷ listed ts

abbrev pub count : Tys → ℕ
count none = 0
count (more ty ts) = suc (count ts)

-- a width is from 1 to 128
abbrev pub IsWidth : ℕ → Type 0
IsWidth w = (1 ≤ w) × (w ≤ 128)

-- what a number names is there
abbrev pub IsThere : {A : Type 0} → Option A → Type 0
IsThere o = (x : _) × (o ≡ Some x)

-- a place is there, with an argument for every variable in its shape
abbrev pub IsPlace : Option PlaceShape → ℕ → Type 0
IsPlace None n = ⊥
IsPlace (Some shape) n = Each (λ ty. Below ty n) (types_in shape)

-- a head at so many types
abbrev pub IsHead : List PlaceShape → Head → ℕ → Type 0
IsHead ps (uint w) n = IsWidth w × (n ≡ 0)
IsHead ps (sint w) n = IsWidth w × (n ≡ 0)
IsHead ps (bits b) n = IsThere (bits_at ps b) × (n ≡ 0)
IsHead ps (place p) n = IsPlace (place_at ps p) n
IsHead ps maybe_of n = n ≡ 1
IsHead ps array_of n = n ≡ 1
IsHead ps map_of n = n ≡ 2
IsHead ps h n = n ≡ 0

-- a type without variables whose places and bitdata are there
abbrev mutual
  pub IsType : List PlaceShape → Ty → Type 0
  IsType ps (var v) = ⊥
  IsType ps (con h ts) = IsHead ps h (count ts) × AreTypes ps ts

  pub AreTypes : List PlaceShape → Tys → Type 0
  AreTypes ps none = Unit {0}
  AreTypes ps (more ty ts) = IsType ps ty × AreTypes ps ts

-- the same with variables, as in a shape
abbrev mutual
  pub IsOpenType : List PlaceShape → Ty → Type 0
  IsOpenType ps (var v) = Unit {0}
  IsOpenType ps (con h ts) = IsHead ps h (count ts) × AreOpenTypes ps ts

  pub AreOpenTypes : List PlaceShape → Tys → Type 0
  AreOpenTypes ps none = Unit {0}
  AreOpenTypes ps (more ty ts) = IsOpenType ps ty × AreOpenTypes ps ts

-- the type of a value of a block
abbrev pub IsValueType : List PlaceShape → ValueType → Type 0
IsValueType ps (of_type ty) = IsType ps ty
IsValueType ps (builder ty) = IsType ps ty
IsValueType ps thread = Unit {0}

-- a value is a reference by its type
abbrev pub is_reference : ValueType → Bool
is_reference (of_type (con (place p) ts)) = true
is_reference (of_type (con maybe_of ts)) = true
is_reference (of_type (con array_of ts)) = true
is_reference (of_type (con map_of ts)) = true
is_reference (of_type (con stream ts)) = true
is_reference (of_type ty) = false
is_reference (builder ty) = true
is_reference thread = false
