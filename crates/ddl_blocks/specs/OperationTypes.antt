-- The types of operations and of patterns.
use Rattle.std.specs.Prelude.{◌≡◌, ℕ, ◌+◌, ◌≤◌, ◌<◌, ◌⊎◌, IsTrue, List, [], ◌∷◌, map, Option, Some, None, pos, bytes_eq, if◌then◌else◌}
use Rattle.ddl_types.specs.declared.num.NumType.{NumType}
use Rattle.ddl_types.specs.declared.num.NumType.TheVariants as N
use Rattle.ddl_types.specs.Layout.{Layout, Parts, Part, Con, no_cons, one_of, named_con, no_parts, part, fixed, free, inner, only_con}
use Rattle.ddl_types.specs.Layout as bits
use Rattle.ddl_types.specs.Num.{in_range, width_of}
use Rattle.ddl_types.specs.Types.{Ty, con, none, more, on, arguments, tys_of}
use Rattle.ddl_types.specs.Types as t
use Rattle.ddl_arith.specs.Exact.{has_op, right_type}
use Rattle.ddl_ops.specs.Casts.{target}
use Rattle.ddl_ops.specs.declared.operators.Builtin.{Builtin}
use Rattle.ddl_ops.specs.declared.operators.Builtin.TheVariants.{Length, Concat, ArrayStream, BytesOfStream, Empty, InsertInto, LookupIn}
use Rattle.ddl_ops.specs.declared.operators.Cast.TheVariants.{Keep, Cut}
use Rattle.ddl_ops.specs.declared.operators.Infix.{Infix}
use Rattle.ddl_ops.specs.declared.operators.Infix.TheVariants.{Arithmetic, Compare, Beside, Append, And, Or}
use Rattle.ddl_ops.specs.declared.operators.Prefix.{Prefix}
use Rattle.ddl_ops.specs.declared.operators.Prefix.TheVariants.{Minus, Not, Complement}
use Rattle.ddl_ops.specs.declared.operators.Primitive.{Primitive}
use Rattle.ddl_ops.specs.declared.operators.Primitive.TheVariants as p
use Rattle.ddl_ops.specs.declared.pattern.Pattern.{Pattern}
use Rattle.ddl_ops.specs.declared.pattern.Pattern.TheVariants.{Any, Number, Truth, Nothing, Just, Tag}
use Rattle.ddl_core.specs.Core.{Operation, text, literal, truth, unit_, nothing_, just_, list, record_, union_, select, infix_, prefix_, cast, builtin}
use Rattle.ddl_core.specs.Core.{truth_of_, count_, most, push, less_one, first_position, has_position, element_at, key_at, next_position, gather, uint8}
use Rattle.ddl_core.specs.Core.{match_text, match, end, class, fail, no_case, primitive, guard, fits, wrong}
use Rattle.ddl_core.specs.Places.{PlaceShape, record_shape, union_shape}
use Rattle.ddl_blocks.specs.Code.{ValueType, of_type}
use Rattle.ddl_blocks.specs.Code as code
use Rattle.ddl_blocks.specs.Places.{Each, listed, place_at, layouts_of, bits_at, IsWidth}

-- types by name
abbrev pub uint : ℕ → Ty
uint w = con (t.uint w) none

abbrev pub byte : Ty
byte = uint 8

abbrev pub count : Ty
count = uint 64

abbrev pub bool : Ty
bool = con t.bool none

abbrev pub unit : Ty
unit = con t.unit none

abbrev pub stream : Ty
stream = con t.stream none

abbrev pub maybe : Ty → Ty
maybe ty = con t.maybe_of (more ty none)

abbrev pub array : Ty → Ty
array ty = con t.array_of (more ty none)

abbrev pub mapping : Ty → Ty → Ty
mapping k v = con t.map_of (more k (more v none))

abbrev pub number : NumType → Ty
number N.Int = con t.int none
number (N.Uint w) = uint w
number (N.Sint w) = con (t.sint w) none

-- numbers, booleans and arrays of bytes are ordered
abbrev pub IsKey : Ty → Type 0
IsKey ty = ((n : NumType) × (ty ≡ number n)) ⊎ (ty ≡ bool) ⊎ (ty ≡ array byte)

-- the type of what a list of names has under a name
abbrev pub type_under : List (List ℕ) → List Ty → List ℕ → Option Ty
type_under [] types name = None
type_under (other ∷ names) [] name = None
type_under (other ∷ names) (ty ∷ types) name = if bytes_eq other name then Some ty else type_under names types name

-- a part of a bitdata with a name is a number, or a bitdata
abbrev pub PartOf : List PlaceShape → Part → List ℕ → Ty → Type 0
PartOf ps (fixed value w) name ty = ⊥
PartOf ps (free named w) name ty = (named ≡ Some name) × (ty ≡ uint w)
PartOf ps (inner named l) name ty = (named ≡ Some name) × (b : ℕ) × (bits_at ps b ≡ Some l) × (ty ≡ con (t.bits b) none)

-- a field of a constructor
abbrev pub FieldOf : List PlaceShape → Parts → List ℕ → Ty → Type 0
FieldOf ps no_parts name ty = ⊥
FieldOf ps (part q qs) name ty = PartOf ps q name ty ⊎ FieldOf ps qs name ty

-- the constructor of a name
abbrev pub con_named : Layout → List ℕ → Option Parts
con_named no_cons name = None
con_named (one_of (named_con other qs) cs) name = if bytes_eq other name then Some qs else con_named cs name

-- the names of a constructor's fields, in order
abbrev pub name_before : Option (List ℕ) → List (List ℕ) → List (List ℕ)
name_before None names = names
name_before (Some name) names = name ∷ names

abbrev pub names_of : Parts → List (List ℕ)
names_of no_parts = []
names_of (part (fixed value w) qs) = names_of qs
names_of (part (free named w) qs) = name_before named (names_of qs)
names_of (part (inner named l) qs) = name_before named (names_of qs)

-- fields with their types, in order, are those of a constructor
abbrev pub FieldsOf : List PlaceShape → Parts → List (List ℕ) → List Ty → Type 0
FieldsOf ps qs [] [] = Unit {0}
FieldsOf ps qs (name ∷ names) (ty ∷ types) = FieldOf ps qs name ty × FieldsOf ps qs names types
FieldsOf ps qs names types = ⊥

-- a record of these fields; without fields it is `{}`
abbrev pub IsRecord : List PlaceShape → List (List ℕ) → List Ty → Ty → Type 0
IsRecord ps [] types ty = (types ≡ []) × (ty ≡ unit)
IsRecord ps (name ∷ names) types ty =
    (n : ℕ) × (args : List Ty) × (shape : List Ty) × (place_at ps n ≡ Some (record_shape (name ∷ names) shape))
    × (types ≡ map (λ u. on u (arguments args)) shape) × (ty ≡ con (t.place n) (tys_of args))

-- a record's field, or one of a bitdata that has one constructor
abbrev pub HasField : List PlaceShape → Ty → List ℕ → Ty → Type 0
HasField ps (con (t.place n) args) name ty =
    (names : List (List ℕ)) × (types : List Ty) × (place_at ps n ≡ Some (record_shape names types))
    × (u : Ty) × (type_under names types name ≡ Some u) × (ty ≡ on u (arguments (listed args)))
HasField ps (con (t.bits b) args) name ty = (l : Layout) × (qs : Parts) × (bits_at ps b ≡ Some l) × (only_con l ≡ Some qs) × FieldOf ps qs name ty
HasField ps of name ty = ⊥

-- a union's tag with its content
abbrev pub HasTag : List PlaceShape → Ty → List ℕ → Ty → Type 0
HasTag ps (con (t.place n) args) name ty =
    (names : List (List ℕ)) × (types : List Ty) × (place_at ps n ≡ Some (union_shape names types))
    × (u : Ty) × (type_under names types name ≡ Some u) × (ty ≡ on u (arguments (listed args)))
HasTag ps of name ty = ⊥

-- a tag of a bitdata; its content is the record of its fields
abbrev pub HasBitTag : List PlaceShape → Ty → List ℕ → Ty → Type 0
HasBitTag ps (con (t.bits b) args) name ty =
    (l : Layout) × (qs : Parts) × (types : List Ty) × (bits_at ps b ≡ Some l) × (con_named l name ≡ Some qs)
    × FieldsOf ps qs (names_of qs) types × IsRecord ps (names_of qs) types ty
HasBitTag ps of name ty = ⊥

-- a pattern of values of a type, with the type of its content
abbrev pub HasPattern : List PlaceShape → Pattern → Ty → Ty → Type 0
HasPattern ps Any of ty = ty ≡ unit
HasPattern ps (Number n) of ty = (k : NumType) × (of ≡ number k) × IsTrue (in_range k (pos n)) × (ty ≡ unit)
HasPattern ps (Truth b) of ty = (of ≡ bool) × (ty ≡ unit)
HasPattern ps Nothing of ty = ((u : Ty) × (of ≡ maybe u)) × (ty ≡ unit)
HasPattern ps (Just x) of ty = of ≡ maybe ty
HasPattern ps (Tag name x) of ty = HasTag ps of name ty ⊎ HasBitTag ps of name ty

-- each value of the one type is one of the other
abbrev pub Lossless : List PlaceShape → Ty → Ty → Type 0
Lossless ps (con (t.uint m) none) (con (t.uint n) none) = m ≤ n
Lossless ps (con (t.uint m) none) (con (t.sint n) none) = m < n
Lossless ps (con (t.uint m) none) (con t.int none) = m ≤ 127
Lossless ps (con (t.sint m) none) (con (t.sint n) none) = m ≤ n
Lossless ps (con (t.sint m) none) (con t.int none) = Unit {0}
Lossless ps (con t.int none) (con (t.sint n) none) = n ≡ 128
Lossless ps (con (t.bits b) none) (con (t.uint n) none) = (l : Layout) × (bits_at ps b ≡ Some l) × (bits.width l ≡ n)
Lossless ps (con (t.uint n) none) (con (t.bits b) none) =
    (l : Layout) × (bits_at ps b ≡ Some l) × (bits.width l ≡ n) × ((k : ℕ) → IsTrue (in_range (N.Uint n) (pos k)) → IsTrue (bits.fits l k))
Lossless ps s u = s ≡ u

-- a number or a bitdata
abbrev pub IsNumberOrBits : Ty → Type 0
IsNumberOrBits s = ((k : NumType) × (s ≡ number k)) ⊎ ((b : ℕ) × (s ≡ con (t.bits b) none))

-- a cast to a number that may cut off bits
abbrev pub CutsTo : Ty → Ty → Type 0
CutsTo s u = IsNumberOrBits s × (k : NumType) × (u ≡ number k)

-- a cast that may fail: to a number, or from a number to a bitdata of its width
abbrev pub FitsTo : List PlaceShape → Ty → Ty → Type 0
FitsTo ps s u = CutsTo s u ⊎ ((b : ℕ) × (l : Layout) × (u ≡ con (t.bits b) none) × (bits_at ps b ≡ Some l) × (s ≡ uint (bits.width l)))

-- an array or a map, with the types of its keys and elements
abbrev pub Loops : Ty → Ty → Ty → Type 0
Loops w k v = ((w ≡ array v) × (k ≡ count)) ⊎ (w ≡ mapping k v)

-- infix operators
abbrev pub HasInfix : Infix → List Ty → Ty → Type 0
HasInfix (Arithmetic op) xs ty =
    (k : NumType) × (xs ≡ number k ∷ number (right_type op k) ∷ []) × (ty ≡ number k) × IsWidth (width_of k) × IsTrue (has_op k op)
HasInfix (Compare c) xs ty = (k : Ty) × (xs ≡ k ∷ k ∷ []) × (ty ≡ bool) × IsKey k
HasInfix Beside xs ty = (m n : ℕ) × (xs ≡ uint m ∷ uint n ∷ []) × (ty ≡ uint (m + n)) × (m + n ≤ 128)
HasInfix Append xs ty = (m n : ℕ) × (xs ≡ uint m ∷ uint n ∷ []) × (ty ≡ uint m)
HasInfix And xs ty = (xs ≡ bool ∷ bool ∷ []) × (ty ≡ bool)
HasInfix Or xs ty = (xs ≡ bool ∷ bool ∷ []) × (ty ≡ bool)

-- prefix operators
abbrev pub HasPrefix : Prefix → List Ty → Ty → Type 0
HasPrefix Minus xs ty = (k : NumType) × (xs ≡ number k ∷ []) × (ty ≡ number k)
HasPrefix Not xs ty = (xs ≡ bool ∷ []) × (ty ≡ bool)
HasPrefix Complement xs ty = (w : ℕ) × (xs ≡ uint w ∷ []) × (ty ≡ uint w)

-- built-in values
abbrev pub HasBuiltin : Builtin → List Ty → Ty → Type 0
HasBuiltin Length xs ty = (u : Ty) × (xs ≡ array u ∷ []) × (ty ≡ count)
HasBuiltin Concat xs ty = (u : Ty) × (xs ≡ array (array u) ∷ []) × (ty ≡ array u)
HasBuiltin ArrayStream xs ty = (xs ≡ array byte ∷ []) × (ty ≡ stream)
HasBuiltin BytesOfStream xs ty = (xs ≡ stream ∷ []) × (ty ≡ array byte)
HasBuiltin Empty xs ty = (k v : Ty) × (xs ≡ []) × (ty ≡ mapping k v)
HasBuiltin InsertInto xs ty = (k v : Ty) × (xs ≡ k ∷ v ∷ mapping k v ∷ []) × (ty ≡ mapping k v) × IsKey k
HasBuiltin LookupIn xs ty = (k v : Ty) × (xs ≡ k ∷ mapping k v ∷ []) × (ty ≡ maybe v) × IsKey k

-- built-in grammars with value arguments
abbrev pub HasPrimitive : Primitive → List Ty → Ty → Type 0
HasPrimitive p.GetStream xs ty = (xs ≡ []) × (ty ≡ stream)
HasPrimitive p.Offset xs ty = (xs ≡ []) × (ty ≡ count)
HasPrimitive p.SetStream xs ty = (xs ≡ stream ∷ []) × (ty ≡ unit)
HasPrimitive p.Take xs ty = (xs ≡ count ∷ stream ∷ []) × (ty ≡ stream)
HasPrimitive p.Drop xs ty = (xs ≡ count ∷ stream ∷ []) × (ty ≡ stream)
HasPrimitive p.Index xs ty = xs ≡ array ty ∷ count ∷ []
HasPrimitive p.Lookup xs ty = (k : Ty) × (xs ≡ k ∷ mapping k ty ∷ []) × IsKey k
HasPrimitive p.Insert xs ty = (k v : Ty) × (xs ≡ k ∷ v ∷ mapping k v ∷ []) × (ty ≡ mapping k v) × IsKey k

-- an operation at values of these types has a result of this one
abbrev pub HasRule : List PlaceShape → Operation → List Ty → Ty → Type 0
HasRule ps (text bs) xs ty = (xs ≡ []) × (ty ≡ array byte) × Each (λ b. b < 256) bs
HasRule ps (literal n (Some k)) xs ty = (xs ≡ []) × (ty ≡ number k) × IsWidth (width_of k) × IsTrue (in_range k (pos n))
HasRule ps (literal n None) xs ty = ⊥
HasRule ps (truth b) xs ty = (xs ≡ []) × (ty ≡ bool)
HasRule ps unit_ xs ty = (xs ≡ []) × (ty ≡ unit)
HasRule ps nothing_ xs ty = (u : Ty) × (xs ≡ []) × (ty ≡ maybe u)
HasRule ps just_ xs ty = (u : Ty) × (xs ≡ u ∷ []) × (ty ≡ maybe u)
HasRule ps list xs ty = (u : Ty) × Each (λ x. x ≡ u) xs × (ty ≡ array u)
HasRule ps (record_ names) xs ty = IsRecord ps names xs ty
HasRule ps (union_ name) xs ty = (u : Ty) × (xs ≡ u ∷ []) × HasTag ps ty name u
HasRule ps (select name) xs ty = (u : Ty) × (xs ≡ u ∷ []) × HasField ps u name ty
HasRule ps (infix_ op) xs ty = HasInfix op xs ty
HasRule ps (prefix_ op) xs ty = HasPrefix op xs ty
HasRule ps (cast Keep to) xs ty = (u : Ty) × (xs ≡ u ∷ []) × Lossless ps u ty × (to ≡ target (layouts_of ps) ty)
HasRule ps (cast Cut to) xs ty = (u : Ty) × (xs ≡ u ∷ []) × CutsTo u ty × (to ≡ target (layouts_of ps) ty)
HasRule ps (builtin b) xs ty = HasBuiltin b xs ty
HasRule ps truth_of_ xs ty = (xs ≡ bool ∷ []) × (ty ≡ bool)
HasRule ps count_ xs ty = (xs ≡ count ∷ []) × (ty ≡ count)
HasRule ps most xs ty = (xs ≡ count ∷ count ∷ []) × (ty ≡ count)
HasRule ps push xs ty = ⊥
HasRule ps less_one xs ty = (xs ≡ count ∷ []) × (ty ≡ count)
HasRule ps first_position xs ty = (xs ≡ []) × (ty ≡ count)
HasRule ps has_position xs ty = (w k v : Ty) × (xs ≡ w ∷ count ∷ []) × Loops w k v × (ty ≡ bool)
HasRule ps element_at xs ty = (w k : Ty) × (xs ≡ w ∷ count ∷ []) × Loops w k ty
HasRule ps key_at xs ty = (w v : Ty) × (xs ≡ w ∷ count ∷ []) × Loops w ty v
HasRule ps next_position xs ty = (w k v : Ty) × (xs ≡ w ∷ count ∷ []) × Loops w k v × (ty ≡ count)
HasRule ps gather xs ty = (w k v u : Ty) × (xs ≡ w ∷ array u ∷ []) × Loops w k v × Loops ty k u
HasRule ps uint8 xs ty = (xs ≡ []) × (ty ≡ byte)
HasRule ps (match_text bs) xs ty = (xs ≡ []) × (ty ≡ array byte) × Each (λ b. b < 256) bs
HasRule ps match xs ty = (xs ≡ array byte ∷ []) × (ty ≡ array byte)
HasRule ps end xs ty = (xs ≡ []) × (ty ≡ unit)
HasRule ps (class test) xs ty = (xs ≡ []) × (ty ≡ byte)
HasRule ps (fail n) xs ty = xs ≡ []
HasRule ps no_case xs ty = xs ≡ []
HasRule ps (primitive q) xs ty = HasPrimitive q xs ty
HasRule ps (guard q) xs ty = (u : Ty) × (xs ≡ u ∷ []) × HasPattern ps q u ty
HasRule ps (fits to) xs ty = (u : Ty) × (xs ≡ u ∷ []) × FitsTo ps u ty × (to ≡ target (layouts_of ps) ty)
HasRule ps wrong xs ty = ⊥

-- the same of values of a block: what grows begins as an empty list, and is pushed to
abbrev pub HasTypes : List PlaceShape → Operation → List ValueType → ValueType → Type 0
HasTypes ps push xs ty = (u : Ty) × (xs ≡ code.builder u ∷ of_type u ∷ []) × (ty ≡ code.builder u)
HasTypes ps list xs (code.builder u) = xs ≡ []
HasTypes ps op xs ty = (us : List Ty) × (u : Ty) × (xs ≡ map of_type us) × (ty ≡ of_type u) × HasRule ps op us u
