-- Whether a demand holds, by its types as they are solved.
use Rattle.std.specs.Prelude.{◌≡◌, ◌≢◌, ℕ, ◌+◌, ◌-◌, ◌^◌, ◌==◌, List, nat_lt, nat_le, if◌then◌else◌, Bool, true, false, Option, Some, None}
use Rattle.ddl_types.specs.Types.{Ty, Ty.var, Ty.con, Sub, on, Head, Head.int, Head.uint, Head.sint, Head.bool, Head.array_of, Head.map_of, Head.bits}
use Rattle.ddl_types.specs.Types.{Head.place}
use Rattle.ddl_types.specs.Conditions.{num, word, lit, key, lossless, cut, fit, cat, field, tag, loops}
use Rattle.ddl_unify.specs.Equations.{Apart}
use Rattle.ddl_judging.specs.declared.refusal.Wanted.{Wanted}
use Rattle.ddl_judging.specs.declared.refusal.Wanted.TheVariants as w
use Rattle.ddl_judging.specs.Demands.{Demand, condition, make, gather}
use Rattle.ddl_judging.specs.Shapes.{Shapes, place_at, bits_at, found}

-- why a demand is false
pub data Wrong : Type 0 where
  not_number : Ty → Wanted → Wrong
  not_lossless : Ty → Ty → Wrong
  no_field : List ℕ → Ty → Wrong
  literal_range : ℕ → Ty → Wrong
  width_range : ℕ → Wrong
  gap : ℕ → Wrong

-- a demand holds, or is false, or is neither as long as its types are not known
pub data Verdict : Type 0 where
  holds : Verdict
  false_for : Wrong → Verdict
  undecided : Verdict

abbrev pub if_true : Bool → Wrong → Verdict
if_true true why = holds
if_true false why = false_for why

-- `int`, a `uint` or a `sint`
abbrev pub number : Ty → Verdict
number (var v) = undecided
number (con int ts) = holds
number (con (uint m) ts) = holds
number (con (sint m) ts) = holds
number (con h ts) = false_for (not_number (con h ts) w.Number)

-- a `uint`
abbrev pub word_type : Ty → Verdict
word_type (var v) = undecided
word_type (con (uint m) ts) = holds
word_type (con h ts) = false_for (not_number (con h ts) w.Word)

-- a type of numbers with n in its range
abbrev pub literal : ℕ → Ty → Verdict
literal n (var v) = undecided
literal n (con int ts) = if_true (nat_lt n (2 ^ 127)) (literal_range n (con int ts))
literal n (con (uint m) ts) = if_true (nat_lt n (2 ^ m)) (literal_range n (con (uint m) ts))
literal n (con (sint m) ts) = if_true (nat_lt n (2 ^ (m - 1))) (literal_range n (con (sint m) ts))
literal n (con h ts) = false_for (literal_range n (con h ts))

-- numbers, truth, and arrays, whose element an equation makes `uint 8`
abbrev pub comparable : Ty → Verdict
comparable (var v) = undecided
comparable (con int ts) = holds
comparable (con (uint m) ts) = holds
comparable (con (sint m) ts) = holds
comparable (con bool ts) = holds
comparable (con array_of ts) = holds
comparable (con h ts) = false_for (not_number (con h ts) w.Key)

-- a cast between two types with heads: it is lossless, or not, or a bitdata has a gap, or the table of casts is silent
pub data Casting : Type 0 where
  keeps : Casting
  loses : Casting
  has_gap : ℕ → Casting
  if_equal : Casting

abbrev pub if_keeps : Bool → Casting
if_keeps true = keeps
if_keeps false = loses

abbrev pub if_covered : Bool → Option ℕ → Casting
if_covered false g = loses
if_covered true None = keeps
if_covered true (Some n) = has_gap n

abbrev pub casting : Shapes → Head → Head → Casting
casting ss (uint m) (uint n) = if_keeps (nat_le m n)
casting ss (uint m) (sint n) = if_keeps (nat_lt m n)
casting ss (sint m) (sint n) = if_keeps (nat_le m n)
casting ss (uint m) int = if_keeps (nat_le m 127)
casting ss (sint m) int = keeps
casting ss int (sint n) = if_keeps (n == 128)
casting ss (bits b) (uint n) = if_keeps ((bits_at ss.bitdata b).width == n)
casting ss (uint m) (bits b) = if_covered ((bits_at ss.bitdata b).width == m) (bits_at ss.bitdata b).gap
casting ss h k = if_equal

-- two types that some map makes equal
abbrev pub CanBeEqual : Ty → Ty → Type 0
CanBeEqual s t = (h : Sub) × (on s h ≡ on t h)

-- where nothing else is said, a cast keeps what it is given exactly where the two types are equal
pub data IsEqual (s t : Ty) : Verdict → Type 0 where
  same : s ≡ t → IsEqual s t holds
  later : s ≢ t → CanBeEqual s t → IsEqual s t undecided
  never : Apart s t → IsEqual s t (false_for (not_lossless s t))

abbrev pub IsCast : Casting → Ty → Ty → Verdict → Type 0
IsCast keeps s t v = v ≡ holds
IsCast loses s t v = v ≡ false_for (not_lossless s t)
IsCast (has_gap n) s t v = v ≡ false_for (gap n)
IsCast if_equal s t v = IsEqual s t v

-- a type that is not known leaves a cast undecided, but from the type to itself
pub data IsUnknown (s t : Ty) : Verdict → Type 0 where
  itself : s ≡ t → IsUnknown s t holds
  unknown : s ≢ t → IsUnknown s t undecided

abbrev pub IsLossless : Shapes → Ty → Ty → Verdict → Type 0
IsLossless ss (con h ss1) (con k ts) v = IsCast (casting ss h k) (con h ss1) (con k ts) v
IsLossless ss s t v = IsUnknown s t v

-- a number or a bitdata
abbrev pub is_number : Head → Bool
is_number int = true
is_number (uint m) = true
is_number (sint m) = true
is_number h = false

abbrev pub has_bits : Head → Bool
has_bits (bits b) = true
has_bits h = is_number h

-- a cast that may cut off bits: from a number or a bitdata to a number
abbrev pub can_cut : Head → Head → Bool
can_cut h k = if has_bits h then is_number k else false

-- a cast that may fail: such a one, or from a `uint` to a bitdata of its width
abbrev pub can_fit : Shapes → Head → Head → Bool
can_fit ss (uint m) (bits b) = (bits_at ss.bitdata b).width == m
can_fit ss h k = can_cut h k

abbrev pub cutting : Ty → Ty → Verdict
cutting (con h ss) (con k ts) = if_true (can_cut h k) (not_lossless (con h ss) (con k ts))
cutting s t = undecided

abbrev pub fitting : Shapes → Ty → Ty → Verdict
fitting z (con h ss) (con k ts) = if_true (can_fit z h k) (not_lossless (con h ss) (con k ts))
fitting z s t = undecided

-- `#`: two `uint`s of at most 128 bits together; of several parts that are none, the first is told
abbrev pub joined : Ty → Ty → Verdict
joined (con (uint m) ss) (con (uint n) ts) = if_true (nat_le (m + n) 128) (width_range (m + n))
joined (con (uint m) ss) (con h ts) = false_for (not_number (con h ts) w.Word)
joined (con h ss) (con k ts) = false_for (not_number (con h ss) w.Word)
joined s t = undecided

abbrev pub if_member : Option Ty → List ℕ → Ty → Verdict
if_member None x t = false_for (no_field x t)
if_member (Some u) x t = holds

-- a record, or a bitdata written with `=`, with this field
abbrev pub has_field : Shapes → List ℕ → Ty → Verdict
has_field ss x (var v) = undecided
has_field ss x (con (place p) ts) = if_member (found false x (place_at ss.places p)) x (con (place p) ts)
has_field ss x (con (bits b) ts) = if_member (found false x (bits_at ss.bitdata b).shape) x (con (bits b) ts)
has_field ss x (con h ts) = false_for (no_field x (con h ts))

-- a union, or a bitdata written with `where`, with this tag
abbrev pub has_tag : Shapes → List ℕ → Ty → Verdict
has_tag ss x (var v) = undecided
has_tag ss x (con (place p) ts) = if_member (found true x (place_at ss.places p)) x (con (place p) ts)
has_tag ss x (con (bits b) ts) = if_member (found true x (bits_at ss.bitdata b).shape) x (con (bits b) ts)
has_tag ss x (con h ts) = false_for (no_field x (con h ts))

-- a union with this tag, which a union form makes
abbrev pub makes : Shapes → List ℕ → Ty → Verdict
makes ss x (var v) = undecided
makes ss x (con (place p) ts) = if_member (found true x (place_at ss.places p)) x (con (place p) ts)
makes ss x (con h ts) = false_for (no_field x (con h ts))

-- what a loop can go over: an array or a map
abbrev pub looped : Ty → Verdict
looped (var v) = undecided
looped (con array_of ts) = holds
looped (con map_of ts) = holds
looped (con h ts) = false_for (not_number (con h ts) w.Loop)

-- the verdict on a demand whose types are solved
abbrev pub Judged : Shapes → Demand → Verdict → Type 0
Judged ss (condition (num t)) v = v ≡ number t
Judged ss (condition (word t)) v = v ≡ word_type t
Judged ss (condition (lit n t)) v = v ≡ literal n t
Judged ss (condition (key t)) v = v ≡ comparable t
Judged ss (condition (lossless s t)) v = IsLossless ss s t v
Judged ss (condition (cut s t)) v = v ≡ cutting s t
Judged ss (condition (fit s t)) v = v ≡ fitting ss s t
Judged ss (condition (cat a b r)) v = v ≡ joined a b
Judged ss (condition (field t x r)) v = v ≡ has_field ss x t
Judged ss (condition (tag t x r)) v = v ≡ has_tag ss x t
Judged ss (condition (loops t k u)) v = v ≡ looped t
Judged ss (make t x r) v = v ≡ makes ss x t
Judged ss (gather t k u b r) v = v ≡ looped t
