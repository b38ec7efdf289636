-- Worked rows of single operations: what each gives of values, and does on a stream.
use Rattle.std.proofs.Common.{◌≡◌, ℕ, true, false, List, [], ◌∷◌, nat_lt, pos, refl}
use Rattle.ddl_base.specs.declared.span.Span.{Span}
use Rattle.ddl_base.specs.declared.why.Why.{Why}
use Rattle.ddl_base.specs.declared.why.Why.TheVariants as why
use Rattle.ddl_types.specs.declared.num.NumType.TheVariants.{Int, Uint}
use Rattle.ddl_types.specs.Value.{Value, Values, Stream, in_input, number, boolean, unit, nothing, just, fields, tagged, array, mapping, stream, no_values}
use Rattle.ddl_types.specs.Value.{value, no_fields, field}
use Rattle.ddl_types.specs.Value.{no_pairs, pair}
use Rattle.ddl_types.specs.Outcome.{Outcome, End, Stuck, ends, miss, parsed}
use Rattle.ddl_ops.specs.Valued.{gives, stuck}
use Rattle.ddl_ops.specs.Primitives.{byte_value}
use Rattle.ddl_ops.specs.Casts.{to_number}
use Rattle.ddl_ops.specs.declared.operators.Prefix.TheVariants.{Not}
use Rattle.ddl_ops.specs.declared.operators.Cast.TheVariants as casts
use Rattle.ddl_ops.specs.declared.operators.Builtin.TheVariants as built
use Rattle.ddl_ops.specs.declared.operators.Primitive.TheVariants as prim
use Rattle.ddl_ops.specs.declared.pattern.Pattern.TheVariants as pattern
use Rattle.ddl_core.specs.Core.{truth, unit_, nothing_, just_, record_, union_, select, prefix_, cast, builtin, truth_of_, count_, first_position, has_position}
use Rattle.ddl_core.specs.Core.{element_at, key_at, class, fail, no_case, primitive, guard, fits, wrong}
use Rattle.ddl_core.specs.Operations.{applied, performed, position}

abbrev span : Span
span = record { «module» = 1; from = 11; to = 21 }

-- the stream of two bytes, from a place on
abbrev ab : ℕ → Stream
ab from = record { bytes = 97 ∷ 98 ∷ []; source = in_input; from = from; to = 2 }

abbrev byte : ℕ → Value
byte = byte_value

abbrev one : Value → Values
one v = value v no_values

abbrev two : Value → Value → Values
two v w = value v (value w no_values)

-- the names `x` and `y`
abbrev x : List ℕ
x = 120 ∷ []

abbrev y : List ℕ
y = 121 ∷ []

-- the record of `x = 1` and `y = 2`
abbrev both : Value
both = fields (field x (byte 1) (field y (byte 2) no_fields))

-- the map from 5 to 7, and from 6 to 8
abbrev map_of_two : Value
map_of_two = mapping (pair (byte 5) (byte 7) (pair (byte 6) (byte 8) no_pairs))

abbrev failed : Why → Outcome
failed reason = miss reason in_input 0 span (ends End)

-- ---- values from values

truth_is : applied (truth true) no_values span ≡ gives (boolean true)
truth_is = refl

unit_is : applied unit_ no_values span ≡ gives unit
unit_is = refl

nothing_is : applied nothing_ no_values span ≡ gives nothing
nothing_is = refl

just_is : applied just_ (one (byte 7)) span ≡ gives (just (byte 7))
just_is = refl

-- a record takes its values in the order of its names; without names it is `{}`; a value too few has no meaning
record_is : applied (record_ (x ∷ y ∷ [])) (two (byte 1) (byte 2)) span ≡ gives both
record_is = refl

record_without_names : applied (record_ []) no_values span ≡ gives unit
record_without_names = refl

record_lacks_one : applied (record_ (x ∷ y ∷ [])) (one (byte 1)) span ≡ stuck
record_lacks_one = refl

union_is : applied (union_ x) (one (byte 1)) span ≡ gives (tagged x (byte 1))
union_is = refl

selects_the_named : applied (select y) (one both) span ≡ gives (byte 2)
selects_the_named = refl

not_true : applied (prefix_ Not) (one (boolean true)) span ≡ gives (boolean false)
not_true = refl

-- 200 as an `int` is 200; cut to four bits it is 8
keeps_200 : applied (cast casts.Keep (to_number Int)) (one (byte 200)) span ≡ gives (number Int (pos 200))
keeps_200 = refl

cuts_200 : applied (cast casts.Cut (to_number (Uint 4))) (one (byte 200)) span ≡ gives (number (Uint 4) (pos 8))
cuts_200 = refl

length_of_two : applied (builtin built.Length) (one (array (two (byte 1) (byte 2)))) span ≡ gives (position 2)
length_of_two = refl

truth_stays : applied truth_of_ (one (boolean false)) span ≡ gives (boolean false)
truth_stays = refl

no_truth : applied truth_of_ (one unit) span ≡ stuck
no_truth = refl

count_stays : applied count_ (one (position 3)) span ≡ gives (position 3)
count_stays = refl

no_count : applied count_ (one unit) span ≡ stuck
no_count = refl

-- ---- positions of an array and of a map

begins_at_0 : applied first_position no_values span ≡ gives (position 0)
begins_at_0 = refl

has_1 : applied has_position (two (array (two (byte 7) (byte 8))) (position 1)) span ≡ gives (boolean true)
has_1 = refl

has_no_2 : applied has_position (two map_of_two (position 2)) span ≡ gives (boolean false)
has_no_2 = refl

element_of_array : applied element_at (two (array (two (byte 7) (byte 8))) (position 1)) span ≡ gives (byte 8)
element_of_array = refl

element_of_map : applied element_at (two map_of_two (position 1)) span ≡ gives (byte 8)
element_of_map = refl

-- a key of an array is its position
key_of_array : applied key_at (two (array (two (byte 7) (byte 8))) (position 1)) span ≡ gives (position 1)
key_of_array = refl

key_of_map : applied key_at (two map_of_two (position 0)) span ≡ gives (byte 5)
key_of_map = refl

no_element_there : applied element_at (two map_of_two (position 2)) span ≡ stuck
no_element_there = refl

-- ---- on a stream

-- bytes below `b`
class_takes_a : performed (class (λ n. nat_lt n 98)) no_values span (ab 0) ≡ parsed (byte 97) (ab 1)
class_takes_a = refl

class_refuses_a : performed (class (λ n. nat_lt 97 n)) no_values span (ab 0) ≡ failed why.Class
class_refuses_a = refl

fails_with_its_text : performed (fail 3) no_values span (ab 0) ≡ failed (why.Said 3)
fails_with_its_text = refl

no_alternative : performed no_case no_values span (ab 0) ≡ failed why.Case
no_alternative = refl

gives_the_stream : performed (primitive prim.GetStream) no_values span (ab 1) ≡ parsed (stream (ab 1)) (ab 1)
gives_the_stream = refl

takes_no_three : performed (primitive prim.Take) (two (position 3) (stream (ab 0))) span (ab 0) ≡ failed why.Take
takes_no_three = refl

-- `7 is 7` has `{}` as its content, `7 is 8` fails
guards_7 : performed (guard (pattern.Number 7)) (one (byte 7)) span (ab 0) ≡ parsed unit (ab 0)
guards_7 = refl

guards_no_8 : performed (guard (pattern.Number 8)) (one (byte 7)) span (ab 0) ≡ failed why.Guard
guards_no_8 = refl

-- 100 fits seven bits, 200 does not
fits_100 : performed (fits (to_number (Uint 7))) (one (byte 100)) span (ab 0) ≡ parsed (number (Uint 7) (pos 100)) (ab 0)
fits_100 = refl

fits_no_200 : performed (fits (to_number (Uint 7))) (one (byte 200)) span (ab 0) ≡ failed why.Fits
fits_no_200 = refl

wrong_has_no_meaning : performed wrong no_values span (ab 0) ≡ ends Stuck
wrong_has_no_meaning = refl
