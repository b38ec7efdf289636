-- The JSON of a printable value has no number with a fraction.
use Rattle.std.proofs.Common.{◌≡◌, ℕ, List, [], ◌∷◌, refl, Bool, true, false, ℤ, Ordering, Less, Equal, Greater}
use Rattle.std.specs.Prelude.{pos, negsuc, ◌||◌, if◌then◌else◌}
use Rattle.std.specs.Ordering.{nat_cmp, match_ordering}
use Rattle.std.specs.Cmp.Lexicographic.{slice_cmp}
use Rattle.serde_json.specs.Data.{Data, Items, no_items, item, Members, no_members, member, put}
use Rattle.serde_json.specs.Written.{has_float, items_have_float, members_have_float}
use Rattle.ddl_types.specs.Plain as p
use Rattle.ddl_report.specs.Names.{shown}
use Rattle.ddl_report.specs.Numbers.{integer_data}
use Rattle.ddl_report.specs.Values.{plain_data, plains_data, fields_data, entries_data}

neither : (a b : Bool) → a ≡ false → b ≡ false → (a || b) ≡ false
neither a b e f = rw (e, f)

first_false : (a b : Bool) → (a || b) ≡ false → a ≡ false
first_false true b e = e
first_false false b e = refl

second_false : (a b : Bool) → (a || b) ≡ false → b ≡ false
second_false true true e = e
second_false true false e = refl
second_false false b e = e

put_at : (o : Ordering) (a b c : Members) → members_have_float a ≡ false → members_have_float b ≡ false → members_have_float c ≡ false
    → members_have_float (match_ordering o a b c) ≡ false
put_at Less a b c e f g = e
put_at Equal a b c e f g = f
put_at Greater a b c e f g = g

put-no_float : (k : List ℕ) (d : Data) (ms : Members) → has_float d ≡ false → members_have_float ms ≡ false → members_have_float (put k d ms) ≡ false
put-no_float k d no_members e f = neither (has_float d) false e refl
put-no_float k d (member l x ms) e f =
    let rest : members_have_float ms ≡ false = second_false (has_float x) (members_have_float ms) f in
    let here : has_float x ≡ false = first_false (has_float x) (members_have_float ms) f in
    put_at (slice_cmp nat_cmp k l) _ _ _
    (neither (has_float d) _ e f)
    (neither (has_float d) _ e rest)
    (neither (has_float x) _ here (put-no_float k d ms e rest))

chosen : (b : Bool) (d e : Data) → has_float d ≡ false → has_float e ≡ false → has_float (if b then d else e) ≡ false
chosen true d e first second = first
chosen false d e first second = second

integer-no_float : (z : ℤ) → has_float (integer_data z) ≡ false
integer-no_float (pos n) = chosen (p.is_small (pos n)) _ _ refl refl
integer-no_float (negsuc n) = chosen (p.is_small (negsuc n)) _ _ refl refl

entries-no_float : (ks vs : Items) → items_have_float ks ≡ false → items_have_float vs ≡ false → items_have_float (entries_data ks vs) ≡ false
entries-no_float no_items vs e f = refl
entries-no_float (item k ks) no_items e f = refl
entries-no_float (item k ks) (item v vs) e f =
    let value = neither (has_float v) false (first_false (has_float v) _ f) refl in
    let entry = neither (has_float k) _ (first_false (has_float k) _ e) value in
    neither (has_float k || (has_float v || false)) _ entry (entries-no_float ks vs (second_false (has_float k) _ e) (second_false (has_float v) _ f))

field-no_float : (b : Bool) (k : List ℕ) (d : Data) (ms : Members) → has_float d ≡ false → members_have_float ms ≡ false
    → members_have_float (if b then ms else put k d ms) ≡ false
field-no_float true k d ms e f = f
field-no_float false k d ms e f = put-no_float k d ms e f

mutual
  pub plain-no_float : (v : p.Printable) → has_float (plain_data v) ≡ false
  plain-no_float p.unit = refl
  plain-no_float (p.bool b) = refl
  plain-no_float (p.number z) = integer-no_float z
  plain-no_float p.nothing = refl
  plain-no_float (p.just v) = neither (has_float (plain_data v)) false (plain-no_float v) refl
  plain-no_float (p.fields names vs) = fields-no_float vs names no_members refl
  plain-no_float (p.union tag v) = neither (has_float (plain_data v)) false (plain-no_float v) refl
  plain-no_float (p.array vs) = plains-no_float vs
  plain-no_float (p.entries ks vs) = neither (items_have_float (entries_data (plains_data ks) (plains_data vs))) false
      (entries-no_float (plains_data ks) (plains_data vs) (plains-no_float ks) (plains-no_float vs)) refl
  plain-no_float (p.stream in_input from to) = refl

  plains-no_float : (vs : p.Printables) → items_have_float (plains_data vs) ≡ false
  plains-no_float p.none = refl
  plains-no_float (p.one v vs) = neither (has_float (plain_data v)) _ (plain-no_float v) (plains-no_float vs)

  fields-no_float : (vs : p.Printables) (names : List (List ℕ)) (ms : Members) → members_have_float ms ≡ false
      → members_have_float (fields_data vs names ms) ≡ false
  fields-no_float p.none names ms e = e
  fields-no_float (p.one v vs) [] ms e = e
  fields-no_float (p.one v vs) (name ∷ names) ms e =
      fields-no_float vs names _ (field-no_float (p.is_hidden name) (shown name) (plain_data v) ms (plain-no_float v) e)
