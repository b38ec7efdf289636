-- A demand that holds still holds where variables of its types are replaced.
use Rattle.std.proofs.Common.{◌≡◌, ℕ, refl, ap, Bool, true, false, nat_le, Option, Some, None, List, subst, arith}
use Rattle.ddl_types.specs.Types.{Ty, Ty.var, Ty.con, Tys, Sub, on, on_all, Head, Head.int, Head.uint, Head.sint, Head.bool, Head.unit, Head.stream}
use Rattle.ddl_types.specs.Types.{Head.maybe_of, Head.array_of, Head.map_of, Head.bits, Head.place}
use Rattle.ddl_types.specs.Conditions.{num, word, lit, key, lossless, cut, fit, cat, field, tag, loops}
use Rattle.ddl_judging.specs.Demands.{Demand, condition, make, gather, on_demand}
use Rattle.ddl_judging.specs.Judging.{Casting, keeps, loses, has_gap, if_equal, if_keeps, casting, can_cut, can_fit, IsCast, same}
use Rattle.ddl_judging.specs.Judging.{IsLossless, itself, Judged, holds, undecided, false_for, Wrong, not_lossless}
use Rattle.ddl_judging.specs.Judging.{literal_range, if_true, if_member, number, word_type, literal, comparable, cutting, fitting}
use Rattle.ddl_judging.specs.Judging.{joined, has_field, has_tag, makes, looped}
use Rattle.ddl_judging.specs.Shapes.{Shapes, found, place_at, bits_at}

-- ---- verdicts that are not `holds`

pub no_verdict : {A : Type 0} {why : Wrong} → holds ≡ false_for why → A
no_verdict {why = why} e = let q : holds ≡ false_for why = e in absurd (cc)

pub no_decision : {A : Type 0} → holds ≡ undecided → A
no_decision e = let q : holds ≡ undecided = e in absurd (cc)

true_stays : (b : Bool) (x y : Wrong) → holds ≡ if_true b x → holds ≡ if_true b y
true_stays true x y e = refl
true_stays false x y e = no_verdict e

member_stays : (o : Option Ty) (x : List ℕ) (t u : Ty) → holds ≡ if_member o x t → holds ≡ if_member o x u
member_stays None x t u e = no_verdict e
member_stays (Some r) x t u e = refl

-- ---- one type

number_stays : (t : Ty) (f : Sub) → holds ≡ number t → holds ≡ number (on t f)
number_stays (var v) f e = no_decision e
number_stays (con int us) f e = refl
number_stays (con (uint m) us) f e = refl
number_stays (con (sint m) us) f e = refl
number_stays (con h us) f e = no_verdict e

word_stays : (t : Ty) (f : Sub) → holds ≡ word_type t → holds ≡ word_type (on t f)
word_stays (var v) f e = no_decision e
word_stays (con (uint m) us) f e = refl
word_stays (con h us) f e = no_verdict e

literal_stays : (n : ℕ) (t : Ty) (f : Sub) → holds ≡ literal n t → holds ≡ literal n (on t f)
literal_stays n (var v) f e = no_decision e
literal_stays n (con int us) f e = true_stays _ (literal_range n (con int us)) (literal_range n (con int (on_all us f))) e
literal_stays n (con (uint m) us) f e = true_stays _ (literal_range n (con (uint m) us)) (literal_range n (con (uint m) (on_all us f))) e
literal_stays n (con (sint m) us) f e = true_stays _ (literal_range n (con (sint m) us)) (literal_range n (con (sint m) (on_all us f))) e
literal_stays n (con h us) f e = no_verdict e

key_stays : (t : Ty) (f : Sub) → holds ≡ comparable t → holds ≡ comparable (on t f)
key_stays (var v) f e = no_decision e
key_stays (con int us) f e = refl
key_stays (con (uint m) us) f e = refl
key_stays (con (sint m) us) f e = refl
key_stays (con bool us) f e = refl
key_stays (con array_of us) f e = refl
key_stays (con h us) f e = no_verdict e

loop_stays : (t : Ty) (f : Sub) → holds ≡ looped t → holds ≡ looped (on t f)
loop_stays (var v) f e = no_decision e
loop_stays (con array_of us) f e = refl
loop_stays (con map_of us) f e = refl
loop_stays (con h us) f e = no_verdict e

-- ---- members

field_stays : (ss : Shapes) (x : List ℕ) (t : Ty) (f : Sub) → holds ≡ has_field ss x t → holds ≡ has_field ss x (on t f)
field_stays ss x (var v) f e = no_decision e
field_stays ss x (con (place p) us) f e = member_stays (found false x (place_at ss.places p)) x (con (place p) us) (con (place p) (on_all us f)) e
field_stays ss x (con (bits b) us) f e = member_stays (found false x (bits_at ss.bitdata b).shape) x (con (bits b) us) (con (bits b) (on_all us f)) e
field_stays ss x (con h us) f e = no_verdict e

tag_stays : (ss : Shapes) (x : List ℕ) (t : Ty) (f : Sub) → holds ≡ has_tag ss x t → holds ≡ has_tag ss x (on t f)
tag_stays ss x (var v) f e = no_decision e
tag_stays ss x (con (place p) us) f e = member_stays (found true x (place_at ss.places p)) x (con (place p) us) (con (place p) (on_all us f)) e
tag_stays ss x (con (bits b) us) f e = member_stays (found true x (bits_at ss.bitdata b).shape) x (con (bits b) us) (con (bits b) (on_all us f)) e
tag_stays ss x (con h us) f e = no_verdict e

make_stays : (ss : Shapes) (x : List ℕ) (t : Ty) (f : Sub) → holds ≡ makes ss x t → holds ≡ makes ss x (on t f)
make_stays ss x (var v) f e = no_decision e
make_stays ss x (con (place p) us) f e = member_stays (found true x (place_at ss.places p)) x (con (place p) us) (con (place p) (on_all us f)) e
make_stays ss x (con h us) f e = no_verdict e

-- ---- two types

cut_stays : (s t : Ty) (f : Sub) → holds ≡ cutting s t → holds ≡ cutting (on s f) (on t f)
cut_stays (con h us) (con k vs) f e = true_stays (can_cut h k) (not_lossless (con h us) (con k vs)) (not_lossless (con h (on_all us f)) (con k (on_all vs f))) e
cut_stays (con h us) (var v) f e = no_decision e
cut_stays (var v) t f e = no_decision e

fit_stays : (ss : Shapes) (s t : Ty) (f : Sub) → holds ≡ fitting ss s t → holds ≡ fitting ss (on s f) (on t f)
fit_stays ss (con h us) (con k vs) f e = true_stays (can_fit ss h k) (not_lossless (con h us) (con k vs))
    (not_lossless (con h (on_all us f)) (con k (on_all vs f))) e
fit_stays ss (con h us) (var v) f e = no_decision e
fit_stays ss (var v) t f e = no_decision e

joined_stays : (s t : Ty) (f : Sub) → holds ≡ joined s t → holds ≡ joined (on s f) (on t f)
joined_stays (con (uint m) us) (con (uint n) vs) f e = e
joined_stays (con (uint m) us) (con h vs) f e = no_verdict e
joined_stays (con (uint m) us) (var v) f e = no_decision e
joined_stays (con h us) (con k vs) f e = no_verdict e
joined_stays (con h us) (var v) f e = no_decision e
joined_stays (var v) t f e = no_decision e

-- ---- casts

keeps_itself : (n : ℕ) (us : Tys) (h : Head) → IsCast (if_keeps (nat_le n n)) (con h us) (con h us) holds
keeps_itself n us h = let P : Bool → Type 0 = λ b. IsCast (if_keeps b) (con h us) (con h us) holds in let q : true ≡ nat_le n n = search arith in subst P q refl

to_itself : (ss : Shapes) (t : Ty) → IsLossless ss t t holds
to_itself ss (var v) = itself refl
to_itself ss (con (uint m) us) = keeps_itself m us (uint m)
to_itself ss (con (sint m) us) = keeps_itself m us (sint m)
to_itself ss (con int us) = same refl
to_itself ss (con bool us) = same refl
to_itself ss (con unit us) = same refl
to_itself ss (con stream us) = same refl
to_itself ss (con maybe_of us) = same refl
to_itself ss (con array_of us) = same refl
to_itself ss (con map_of us) = same refl
to_itself ss (con (bits b) us) = same refl
to_itself ss (con (place p) us) = same refl

equal_lossless : (ss : Shapes) (s t : Ty) → s ≡ t → IsLossless ss s t holds
equal_lossless ss s t e = let P : Ty → Type 0 = λ x. IsLossless ss s x holds in subst P e (to_itself ss s)

cast_stays : (c : Casting) (s t x y : Ty) → (s ≡ t → x ≡ y) → IsCast c s t holds → IsCast c x y holds
cast_stays keeps s t x y e h = refl
cast_stays loses s t x y e h = no_verdict h
cast_stays (has_gap n) s t x y e h = no_verdict h
cast_stays if_equal s t x y e (same q) = same (e q)

lossless_stays : (ss : Shapes) (s t : Ty) (f : Sub) → IsLossless ss s t holds → IsLossless ss (on s f) (on t f) holds
lossless_stays ss (con h us) (con k vs) f e =
    cast_stays (casting ss h k) (con h us) (con k vs) (con h (on_all us f)) (con k (on_all vs f)) (λ q. ap (λ x. on x f) q) e
lossless_stays ss (con h us) (var v) f (itself q) = equal_lossless ss (on (con h us) f) (on (var v) f) (ap (λ x. on x f) q)
lossless_stays ss (var v) t f (itself q) = equal_lossless ss (on (var v) f) (on t f) (ap (λ x. on x f) q)

-- ---- demands

pub judged_stays : (ss : Shapes) (d : Demand) (f : Sub) → Judged ss d holds → Judged ss (on_demand f d) holds
judged_stays ss (condition (num t)) f e = number_stays t f e
judged_stays ss (condition (word t)) f e = word_stays t f e
judged_stays ss (condition (lit n t)) f e = literal_stays n t f e
judged_stays ss (condition (key t)) f e = key_stays t f e
judged_stays ss (condition (lossless s t)) f e = lossless_stays ss s t f e
judged_stays ss (condition (cut s t)) f e = cut_stays s t f e
judged_stays ss (condition (fit s t)) f e = fit_stays ss s t f e
judged_stays ss (condition (cat a b r)) f e = joined_stays a b f e
judged_stays ss (condition (field t x r)) f e = field_stays ss x t f e
judged_stays ss (condition (tag t x r)) f e = tag_stays ss x t f e
judged_stays ss (condition (loops t k u)) f e = loop_stays t f e
judged_stays ss (make t x r) f e = make_stays ss x t f e
judged_stays ss (gather t k u b r) f e = loop_stays t f e
