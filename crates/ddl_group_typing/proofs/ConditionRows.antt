-- Worked rows: each condition where it holds, where it is false, and where it is kept or left.
use Rattle.std.proofs.Common.{arith, ◌≡◌, ℕ, [], ◌∷◌, Bool, true, false, Some, None, refl, inl, inr}
use Rattle.std.specs.Prelude.{codes}
use Rattle.ddl_types.specs.Types.{Ty, var, con, none, more, int, uint, sint, bool, unit, array_of, map_of, bits, place}
use Rattle.ddl_types.specs.Conditions.{num, word, lit, key, lossless, cut, fit, cat, field, tag, loops}
use Rattle.ddl_judging.specs.declared.refusal.Wanted.TheVariants as w
use Rattle.ddl_judging.specs.Demands.{Asked, Demand, condition, make, gather}
use Rattle.ddl_judging.specs.Judging.{Judged, holds, undecided, false_for, not_number, not_lossless, no_field, literal_range, width_range, gap, IsUnknown}
use Rattle.ddl_judging.specs.Shapes.{Shapes}
use Rattle.ddl_conditions.specs.Growing.{Group}
use Rattle.ddl_conditions.specs.InDemand.{InType}
use Rattle.ddl_conditions.specs.Settled.{IsKept, IsLeft}
use Rattle.ddl_conditions.specs.Standing.{Shows, Stands}

-- place 0 is a record with the field `x`, place 1 a union with the tag `t`; bitdata 0 is 8 bits wide, written with `=`, and
-- covered; bitdata 1 is 4 bits wide, with the tag `t`, and 3 fits none of its constructors
abbrev shapes : Shapes
shapes = record {
  places = record { vars = 0; tagged = false; names = codes "x" ∷ []; types = con int none ∷ [] } ∷ record {
    vars = 0;
    tagged = true;
    names =
        codes "t" ∷ [];
    types = con unit none ∷ [];
  } ∷ [];
  bitdata = record { width = 8; gap = None; shape = record { vars = 0; tagged = false; names = codes "y" ∷ []; types = con (uint 8) none ∷ [] } }
      ∷ record { width = 4; gap = Some 3; shape = record { vars = 0; tagged = true; names = codes "t" ∷ []; types = con unit none ∷ [] } } ∷ [];
}

abbrev Holds : Demand → Type 0
Holds d = Judged shapes d holds

abbrev IsOpen : Demand → Type 0
IsOpen d = Judged shapes d undecided

abbrev byte : Ty
byte = con (uint 8) none

abbrev truth : Ty
truth = con bool none

abbrev whole : Ty
whole = con int none

-- ---- numbers and words

num_holds : Holds (condition (num (con (sint 7) none)))
num_holds = refl

num_false : Judged shapes (condition (num truth)) (false_for (not_number truth w.Number))
num_false = refl

num_open : IsOpen (condition (num (var 0)))
num_open = refl

word_holds : Holds (condition (word byte))
word_holds = refl

word_false : Judged shapes (condition (word whole)) (false_for (not_number whole w.Word))
word_false = refl

lit_holds : Holds (condition (lit 127 (con (sint 8) none)))
lit_holds = refl

lit_false : Judged shapes (condition (lit 128 (con (sint 8) none))) (false_for (literal_range 128 (con (sint 8) none)))
lit_false = refl

lit_of_truth : Judged shapes (condition (lit 1 truth)) (false_for (literal_range 1 truth))
lit_of_truth = refl

-- ---- keys

key_holds : Holds (condition (key (con array_of (more (var 0) none))))
key_holds = refl

key_false : Judged shapes (condition (key (con unit none))) (false_for (not_number (con unit none) w.Key))
key_false = refl

-- ---- casts

wider : Holds (condition (lossless byte (con (sint 9) none)))
wider = refl

too_narrow : Judged shapes (condition (lossless byte (con (sint 8) none))) (false_for (not_lossless byte (con (sint 8) none)))
too_narrow = refl

into_int : Holds (condition (lossless (con (uint 127) none) whole))
into_int = refl

not_into_int : Judged shapes (condition (lossless (con (uint 128) none) whole)) (false_for (not_lossless (con (uint 128) none) whole))
not_into_int = refl

covered : Holds (condition (lossless byte (con (bits 0) none)))
covered = refl

uncovered : Judged shapes (condition (lossless (con (uint 4) none) (con (bits 1) none))) (false_for (gap 3))
uncovered = refl

itself : Holds (condition (lossless (var 0) (var 0)))
itself = IsUnknown.itself refl

cut_holds : Holds (condition (cut (con (bits 1) none) (con (sint 2) none)))
cut_holds = refl

cut_false : Judged shapes (condition (cut byte (con (bits 0) none))) (false_for (not_lossless byte (con (bits 0) none)))
cut_false = refl

fit_holds : Holds (condition (fit byte (con (bits 0) none)))
fit_holds = refl

fit_false : Judged shapes (condition (fit (con (uint 7) none) (con (bits 0) none))) (false_for (not_lossless (con (uint 7) none) (con (bits 0) none)))
fit_false = refl

fit_open : IsOpen (condition (fit byte (var 0)))
fit_open = refl

-- ---- words side by side

cat_holds : Holds (condition (cat (con (uint 64) none) (con (uint 64) none) (var 0)))
cat_holds = refl

cat_too_wide : Judged shapes (condition (cat (con (uint 64) none) (con (uint 65) none) (var 0))) (false_for (width_range 129))
cat_too_wide = refl

-- of two parts that are none, the left one is told
cat_left_first : Judged shapes (condition (cat truth whole (var 0))) (false_for (not_number truth w.Word))
cat_left_first = refl

cat_open : IsOpen (condition (cat byte (var 0) (var 1)))
cat_open = refl

-- ---- fields and tags

field_holds : Holds (condition (field (con (place 0) none) (codes "x") (var 0)))
field_holds = refl

field_of_bits : Holds (condition (field (con (bits 0) none) (codes "y") (var 0)))
field_of_bits = refl

field_of_union : Judged shapes (condition (field (con (place 1) none) (codes "t") (var 0))) (false_for (no_field (codes "t") (con (place 1) none)))
field_of_union = refl

tag_holds : Holds (condition (tag (con (bits 1) none) (codes "t") (var 0)))
tag_holds = refl

tag_of_record : Judged shapes (condition (tag (con (place 0) none) (codes "x") (var 0))) (false_for (no_field (codes "x") (con (place 0) none)))
tag_of_record = refl

-- a union form makes no bitdata
made_bits : Judged shapes (make (con (bits 1) none) (codes "t") (var 0)) (false_for (no_field (codes "t") (con (bits 1) none)))
made_bits = refl

-- ---- loops

loops_over_map : Holds (condition (loops (con map_of (more byte (more truth none))) (var 0) (var 1)))
loops_over_map = refl

loops_over_number : Judged shapes (condition (loops byte (var 0) (var 1))) (false_for (not_number byte w.Loop))
loops_over_number = refl

gather_open : IsOpen (gather (var 0) (var 1) (var 2) (var 3) (var 4))
gather_open = refl

-- ---- demands that hold, are false or are open, where none of these rows says so above

word_open : IsOpen (condition (word (var 0)))
word_open = refl

lit_open : IsOpen (condition (lit 1 (var 0)))
lit_open = refl

key_open : IsOpen (condition (key (var 0)))
key_open = refl

-- a cast waits for both types
lossless_open : IsOpen (condition (lossless (var 0) byte))
lossless_open = IsUnknown.unknown (λ e. let q : var 0 ≡ byte = e in absurd (cc))

cut_open : IsOpen (condition (cut (var 0) byte))
cut_open = refl

field_open : IsOpen (condition (field (var 0) (codes "x") (var 1)))
field_open = refl

tag_open : IsOpen (condition (tag (var 0) (codes "t") (var 1)))
tag_open = refl

made_union : Holds (make (con (place 1) none) (codes "t") (var 0))
made_union = refl

made_record : Judged shapes (make (con (place 0) none) (codes "x") (var 0)) (false_for (no_field (codes "x") (con (place 0) none)))
made_record = refl

made_open : IsOpen (make (var 0) (codes "t") (var 1))
made_open = refl

loops_open : IsOpen (condition (loops (var 0) (var 1) (var 2)))
loops_open = refl

gather_holds : Holds (gather (con array_of (more byte none)) (var 0) (var 1) (var 2) (var 3))
gather_holds = refl

gather_false : Judged shapes (gather truth (var 0) (var 1) (var 2) (var 3)) (false_for (not_number truth w.Loop))
gather_false = refl

-- ---- kept and left: in a group whose one type is `?0`

abbrev group : Bool → Group
group with_parameters = record { shapes = shapes; asked = []; roots = var 0 ∷ []; with_parameters = with_parameters }

abbrev asked : Demand → Asked
asked d = record { what = d; span = record { «module» = 0; from = 0; to = 1 } }

-- the variable of the type itself stands there
stands : (v : ℕ) → InType v (var 0) → Stands shapes (var 0 ∷ []) var v
stands v e = record { where_ = var 0; shown = Shows.root (0, omega arith, refl); there = e }

-- a type without variables has none that would have to
no_variable : {A : Type 0} → false ≡ true → A
no_variable e = let q : false ≡ true = e in absurd (cc)

-- each of seven conditions on `?0` is kept, where each declaration has parameters

num_kept : IsKept (group true) var (asked (condition (num (var 0))))
num_kept = record { neither = refl; form = refl; with_parameters = refl; stand = stands }

word_kept : IsKept (group true) var (asked (condition (word (var 0))))
word_kept = record { neither = refl; form = refl; with_parameters = refl; stand = stands }

lit_kept : IsKept (group true) var (asked (condition (lit 1 (var 0))))
lit_kept = record { neither = refl; form = refl; with_parameters = refl; stand = stands }

key_kept : IsKept (group true) var (asked (condition (key (var 0))))
key_kept = record { neither = refl; form = refl; with_parameters = refl; stand = stands }

lossless_kept : IsKept (group true) var (asked (condition (lossless (var 0) byte)))
lossless_kept = record {
  neither = lossless_open;
  form = refl;
  with_parameters = refl;
  stand = λ v e. elim e [ inl p ↦ stands v p | inr q ↦ no_variable q ];
}

cut_kept : IsKept (group true) var (asked (condition (cut (var 0) byte)))
cut_kept = record { neither = refl; form = refl; with_parameters = refl; stand = λ v e. elim e [ inl p ↦ stands v p | inr q ↦ no_variable q ] }

fit_kept : IsKept (group true) var (asked (condition (fit byte (var 0))))
fit_kept = record { neither = refl; form = refl; with_parameters = refl; stand = λ v e. elim e [ inl p ↦ no_variable p | inr q ↦ stands v q ] }

-- and left, where one has none

num_left : IsLeft (group false) var (asked (condition (num (var 0))))
num_left = record { neither = refl; unkept = λ h. no_variable h.with_parameters }

word_left : IsLeft (group false) var (asked (condition (word (var 0))))
word_left = record { neither = refl; unkept = λ h. no_variable h.with_parameters }

lit_left : IsLeft (group false) var (asked (condition (lit 1 (var 0))))
lit_left = record { neither = refl; unkept = λ h. no_variable h.with_parameters }

key_left : IsLeft (group false) var (asked (condition (key (var 0))))
key_left = record { neither = refl; unkept = λ h. no_variable h.with_parameters }

lossless_left : IsLeft (group false) var (asked (condition (lossless (var 0) byte)))
lossless_left = record { neither = lossless_open; unkept = λ h. no_variable h.with_parameters }

cut_left : IsLeft (group false) var (asked (condition (cut (var 0) byte)))
cut_left = record { neither = refl; unkept = λ h. no_variable h.with_parameters }

fit_left : IsLeft (group false) var (asked (condition (fit byte (var 0))))
fit_left = record { neither = refl; unkept = λ h. no_variable h.with_parameters }

-- the other demands are never kept

cat_left : IsLeft (group true) var (asked (condition (cat byte (var 0) (var 0))))
cat_left = record { neither = refl; unkept = λ h. no_variable h.form }

field_left : IsLeft (group true) var (asked (condition (field (var 0) (codes "x") (var 0))))
field_left = record { neither = refl; unkept = λ h. no_variable h.form }

tag_left : IsLeft (group true) var (asked (condition (tag (var 0) (codes "t") (var 0))))
tag_left = record { neither = refl; unkept = λ h. no_variable h.form }

loops_left : IsLeft (group true) var (asked (condition (loops (var 0) (var 0) (var 0))))
loops_left = record { neither = refl; unkept = λ h. no_variable h.form }

make_left : IsLeft (group true) var (asked (make (var 0) (codes "t") (var 0)))
make_left = record { neither = refl; unkept = λ h. no_variable h.form }

gather_left : IsLeft (group true) var (asked (gather (var 0) (var 0) (var 0) (var 0) (var 0)))
gather_left = record { neither = refl; unkept = λ h. no_variable h.form }
