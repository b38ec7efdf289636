-- Which casts there are.
use Rattle.std.proofs.Common.{◌≡◌, ℕ, Bool, true, false, ◌&&◌, ◌||◌, if◌then◌else◌, refl, ap}
use Rattle.ddl_types.specs.Types.{Ty, Ty.var, Ty.con, Tys, Head, Head.int, Head.uint, Head.sint, Head.bool, Head.unit, Head.stream, Head.maybe_of}
use Rattle.ddl_types.specs.Types.{Head.array_of, Head.map_of, Head.bits, Head.place}
use Rattle.ddl_judging.specs.Casts.{casting_to, bits_type, number_type, is_wide, is_filled}
use Rattle.ddl_judging.specs.Judging.{if_equal, if_true, undecided, not_lossless, cutting, fitting, can_cut, can_fit, has_bits, is_number}
use Rattle.ddl_judging.specs.Known.{is_known}
use Rattle.ddl_judging.specs.Shapes.{Shapes}

-- heads of which the table says nothing
pub silent_bool : (ss : Shapes) (t : Ty) → casting_to ss bool t ≡ if_equal
silent_bool ss (var v) = refl
silent_bool ss (con k ts) = refl

pub silent_unit : (ss : Shapes) (t : Ty) → casting_to ss unit t ≡ if_equal
silent_unit ss (var v) = refl
silent_unit ss (con k ts) = refl

pub silent_stream : (ss : Shapes) (t : Ty) → casting_to ss stream t ≡ if_equal
silent_stream ss (var v) = refl
silent_stream ss (con k ts) = refl

pub silent_maybe : (ss : Shapes) (t : Ty) → casting_to ss maybe_of t ≡ if_equal
silent_maybe ss (var v) = refl
silent_maybe ss (con k ts) = refl

pub silent_array : (ss : Shapes) (t : Ty) → casting_to ss array_of t ≡ if_equal
silent_array ss (var v) = refl
silent_array ss (con k ts) = refl

pub silent_map : (ss : Shapes) (t : Ty) → casting_to ss map_of t ≡ if_equal
silent_map ss (var v) = refl
silent_map ss (con k ts) = refl

pub silent_place : (ss : Shapes) (p : ℕ) (t : Ty) → casting_to ss (place p) t ≡ if_equal
silent_place ss p (var v) = refl
silent_place ss p (con k ts) = refl

pub ruleset silent = (silent_bool, silent_unit, silent_stream, silent_maybe, silent_array, silent_map, silent_place)

-- nothing is known of a cast as long as one type is not known
pub cutting_from : (s t : Ty) → is_known s ≡ false → cutting s t ≡ undecided
cutting_from (var v) t e = refl
cutting_from (con h us) t e = cc

pub cutting_into : (s t : Ty) → is_known t ≡ false → cutting s t ≡ undecided
cutting_into (var v) t e = refl
cutting_into (con h us) (var v) e = refl
cutting_into (con h us) (con k ts) e = cc

pub fitting_from : (ss : Shapes) (s t : Ty) → is_known s ≡ false → fitting ss s t ≡ undecided
fitting_from ss (var v) t e = refl
fitting_from ss (con h us) t e = cc

pub fitting_into : (ss : Shapes) (s t : Ty) → is_known t ≡ false → fitting ss s t ≡ undecided
fitting_into ss (var v) t e = refl
fitting_into ss (con h us) (var v) e = refl
fitting_into ss (con h us) (con k ts) e = cc

cut_is : (h k : Head) → can_cut h k ≡ (has_bits h && is_number k)
cut_is h k = by_bits (has_bits h)
  where
    by_bits : (b : Bool) → (if b then is_number k else false) ≡ (b && is_number k)
    by_bits true = refl
    by_bits false = refl

pub cutting_is : (s t : Ty) → is_known s ≡ true → is_known t ≡ true → cutting s t ≡ if_true (bits_type s && number_type t) (not_lossless s t)
cutting_is (var v) t e d = cc
cutting_is (con h us) (var v) e d = cc
cutting_is (con h us) (con k ts) e d = ap (λ b. if_true b (not_lossless (con h us) (con k ts))) (cut_is h k)

or_false : (b : Bool) → b ≡ (b || false)
or_false true = refl
or_false false = refl

fit_is : (ss : Shapes) (h k : Head) (us ts : Tys) → can_fit ss h k ≡ (is_filled ss (con h us) (con k ts) || (has_bits h && is_number k))
fit_is ss int k us ts = cut_is int k
fit_is ss (sint m) k us ts = cut_is (sint m) k
fit_is ss bool k us ts = cut_is bool k
fit_is ss unit k us ts = cut_is unit k
fit_is ss stream k us ts = cut_is stream k
fit_is ss maybe_of k us ts = cut_is maybe_of k
fit_is ss array_of k us ts = cut_is array_of k
fit_is ss map_of k us ts = cut_is map_of k
fit_is ss (bits b) k us ts = cut_is (bits b) k
fit_is ss (place p) k us ts = cut_is (place p) k
fit_is ss (uint m) int us ts = refl
fit_is ss (uint m) (uint n) us ts = refl
fit_is ss (uint m) (sint n) us ts = refl
fit_is ss (uint m) bool us ts = refl
fit_is ss (uint m) unit us ts = refl
fit_is ss (uint m) stream us ts = refl
fit_is ss (uint m) maybe_of us ts = refl
fit_is ss (uint m) array_of us ts = refl
fit_is ss (uint m) map_of us ts = refl
fit_is ss (uint m) (place p) us ts = refl
fit_is ss (uint m) (bits b) us ts = or_false (is_wide ss m (con (bits b) ts))

pub fitting_is : (ss : Shapes) (s t : Ty) → is_known s ≡ true → is_known t ≡ true
    → fitting ss s t ≡ if_true (is_filled ss s t || (bits_type s && number_type t)) (not_lossless s t)
fitting_is ss (var v) t e d = cc
fitting_is ss (con h us) (var v) e d = cc
fitting_is ss (con h us) (con k ts) e d = ap (λ b. if_true b (not_lossless (con h us) (con k ts))) (fit_is ss h k us ts)

pub ruleset cuttings = (cutting_from, cutting_into, cutting_is)

pub ruleset fittings = (fitting_from, fitting_into, fitting_is)
