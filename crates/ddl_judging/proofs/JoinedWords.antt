-- When two types can be joined.
use Rattle.std.proofs.Common.{◌≡◌, ℕ, refl, true, false}
use Rattle.ddl_types.specs.Types.{Ty, Ty.var, Ty.con, Tys, Head, Head.int, Head.uint, Head.sint, Head.bool, Head.unit, Head.stream, Head.maybe_of}
use Rattle.ddl_types.specs.Types.{Head.array_of, Head.map_of, Head.bits, Head.place}
use Rattle.ddl_judging.specs.declared.refusal.Wanted.TheVariants as w
use Rattle.ddl_judging.specs.Known.{is_known}
use Rattle.ddl_judging.specs.Judging.{undecided, false_for, not_number, word_type, joined}

-- nothing is known of a type with one that is not known
joined_var : (a : Ty) (v : ℕ) → joined a (var v) ≡ undecided
joined_var (var u) v = refl
joined_var (con int ts) v = refl
joined_var (con (uint m) ts) v = refl
joined_var (con (sint m) ts) v = refl
joined_var (con bool ts) v = refl
joined_var (con unit ts) v = refl
joined_var (con stream ts) v = refl
joined_var (con maybe_of ts) v = refl
joined_var (con array_of ts) v = refl
joined_var (con map_of ts) v = refl
joined_var (con (bits b) ts) v = refl
joined_var (con (place p) ts) v = refl

-- of two types that are known, the first that is no `uint` is told
joined_not : (a : Ty) (k : Head) (ts : Tys) → word_type a ≡ false_for (not_number a w.Word) → joined a (con k ts) ≡ false_for (not_number a w.Word)
joined_not (var u) k ts e = cc
joined_not (con int us) k ts e = refl
joined_not (con (uint m) us) k ts e = cc
joined_not (con (sint m) us) k ts e = refl
joined_not (con bool us) k ts e = refl
joined_not (con unit us) k ts e = refl
joined_not (con stream us) k ts e = refl
joined_not (con maybe_of us) k ts e = refl
joined_not (con array_of us) k ts e = refl
joined_not (con map_of us) k ts e = refl
joined_not (con (bits b) us) k ts e = refl
joined_not (con (place p) us) k ts e = refl

pub joined_unknown : (a b : Ty) → is_known b ≡ false → joined a b ≡ undecided
joined_unknown a (var v) e = joined_var a v
joined_unknown a (con k ts) e = cc

pub joined_known : (a b : Ty) → word_type a ≡ false_for (not_number a w.Word) → is_known b ≡ true → joined a b ≡ false_for (not_number a w.Word)
joined_known a (var v) e k = cc
joined_known a (con h ts) e k = joined_not a h ts e
