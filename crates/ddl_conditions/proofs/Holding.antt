-- The variables of a type as it is written.
use Rattle.std.proofs.Common.{◌≡◌, ℕ, ◌+◌, ◌<◌, List, [], ◌∷◌, refl, sym, ap, ◌∙◌, arith, zero, suc, map, take, length, get_or, true, false, ◌||◌, Bool}
use Rattle.std.proofs.Common.{add-one}
use Rattle.ddl_types.specs.declared.ty.Ty as program
use Rattle.ddl_types.specs.Types.{Head, Ty, Ty.con, Tys.none, Tys.more, tys_of}
use Rattle.ddl_types.specs.TyView.{ty_view}
use Rattle.ddl_unify.specs.Occurs.{has, has_all}

or_false : (a : Bool) → (a || false) ≡ a
or_false true = refl
or_false false = refl

or_true : (a : Bool) → (a || true) ≡ true
or_true true = refl
or_true false = refl

or_same : (a b c : Bool) → (a || (b || c)) ≡ ((a || b) || c)
or_same true b c = refl
or_same false b c = refl

pub holds_one : (h : Head) (x : Ty) (v : ℕ) → has (con h (more x none)) v ≡ has x v
holds_one h x v = or_false (has x v)

pub holds_two : (h : Head) (x y : Ty) (v : ℕ) → has (con h (more x (more y none))) v ≡ (has x v || has y v)
holds_two h x y v = ap (λ b. has x v || b) (or_false (has y v))

-- a variable of one part of a list stands in the list
pub holds_in : (xs : List program.Ty) (i : ℕ) (x : program.Ty) (v : ℕ) → i < length xs → x ≡ get_or xs i x → has (ty_view x) v ≡ true
    → has_all (tys_of (map ty_view xs)) v ≡ true
holds_in [] i x v h e z = absurd (omega arith)
holds_in (y ∷ xs) zero x v h e z = ap (λ b. b || has_all (tys_of (map ty_view xs)) v) (sym (ap (λ (q : program.Ty). has (ty_view q) v) e) ∙ z)
holds_in (y ∷ xs) (suc i) x v h e z = ap (λ b. has (ty_view y) v || b) (holds_in xs i x v (omega arith) e z) ∙ or_true (has (ty_view y) v)

-- the variables of one part more
pub holds_next : (xs : List program.Ty) (i : ℕ) (x : program.Ty) (v : ℕ) → i < length xs → x ≡ get_or xs i x
    → has_all (tys_of (map ty_view (take (i + 1) xs))) v ≡ (has_all (tys_of (map ty_view (take i xs))) v || has (ty_view x) v)
holds_next xs i x v h e = rw (add-one i) (by_suc xs i h e)
  where
    by_suc : (xs : List program.Ty) (i : ℕ) → i < length xs → x ≡ get_or xs i x
        → has_all (tys_of (map ty_view (take (suc i) xs))) v ≡ (has_all (tys_of (map ty_view (take i xs))) v || has (ty_view x) v)
    by_suc [] i h e = absurd (omega arith)
    by_suc (y ∷ xs) zero h e = or_false (has (ty_view y) v) ∙ sym (ap (λ (q : program.Ty). has (ty_view q) v) e)
    by_suc (y ∷ xs) (suc i) h e = ap (λ b. has (ty_view y) v || b) (by_suc xs i (omega arith) e)
        ∙ or_same (has (ty_view y) v) (has_all (tys_of (map ty_view (take i xs))) v) (has (ty_view x) v)

pub ruleset holdings = (holds_one, holds_two, holds_in, holds_next)
