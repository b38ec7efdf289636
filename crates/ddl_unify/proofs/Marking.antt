-- Which variables were read, and that none of them holds the one that is looked for.
use Rattle.std.proofs.Common.{◌≡◌, ℕ, ◌+◌, ◌<◌, List, [], ◌∷◌, refl, sym, ap, ◌∙◌, arith, inl, inr, ◌⊎◌, map, take, length, get_or, zero, suc, true, false}
use Rattle.std.proofs.Common.{◌||◌, Bool, add-one, nat_eq, eqb-true, if◌then◌else◌}
use Rattle.ddl_types.specs.declared.ty.Ty as program
use Rattle.ddl_types.specs.Types.{Head, Ty, Ty.var, Ty.con, Tys.none, Tys.more, Sub, on, tys_of}
use Rattle.ddl_types.specs.TyView.{ty_view}
use Rattle.ddl_unify.specs.declared.trail.Trail.{Trail}
use Rattle.ddl_unify.specs.Occurs.{has}
use Rattle.ddl_unify.specs.Trails.{solution}
use Rattle.ddl_unify.specs.Solving.{Marks, MarkedOne, list_has}
use Rattle.ddl_unify.proofs.ReadingLemmas.{leads_read, leads_less, unbound_read}

-- no variable is marked at first
pub marks_none : (seen : ℕ → Bool) (t : Trail) (v : ℕ) → ((n : ℕ) → seen n ≡ false) → Marks seen t v
marks_none seen t v h m e = let q = h m in absurd (let z : false ≡ true = sym q ∙ e in cc)

-- a variable that was read without the one that is looked for may be marked
pub marks_more : (seen seen2 : ℕ → Bool) (t : Trail) (v n : ℕ) → Marks seen t v → MarkedOne seen seen2 n → has (on (var n) (solution t)) v ≡ false
    → Marks seen2 t v
marks_more seen seen2 t v n k o z m e = elim (o m e) [ inl q ↦ ap (λ i. has (solution t i) v) q ∙ z | inr q ↦ k m q ]

-- one key more marks one variable more
pub marked_one : (seen seen2 : ℕ → Bool) (n : ℕ) → ((m : ℕ) → seen2 m ≡ (if nat_eq n m then true else seen m)) → MarkedOne seen seen2 n
marked_one seen seen2 n h m e = by_test (nat_eq n m) refl (sym (h m) ∙ e)
  where
    by_test : (b : Bool) → nat_eq n m ≡ b → (if b then true else seen m) ≡ true → (m ≡ n) ⊎ (seen m ≡ true)
    by_test true q e = inl (sym (eqb-true n m q))
    by_test false q e = inr e

or_false : (a : Bool) → (a || false) ≡ a
or_false true = refl
or_false false = refl

or_true : (a : Bool) → (a || true) ≡ true
or_true true = refl
or_true false = refl

pub has_one : (h : Head) (x : Ty) (f : Sub) (v : ℕ) → has (on (con h (more x none)) f) v ≡ has (on x f) v
has_one h x f v = or_false (has (on x f) v)

pub has_two : (h : Head) (x y : Ty) (f : Sub) (v : ℕ) → has (on (con h (more x (more y none))) f) v ≡ (has (on x f) v || has (on y f) v)
has_two h x y f v = ap (λ b. has (on x f) v || b) (or_false (has (on y f) v))

pub has_list : (h : Head) (ts : List Ty) (f : Sub) (v : ℕ) → has (on (con h (tys_of ts)) f) v ≡ list_has v f ts
has_list h [] f v = refl
has_list h (t ∷ ts) f v = ap (λ b. has (on t f) v || b) (has_list h ts f v)

pub list_next : (xs : List program.Ty) (i : ℕ) (x : program.Ty) (f : Sub) (v : ℕ) → i < length xs → x ≡ get_or xs i x → has (on (ty_view x) f) v ≡ false
    → list_has v f (map ty_view (take (i + 1) xs)) ≡ list_has v f (map ty_view (take i xs))
list_next xs i x f v h e z = rw (add-one i) (by_suc xs i h e)
  where
    by_suc : (xs : List program.Ty) (i : ℕ) → i < length xs → x ≡ get_or xs i x
        → list_has v f (map ty_view (take (suc i) xs)) ≡ list_has v f (map ty_view (take i xs))
    by_suc [] i h e = absurd (omega arith)
    by_suc (y ∷ xs) zero h e = ap (λ b. b || false) (sym (ap (λ (q : program.Ty). has (on (ty_view q) f) v) e) ∙ z)
    by_suc (y ∷ xs) (suc i) h e = ap (λ b. has (on (ty_view y) f) v || b) (by_suc xs i (omega arith) e)

pub list_found : (xs : List program.Ty) (i : ℕ) (x : program.Ty) (f : Sub) (v : ℕ) → i < length xs → x ≡ get_or xs i x → has (on (ty_view x) f) v ≡ true
    → list_has v f (map ty_view xs) ≡ true
list_found [] i x f v h e z = absurd (omega arith)
list_found (y ∷ xs) zero x f v h e z = ap (λ b. b || list_has v f (map ty_view xs)) (sym (ap (λ (q : program.Ty). has (on (ty_view q) f) v) e) ∙ z)
list_found (y ∷ xs) (suc i) x f v h e z = ap (λ b. has (on (ty_view y) f) v || b) (list_found xs i x f v (omega arith) e z) ∙ or_true (has (on (ty_view y) f) v)

pub ruleset markings = (marks_none)

pub ruleset standings = (marks_more, has_one, has_two, has_list, list_next, list_found, leads_read, leads_less, unbound_read)
