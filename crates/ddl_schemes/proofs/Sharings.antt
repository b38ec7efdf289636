-- Types as they are seen from other groups.
use Rattle.std.proofs.Common.{◌≡◌, ℕ, zero, suc, ◌+◌, List, [], ◌∷◌, ◌++◌, Bool, true, false, map, length, nat_le, if◌then◌else◌, refl, ap, ◌∙◌, arith}
use Rattle.ddl_types.specs.declared.ty.Ty as program
use Rattle.ddl_types.specs.Types.{Ty, Ty.var, Ty.con, Tys, Tys.none, Tys.more, Sub, Head.place, tys_of}
use Rattle.ddl_types.specs.TyView.{ty_view}
use Rattle.ddl_types.specs.Conditions.{Condition, num, on_condition, with_types}
use Rattle.ddl_judging.specs.Shapes.{fresh}
use Rattle.ddl_schemes.specs.Renaming.{renaming, seen, shared, shared_all, shared_condition}
use Rattle.ddl_schemes.specs.SharedParts.{shared_parts}

one_more : (xs : List program.Ty) (x : program.Ty) (k n m : ℕ) → ty_view x ≡ var m → m ≡ n + k → tys_of (map ty_view xs) ≡ fresh k n
    → tys_of (map ty_view (xs ++ x ∷ [])) ≡ fresh (suc k) n
one_more [] x zero n m e f h = ap (λ t. more t none) (e ∙ ap var (omega (arith, f)))
one_more [] x (suc k) n m e f h = cc
one_more (y ∷ ys) x zero n m e f h = cc
one_more (y ∷ ys) x (suc k) n m e f h =
    let head : ty_view y ≡ var n = cc in
    let rest : tys_of (map ty_view ys) ≡ fresh k (suc n) = cc in
    let tail = one_more ys x k (suc n) m e (omega arith) rest in cc

-- one variable more behind the first ones
pub fresh_more : (xs ys : List program.Ty) (x : program.Ty) (k : ℕ) → ys ≡ xs ++ x ∷ [] → ty_view x ≡ var k → tys_of (map ty_view xs) ≡ fresh k 0
    → tys_of (map ty_view ys) ≡ fresh (k + 1) 0
fresh_more xs ys x k e f h =
    let s : suc k ≡ k + 1 = omega arith in
    ap (λ (zs : List program.Ty). tys_of (map ty_view zs)) e ∙ one_more xs x k 0 k f (omega arith) h ∙ ap (λ j. fresh j 0) s

pub ruleset freshes = (fresh_more)

-- the parts that a list holds, each as it is seen
pub shared_list : (first n : ℕ) (ts : List Ty) → shared_all first n (tys_of ts) ≡ tys_of (map (shared first n) ts)
shared_list first n [] = refl
shared_list first n (t ∷ ts) = ap (more (shared first n t)) (shared_list first n ts)

by_test : (b : Bool) (p : ℕ) (us vs : Tys) → (if b then con (place p) us else con (place p) vs) ≡ con (place p) (if b then us else vs)
by_test true p us vs = refl
by_test false p us vs = refl

pub shared_place : (first n p : ℕ) (ts : Tys) → shared first n (con (place p) ts) ≡ con (place p) (shared_parts first n p ts)
shared_place first n p ts = by_test (nat_le first p) p (fresh n 0) (shared_all first n ts)

pub ruleset sharings = (shared_list, shared_place)

-- a condition whose types are seen from elsewhere is seen from there
pub seen_condition : (first : ℕ) (vs : List ℕ) (f : Sub) (c : Condition)
    → with_types (seen first vs f) c ≡ shared_condition first (length vs) (on_condition (renaming vs 0) (on_condition f c))
seen_condition first vs f (num t) = refl
seen_condition first vs f _ = refl
