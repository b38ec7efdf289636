-- When two types are one.
use Rattle.std.proofs.Common.{◌≡◌, ◌≢◌, ℕ, zero, suc, ◌+◌, ◌<◌, ◌≤◌, List, [], ◌∷◌, map, drop, length, get_or, Bool, true, false, ◌&&◌, refl, sym, ap, ◌∙◌}
use Rattle.std.proofs.Common.{arith, eqb-true, eq-eqb, add-one}
use Rattle.ddl_types.specs.declared.ty.Ty as program
use Rattle.ddl_types.specs.Types.{Head, Head.int, Head.uint, Head.sint, Head.bool, Head.unit, Head.stream, Head.maybe_of, Head.array_of, Head.map_of, Head.bits}
use Rattle.ddl_types.specs.Types.{Head.place, Ty, Ty.var, Ty.con, Tys, Tys.none, Tys.more, tys_of}
use Rattle.ddl_types.specs.TyView.{ty_view}
use Rattle.ddl_unify.specs.Heads.{head_eq}
use Rattle.ddl_judging.specs.Same.{same, same_all}

and_left : (a b : Bool) → (a && b) ≡ true → a ≡ true
and_left true b e = refl
and_left false b e = cc

and_right : (a b : Bool) → (a && b) ≡ true → b ≡ true
and_right true b e = e
and_right false b e = cc

and_true : (a : Bool) → (a && true) ≡ a
and_true true = refl
and_true false = refl

head_same : (h g : Head) → head_eq h g ≡ true → h ≡ g
head_same int int e = refl
head_same (uint m) (uint n) e = ap uint (eqb-true m n e)
head_same (sint m) (sint n) e = ap sint (eqb-true m n e)
head_same bool bool e = refl
head_same unit unit e = refl
head_same stream stream e = refl
head_same maybe_of maybe_of e = refl
head_same array_of array_of e = refl
head_same map_of map_of e = refl
head_same (bits m) (bits n) e = ap bits (eqb-true m n e)
head_same (place m) (place n) e = ap place (eqb-true m n e)
head_same _ _ e = cc

head_true : (h : Head) → head_eq h h ≡ true
head_true int = refl
head_true (uint m) = eq-eqb m m refl
head_true (sint m) = eq-eqb m m refl
head_true bool = refl
head_true unit = refl
head_true stream = refl
head_true maybe_of = refl
head_true array_of = refl
head_true map_of = refl
head_true (bits m) = eq-eqb m m refl
head_true (place m) = eq-eqb m m refl

-- the test finds equal types
mutual
  pub same_true : (s t : Ty) → same s t ≡ true → s ≡ t
  same_true (var v) (var w) e = ap var (eqb-true v w e)
  same_true (con h ts) (con k us) e =
      let a = head_same h k (and_left (head_eq h k) (same_all ts us) e) in
      let b = same_all_true ts us (and_right (head_eq h k) (same_all ts us) e) in cc
  same_true (var v) (con k us) e = cc
  same_true (con h ts) (var w) e = cc

  same_all_true : (ts us : Tys) → same_all ts us ≡ true → ts ≡ us
  same_all_true none none e = refl
  same_all_true (more t ts) (more u us) e =
      let a = same_true t u (and_left (same t u) (same_all ts us) e) in
      let b = same_all_true ts us (and_right (same t u) (same_all ts us) e) in cc
  same_all_true none (more u us) e = cc
  same_all_true (more t ts) none e = cc

mutual
  same_itself : (t : Ty) → same t t ≡ true
  same_itself (var v) = eq-eqb v v refl
  same_itself (con h ts) = ap (λ b. b && same_all ts ts) (head_true h) ∙ same_all_itself ts

  same_all_itself : (ts : Tys) → same_all ts ts ≡ true
  same_all_itself none = refl
  same_all_itself (more t ts) = ap (λ b. b && same_all ts ts) (same_itself t) ∙ same_all_itself ts

-- and no others
pub same_false : (s t : Ty) → same s t ≡ false → s ≢ t
same_false s t e q = let b : same s s ≡ true = same_itself s in let a : same s s ≡ false = ap (λ x. same s x) q ∙ e in cc

pub same_one : (s t : Ty) → same_all (more s none) (more t none) ≡ same s t
same_one s t = and_true (same s t)

pub same_two : (s t u v : Ty) → same_all (more s (more u none)) (more t (more v none)) ≡ (same s t && same u v)
same_two s t u v = ap (λ b. same s t && b) (and_true (same u v))

abbrev views : List program.Ty → Tys
views xs = tys_of (map ty_view xs)

-- lists of different lengths differ
pub same_long : (ls rs : List program.Ty) → length ls ≢ length rs → same_all (views ls) (views rs) ≡ false
same_long [] [] n = absurd (n refl)
same_long [] (r ∷ rs) n = refl
same_long (l ∷ ls) [] n = refl
same_long (l ∷ ls) (r ∷ rs) n = by_first (same (ty_view l) (ty_view r)) (same_long ls rs (λ e. n (omega (arith, e))))
  where
    by_first : (b : Bool) → same_all (views ls) (views rs) ≡ false → (b && same_all (views ls) (views rs)) ≡ false
    by_first true e = e
    by_first false e = refl

pub same_end : (ls rs : List program.Ty) (i : ℕ) → length ls ≡ length rs → length ls ≤ i → same_all (views (drop i ls)) (views (drop i rs)) ≡ true
same_end [] [] zero e h = refl
same_end [] [] (suc i) e h = refl
same_end [] (r ∷ rs) i e h = absurd (omega arith)
same_end (l ∷ ls) [] i e h = absurd (omega arith)
same_end (l ∷ ls) (r ∷ rs) zero e h = absurd (omega arith)
same_end (l ∷ ls) (r ∷ rs) (suc i) e h = same_end ls rs i (omega arith) (omega arith)

same_suc : (ls rs : List program.Ty) (i : ℕ) (l r : program.Ty) → i < length ls → i < length rs → l ≡ get_or ls i l → r ≡ get_or rs i r
    → same_all (views (drop i ls)) (views (drop i rs)) ≡ (same (ty_view l) (ty_view r) && same_all (views (drop (suc i) ls)) (views (drop (suc i) rs)))
same_suc [] rs i l r h k p q = absurd (omega arith)
same_suc (x ∷ ls) [] i l r h k p q = absurd (omega arith)
same_suc (x ∷ ls) (y ∷ rs) zero l r h k p q = ap (λ (z : program.Ty). same (ty_view z) (ty_view y) && same_all (views ls) (views rs)) (sym p)
    ∙ ap (λ (z : program.Ty). same (ty_view l) (ty_view z) && same_all (views ls) (views rs)) (sym q)
same_suc (x ∷ ls) (y ∷ rs) (suc i) l r h k p q = same_suc ls rs i l r (omega arith) (omega arith) p q

-- two lists from their i-th parts on
pub same_next : (ls rs : List program.Ty) (i : ℕ) (l r : program.Ty) → i < length ls → i < length rs → l ≡ get_or ls i l → r ≡ get_or rs i r
    → same_all (views (drop i ls)) (views (drop i rs)) ≡ (same (ty_view l) (ty_view r) && same_all (views (drop (i + 1) ls)) (views (drop (i + 1) rs)))
same_next ls rs i l r h k p q = rw (add-one i) (same_suc ls rs i l r h k p q)
