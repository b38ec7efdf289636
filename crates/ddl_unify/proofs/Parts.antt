-- The parts of two types.
use Rattle.std.proofs.Common.{◌≡◌, ℕ, ◌+◌, ◌≤◌, ◌<◌, List, [], ◌∷◌, ◌++◌, ◌==◌, refl, sym, ap, ◌∙◌, arith, zero, suc, map, length, drop, subst, true, false}
use Rattle.std.proofs.Common.{◌&&◌, Bool, inl, inr, append_assoc, length-append, ne_eqb, eq-eqb, eqb-true}
use Rattle.std.proofs.lemmas.Bool.Decides.{eqb_tells}
use Rattle.std.proofs.lemmas.List.{map-append, drop-append-le}
use Rattle.ddl_types.specs.declared.ty.Ty as program
use Rattle.ddl_types.specs.Types.{Head, Head.int, Head.uint, Head.sint, Head.bool, Head.unit, Head.stream, Head.maybe_of, Head.array_of, Head.map_of, Head.bits}
use Rattle.ddl_types.specs.Types.{Head.place, Ty, Ty.var, Ty.con, Tys, Tys.none, Tys.more, Sub, on_all, tys_of, BelowAll}
use Rattle.ddl_types.specs.TyView.{ty_view}
use Rattle.ddl_unify.specs.declared.store.Pair.{Pair}
use Rattle.ddl_unify.specs.View.{equations, pair_view}
use Rattle.ddl_unify.specs.Occurs.{size_all}
use Rattle.ddl_unify.specs.Equations.{Equation, equal, Solves, EachBelow, Apart}
use Rattle.ddl_unify.specs.Bindings.{Binding, solution}
use Rattle.ddl_unify.specs.Measures.{weight}
use Rattle.ddl_unify.specs.Heads.{head_eq, long_as, alike, parts, IsCon, pairs}
use Rattle.ddl_unify.specs.Solving.{Split}
use Rattle.ddl_unify.proofs.Steps.{solves_append, solves_front, solves_back, pairs_solve}

suc_eqb : (a b : ℕ) → (a == b) ≡ (suc a == suc b)
suc_eqb a b = elim (eqb_tells a b) [ inl q ↦ q.0 ∙ sym (eq-eqb (suc a) (suc b) (ap suc q.1)) | inr q ↦ q.0 ∙ sym (ne_eqb (suc a) (suc b) (omega (arith, q.1))) ]

pub long_is : (xs ys : List program.Ty) → long_as (tys_of (map ty_view xs)) (tys_of (map ty_view ys)) ≡ (length xs == length ys)
long_is [] [] = refl
long_is [] (y ∷ ys) = sym (ne_eqb 0 (suc (length ys)) (omega arith))
long_is (x ∷ xs) [] = sym (ne_eqb (suc (length xs)) 0 (omega arith))
long_is (x ∷ xs) (y ∷ ys) = long_is xs ys ∙ suc_eqb (length xs) (length ys)

pub ruleset lengths = (long_is)

long_same : (xs ys : List program.Ty) → long_as (tys_of (map ty_view xs)) (tys_of (map ty_view ys)) ≡ true → length xs ≡ length ys
long_same [] [] e = refl
long_same [] (y ∷ ys) e = cc
long_same (x ∷ xs) [] e = cc
long_same (x ∷ xs) (y ∷ ys) e = omega (arith, long_same xs ys e)

and_left : (a b : Bool) → (a && b) ≡ true → a ≡ true
and_left true b e = refl
and_left false b e = cc

and_right : (a b : Bool) → (a && b) ≡ true → b ≡ true
and_right true b e = e
and_right false b e = cc

-- lists of alike types are of one length
pub long_both : (h g : Head) (xs ys : List program.Ty) → alike (con h (tys_of (map ty_view xs))) (con g (tys_of (map ty_view ys))) ≡ true
    → length xs ≡ length ys
long_both h g xs ys e = long_same xs ys (and_right (head_eq h g) (long_as (tys_of (map ty_view xs)) (tys_of (map ty_view ys))) e)

-- the last parts make the first equation
pub pairs_last : (xs ys : List Ty) (x y : Ty) → length xs ≡ length ys
    → pairs (tys_of (xs ++ x ∷ [])) (tys_of (ys ++ y ∷ [])) ≡ equal x y ∷ pairs (tys_of xs) (tys_of ys)
pairs_last [] [] x y e = refl
pairs_last [] (b ∷ ys) x y e = absurd (omega arith)
pairs_last (a ∷ xs) [] x y e = absurd (omega arith)
pairs_last (a ∷ xs) (b ∷ ys) x y e = ap (λ (es : List Equation). es ++ equal a b ∷ []) (pairs_last xs ys x y (omega arith))

pub equations_append : (a b : List Pair) → equations (a ++ b) ≡ equations a ++ equations b
equations_append a b = map-append pair_view a b

pub no_more : (es : List Equation) → es ++ [] ≡ es
no_more [] = refl
no_more (e ∷ es) = ap (λ x. e ∷ x) (no_more es)

-- of what is alike, the equations between the parts are what is left to solve
head_same : (h g : Head) → head_eq h g ≡ true → h ≡ g
head_same int int e = refl
head_same (uint m) (uint n) e = ap uint (eqb-true m n e)
head_same (sint m) (sint n) e = ap sint (eqb-true m n e)
head_same bool bool e = refl
head_same unit unit e = refl
head_same stream stream e = refl
head_same maybe_of maybe_of e = refl
head_same array_of array_of e = refl
head_same map_of map_of e = refl
head_same (bits m) (bits n) e = ap bits (eqb-true m n e)
head_same (place m) (place n) e = ap place (eqb-true m n e)
head_same _ _ e = cc

head_true : (h : Head) → head_eq h h ≡ true
head_true int = refl
head_true (uint m) = eq-eqb m m refl
head_true (sint m) = eq-eqb m m refl
head_true bool = refl
head_true unit = refl
head_true stream = refl
head_true maybe_of = refl
head_true array_of = refl
head_true map_of = refl
head_true (bits m) = eq-eqb m m refl
head_true (place m) = eq-eqb m m refl

long_on : (xs ys : Tys) (f : Sub) → on_all xs f ≡ on_all ys f → long_as xs ys ≡ true
long_on none none f e = refl
long_on (more x xs) (more y ys) f e = long_on xs ys f cc
long_on none (more y ys) f e = cc
long_on (more x xs) none f e = cc

-- no map makes types with different heads equal
pub apart : (l r : Ty) → IsCon l → IsCon r → alike l r ≡ false → Apart l r
apart (var v) r c d n f e = absurd c
apart (con h ts) (var v) c d n f e = absurd d
apart (con h ts) (con g us) c d n f e =
    let a : head_eq h g ≡ true = ap (λ k. head_eq h k) (sym (let q : h ≡ g = cc in q)) ∙ head_true h in
    let b = long_on ts us f cc in
    let q : (head_eq h g && long_as ts us) ≡ true = ap (λ k. k && long_as ts us) a ∙ b in cc

pairs_back : (f : Sub) (xs ys : Tys) → long_as xs ys ≡ true → Solves f (pairs xs ys) → on_all xs f ≡ on_all ys f
pairs_back f none none h s = refl
pairs_back f (more x xs) (more y ys) h s =
    let a = (solves_back f (pairs xs ys) (equal x y ∷ []) s).0 in
    let b = pairs_back f xs ys h (solves_front f (pairs xs ys) (equal x y ∷ []) s) in cc
pairs_back f none (more y ys) h s = cc
pairs_back f (more x xs) none h s = cc

pub weight_append : (bs : List Binding) (a b : List Equation) → weight bs (a ++ b) ≡ weight bs a + weight bs b
weight_append bs [] b = omega arith
weight_append bs (e ∷ a) b = omega (arith, weight_append bs a b)

pairs_light : (bs : List Binding) (xs ys : Tys) → weight bs (pairs xs ys) ≤ size_all (on_all xs (solution bs)) + size_all (on_all ys (solution bs))
pairs_light bs none ys = omega arith
pairs_light bs (more x xs) none = omega arith
pairs_light bs (more x xs) (more y ys) = omega (arith, weight_append bs (pairs xs ys) (equal x y ∷ []), pairs_light bs xs ys)

pub below_append : (a b : List Equation) (n : ℕ) → EachBelow a n → EachBelow b n → EachBelow (a ++ b) n
below_append [] b n h k = k
below_append (e ∷ a) b n h k = (h.0, h.1, below_append a b n h.2 k)

pub below_front : (a b : List Equation) (n : ℕ) → EachBelow (a ++ b) n → EachBelow a n
below_front [] b n h = tt
below_front (e ∷ a) b n h = (h.0, h.1, below_front a b n h.2)

pub below_back : (a b : List Equation) (n : ℕ) → EachBelow (a ++ b) n → EachBelow b n
below_back [] b n h = h
below_back (e ∷ a) b n h = below_back a b n h.2

pairs_below : (xs ys : Tys) (n : ℕ) → BelowAll xs n → BelowAll ys n → EachBelow (pairs xs ys) n
pairs_below none ys n h k = tt
pairs_below (more x xs) none n h k = tt
pairs_below (more x xs) (more y ys) n h k = below_append (pairs xs ys) (equal x y ∷ []) n (pairs_below xs ys n h.1 k.1) (h.0, k.0, tt)

pub split : (l r : Ty) (es : List Equation) → IsCon l → IsCon r → alike l r ≡ true → Split l r es (es ++ pairs (parts l) (parts r))
split (var v) r es c d n = absurd c
split (con h ts) (var v) es c d n = absurd d
split (con h ts) (con g us) es c d n = record {
  there = λ f s e. solves_append f es (pairs ts us) s (pairs_solve f ts us cc);
  back = λ m k f s.
      let P : List Equation → Type 0 = λ x. Solves f x in
      let z : Solves f (drop m es ++ pairs ts us) = subst P (drop-append-le m es (pairs ts us) k) s in
      let a = head_same h g (and_left (head_eq h g) (long_as ts us) n) in
      let b = pairs_back f ts us (and_right (head_eq h g) (long_as ts us) n) (solves_back f (drop m es) (pairs ts us) z) in
      (solves_front f (drop m es) (pairs ts us) z, cc);
  lighter = λ bs. omega (arith, weight_append bs es (pairs ts us), pairs_light bs ts us);
  below = λ n h k a. below_append es (pairs ts us) n a (pairs_below ts us n h k);
}

-- what is no variable is a head with its parts
pub con_is : (x : Ty) → ((v : ℕ) → x ≡ var v → ⊥) → IsCon x
con_is (var w) n = absurd (n w refl)
con_is (con h ts) n = tt

pub equations_last : (a b : List Pair) (p : Pair) → b ≡ a ++ p ∷ [] → equations b ≡ equations a ++ pair_view p ∷ []
equations_last a b p e = ap equations e ∙ equations_append a (p ∷ [])

map_long : (xs ys : List program.Ty) → length xs ≡ length ys → length (map ty_view xs) ≡ length (map ty_view ys)
map_long [] [] e = refl
map_long [] (y ∷ ys) e = absurd (omega arith)
map_long (x ∷ xs) [] e = absurd (omega arith)
map_long (x ∷ xs) (y ∷ ys) e = omega (arith, map_long xs ys (omega arith))

pub shorter : (ls ls2 rs rs2 : List program.Ty) (l r : program.Ty) → ls ≡ ls2 ++ l ∷ [] → rs ≡ rs2 ++ r ∷ [] → length ls ≡ length rs → length ls2 ≡ length rs2
shorter ls ls2 rs rs2 l r p q h = omega (arith, h, ap length p, ap length q, length-append ls2 (l ∷ []), length-append rs2 (r ∷ []))

-- the last parts of two lists, moved to a stack
pub pairs_moved : (st st2 : List Pair) (ls ls2 rs rs2 : List program.Ty) (l r : program.Ty) → st2 ≡ st ++ record { left = l; right = r } ∷ []
    → ls ≡ ls2 ++ l ∷ [] → rs ≡ rs2 ++ r ∷ [] → length ls ≡ length rs
    → equations st2 ++ pairs (tys_of (map ty_view ls2)) (tys_of (map ty_view rs2)) ≡ equations st ++ pairs (tys_of (map ty_view ls)) (tys_of (map ty_view rs))
pairs_moved st st2 ls ls2 rs rs2 l r e p q h =
    let n : length (map ty_view ls2) ≡ length (map ty_view rs2) = map_long ls2 rs2 (shorter ls ls2 rs rs2 l r p q h) in
    let a : map ty_view ls ≡ map ty_view ls2 ++ ty_view l ∷ [] = ap (map ty_view) p ∙ map-append ty_view ls2 (l ∷ []) in
    let b : map ty_view rs ≡ map ty_view rs2 ++ ty_view r ∷ [] = ap (map ty_view) q ∙ map-append ty_view rs2 (r ∷ []) in
    let t : pairs (tys_of (map ty_view ls)) (tys_of (map ty_view rs)) ≡ equal (ty_view l) (ty_view r)
    ∷ pairs (tys_of (map ty_view ls2)) (tys_of (map ty_view rs2)) =
    ap (λ (x : List Ty). pairs (tys_of x) (tys_of (map ty_view rs))) a ∙ ap (λ (x : List Ty). pairs (tys_of (map ty_view ls2 ++ ty_view l ∷ [])) (tys_of x)) b
    ∙ pairs_last (map ty_view ls2) (map ty_view rs2) (ty_view l) (ty_view r) n in
    ap (λ es. es ++ pairs (tys_of (map ty_view ls2)) (tys_of (map ty_view rs2))) (equations_last st st2 (record { left = l; right = r }) e)
    ∙ append_assoc (equations st) (equal (ty_view l) (ty_view r) ∷ []) (pairs (tys_of (map ty_view ls2)) (tys_of (map ty_view rs2)))
    ∙ ap (λ es. equations st ++ es) (sym t)

pub ruleset splits = (long_both, equations_append, no_more, append_assoc)
