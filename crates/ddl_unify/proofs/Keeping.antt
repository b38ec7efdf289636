-- One more binding.
use Rattle.std.proofs.Common.{◌≡◌, ℕ, ◌+◌, ◌-◌, ◌*◌, ◌≤◌, ◌<◌, List, [], ◌∷◌, ◌++◌, refl, sym, ap, ◌∙◌, arith, zero, suc, ◌≢◌, get_or, set, length, true, false}
use Rattle.std.proofs.Common.{◌||◌, Bool, inl, inr, append_assoc, length-append, ne_eqb, subst, Result, Ok, Err}
use Rattle.std.proofs.lemmas.Bool.Decides.{eqb_tells}
use Rattle.std.proofs.lemmas.List.{get_or-set_same, get_or-set_other, length-set}
use Rattle.ddl_types.specs.Types.{Ty, Tys, Ty.var, Ty.con, Tys.none, Tys.more, Sub, on, Below}
use Rattle.ddl_types.specs.TyView.{ty_view}
use Rattle.ddl_unify.specs.declared.store.Bound.{Bound}
use Rattle.ddl_unify.specs.View.{bounds, onto, bound_view}
use Rattle.ddl_unify.specs.Occurs.{count, count_all, has, has_all, size, NoVar}
use Rattle.ddl_unify.specs.Equations.{Equation, equal, EachBelow}
use Rattle.ddl_unify.specs.Bindings.{Binding, solution, Agrees, Unbound, Sound, ToBelow}
use Rattle.ddl_unify.specs.Measures.{weight, steps, zeros}
use Rattle.ddl_unify.specs.declared.trail.Trail.{Trail}
use Rattle.ddl_unify.specs.Kept.{Kept, IsFrom}
use Rattle.ddl_unify.specs.Trails.{bindings, variables, free, CanBind, Pushed, Grows}
use Rattle.ddl_unify.specs.Trails.{solution as read_by}
use Rattle.ddl_unify.specs.Solving.{Step, MayBind, Turned}
use Rattle.ddl_base.specs.declared.memory.NoMemory.{NoMemory}
use Rattle.ddl_types.specs.declared.ty.Ty as program
use Rattle.ddl_unify.proofs.Sub.{count_differs}
use Rattle.ddl_unify.proofs.ReadingLemmas.{read_then, unbound_read}
use Rattle.ddl_unify.proofs.Steps.{steps_bind, steps_less, weight_bound, holds_none, size_some}
use Rattle.ddl_unify.proofs.Stored.{bounds_more}

unbound_under : (bs : List Binding) (xs : List Bound) (v : ℕ) → Unbound v (onto bs xs) → Unbound v bs
unbound_under bs [] v u = u
unbound_under bs (x ∷ xs) v u = (unbound_under (bound_view x ∷ bs) xs v u).1

unbound_from : (bs : List Binding) (xs : List Bound) (k v : ℕ) → IsFrom k v xs → Unbound v (onto bs xs) → ⊥
unbound_from bs [] k v f u = f
unbound_from bs (x ∷ xs) zero v f u = (unbound_under (bound_view x ∷ bs) xs v u).0 f
unbound_from bs (x ∷ xs) (suc k) v f u = unbound_from (bound_view x ∷ bs) xs k v f u

-- a variable that is not bound has no place
free_place : (place : List ℕ) (xs : List Bound) (v : ℕ) → Kept place xs → Unbound v (bounds xs) → get_or place v 0 ≡ 0
free_place place xs v k u = elim (eqb_tells (get_or place v 0) 0)
    [ inl q ↦ q.1 | inr q ↦ absurd (unbound_from [] xs (get_or place v 0 - 1) v (k.bound v (get_or place v 0 - 1) (omega (arith, q.1))) u) ]

from_append : (xs : List Bound) (x : Bound) (k w : ℕ) → IsFrom k w xs → IsFrom k w (xs ++ x ∷ [])
from_append [] x k w f = absurd f
from_append (d ∷ xs) x zero w f = f
from_append (d ∷ xs) x (suc k) w f = from_append xs x k w f

from_last : (xs : List Bound) (x : Bound) (k : ℕ) → k ≡ length xs → IsFrom k x.from (xs ++ x ∷ [])
from_last [] x zero e = refl
from_last [] x (suc k) e = absurd (omega arith)
from_last (d ∷ xs) x zero e = absurd (omega arith)
from_last (d ∷ xs) x (suc k) e = from_last xs x k (omega arith)

zeros_set : (place : List ℕ) (v k : ℕ) → v < length place → get_or place v 0 ≡ 0 → zeros place ≡ suc (zeros (set place v (suc k)))
zeros_set [] v k h e = absurd (omega arith)
zeros_set (p ∷ place) zero k h e = rw e (rw (ne_eqb (suc k) 0 (omega arith)) (omega arith))
zeros_set (p ∷ place) (suc v) k h e = omega (arith, zeros_set place v k (omega arith) e)

-- what a binding needs to be kept
pub record Fits (place : List ℕ) (xs : List Bound) (x : Bound) : Type 0 where
  pub kept : Kept place xs
  pub free : Unbound x.from (bounds xs)
  pub absent : has (on (ty_view x.to) (solution (bounds xs))) x.from ≡ false
  pub within : x.from < length place
  pub below : Below (ty_view x.to) (length place)

or_left : (a b : Bool) → (a || b) ≡ false → a ≡ false
or_left true b e = e
or_left false b e = refl

or_right : (a b : Bool) → (a || b) ≡ false → b ≡ false
or_right true b e = cc
or_right false b e = e

mutual
  pub has_count : (x : Ty) (v : ℕ) → has x v ≡ false → count x v ≡ 0
  has_count (var n) v e = rw e refl
  has_count (con h ts) v e = has_count_all ts v e

  pub has_count_all : (ts : Tys) (v : ℕ) → has_all ts v ≡ false → count_all ts v ≡ 0
  has_count_all none v e = refl
  has_count_all (more x ts) v e = omega (arith, has_count x v (or_left (has x v) (has_all ts v) e), has_count_all ts v (or_right (has x v) (has_all ts v) e))

mutual
  pub count_has : (x : Ty) (v : ℕ) → count x v ≡ 0 → has x v ≡ false
  count_has (var n) v e = ne_eqb n v (count_differs n v e)
  count_has (con h ts) v e = count_has_all ts v e

  pub count_has_all : (ts : Tys) (v : ℕ) → count_all ts v ≡ 0 → has_all ts v ≡ false
  count_has_all none v e = refl
  count_has_all (more x ts) v e = ap (λ a. a || has_all ts v) (count_has x v (omega arith)) ∙ count_has_all ts v (omega arith)

-- a variable that is bound for the first time leaves one fewer
fits_zeros : (place : List ℕ) (xs : List Bound) (x : Bound) (m : ℕ) → m ≡ suc (length xs) → Fits place xs x → zeros place ≡ suc (zeros (set place x.from m))
fits_zeros place xs x m e h =
    zeros_set place x.from (length xs) h.within (free_place place xs x.from h.kept h.free) ∙ ap (λ i. suc (zeros (set place x.from i))) (sym e)

-- there is room for the binding of a variable that is not bound
pub fits_room : (place : List ℕ) (xs : List Bound) (x : Bound) → Fits place xs x → length xs < length place
fits_room place xs x h = omega (arith, fits_zeros place xs x (suc (length xs)) refl h, h.kept.counted)

pub kept_more : (place : List ℕ) (xs xs2 : List Bound) (x : Bound) (m : ℕ) → xs2 ≡ xs ++ x ∷ [] → m ≡ length xs2 → Fits place xs x
    → Kept (set place x.from m) xs2
kept_more place xs xs2 x m e e_m h =
    let e2 = bounds_more xs xs2 x e in
    let n : length xs2 ≡ suc (length xs) = omega (arith, ap length e, length-append xs (x ∷ [])) in
    let same : get_or (set place x.from m) x.from 0 ≡ m = get_or-set_same place x.from m 0 h.within in
    record {
      sound = subst Sound (sym e2) (h.free, has_count (on (ty_view x.to) (solution (bounds xs))) x.from h.absent, h.kept.sound);
      unbound = λ v q. elim (eqb_tells v x.from) [
        | inl p ↦ absurd (let g : get_or (set place x.from m) x.from 0 ≡ 0 = ap (λ i. get_or (set place x.from m) i 0) (sym p.1) ∙ q in omega arith)
        | inr p ↦ subst (Unbound v) (sym e2) ((λ y. p.1 (sym y)), h.kept.unbound v (sym (get_or-set_other place x.from v m 0 p.1) ∙ q))
      ];
      bound = λ v j q. elim (eqb_tells v x.from) [
        | inl p ↦ (let g : get_or (set place x.from m) x.from 0 ≡ suc j = ap (λ i. get_or (set place x.from m) i 0) (sym p.1) ∙ q in
            let P : ℕ → Type 0 = λ i. IsFrom j i xs2 in
            subst P (sym p.1) (subst (IsFrom j x.from) (sym e) (from_last xs x j (omega arith))))
        | inr p ↦ subst (IsFrom j v) (sym e) (from_append xs x j v (h.kept.bound v j (sym (get_or-set_other place x.from v m 0 p.1) ∙ q)))
      ];
      counted = omega (arith, n, length-set place x.from m, fits_zeros place xs x m (e_m ∙ n) h, h.kept.counted);
      below = let P : ℕ → Type 0 = λ i. ToBelow (bounds xs2) i in
          let Q : List Binding → Type 0 = λ bs. ToBelow bs (length place) in
          subst P (sym (length-set place x.from m)) (subst Q (sym e2) (h.below, h.kept.below));
    }

-- the bindings with one more
pub pushed_bindings : (t : Trail) (v : ℕ) (u : program.Ty) (t2 : Trail) → Pushed t v u t2 → bindings t2 ≡ record { from = v; to = ty_view u } ∷ bindings t
pushed_bindings t v u t2 p = bounds_more t.0 t2.0 (record { from = v; to = u }) (ap (λ (z : Trail). z.0) p.is)

pushed_long : (t : Trail) (v : ℕ) (u : program.Ty) (t2 : Trail) → Pushed t v u t2 → length t2.0 ≡ suc (length t.0)
pushed_long t v u t2 p =
    let x : List Bound = record { from = v; to = u } ∷ [] in omega (arith, ap (λ (z : Trail). length z.0) p.is, length-append t.0 x)

pub pushed_grows : (t : Trail) (v : ℕ) (u : program.Ty) (t2 : Trail) → Pushed t v u t2 → Grows t t2
pushed_grows t v u t2 p = record {
  same = ap (λ (z : Trail). z.1) p.is;
  extends = record { more = record { from = v; to = u } ∷ []; is = ap (λ (z : Trail). z.0) p.is };
}

pub step_more : (t : Trail) (v : ℕ) (u : program.Ty) (t2 : Trail) (es : List Equation) → Pushed t v u t2 → EachBelow es (variables t)
    → Step t es (var v) (ty_view u) t2 es
step_more t v u t2 es p eb =
    let e2 = pushed_bindings t v u t2 p in
    let bs = bindings t in
    record {
      there = λ f a s q. (let Q : List Binding → Type 0 = λ b. Agrees f b in subst Q (sym e2) (q, a), s);
      back = λ n k f a s. (let Q : List Binding → Type 0 = λ b. Agrees f b in let y = subst Q e2 a in (y.1, s, y.0));
      fewer =
          let fs : free t ≡ suc (free t2) = omega (arith, pushed_long t v u t2 p, (pushed_grows t v u t2 p).same, p.fits) in
          let w : weight (bindings t2) es ≤ weight bs es * size (on (ty_view u) (solution bs)) =
          omega (arith, ap (λ b. weight b es) e2, weight_bound (record { from = v; to = ty_view u }) bs es) in
          let Q : ℕ → Type 0 = λ n. steps (free t2) (weight (bindings t2) es) < steps n (weight bs (equal (var v) (ty_view u) ∷ es)) in
          subst Q (sym fs) (steps_bind (free t2) (weight bs es) (size (on (ty_view u) (solution bs))) (weight (bindings t2) es)
          (weight bs (equal (var v) (ty_view u) ∷ es)) (omega arith) (omega arith) w);
      below = eb;
    }

append_none : (a : List Bound) → a ++ [] ≡ a
append_none [] = refl
append_none (x ∷ a) = ap (λ z. x ∷ z) (append_none a)

pub grows_same : (t : Trail) → Grows t t
grows_same t = record { same = refl; extends = record { more = []; is = sym (append_none t.0) } }

pub grows_then : (a b c : Trail) → Grows a b → Grows b c → Grows a c
grows_then a b c p q = record {
  same = q.same ∙ p.same;
  extends = record {
    more = p.extends.more ++ q.extends.more;
    is = q.extends.is ∙ ap (λ x. x ++ q.extends.more) p.extends.is ∙ append_assoc a.0 p.extends.more q.extends.more;
  };
}

-- a binding that was made, or not for want of memory
pub turned_more : (t : Trail) (v : ℕ) (u : program.Ty) (t2 : Trail) (es : List Equation) → Pushed t v u t2 → EachBelow es (variables t)
    → Turned (Ok true) t es (var v) (ty_view u) t2 es
turned_more t v u t2 es p b = (pushed_grows t v u t2 p, step_more t v u t2 es p b)

pub grows_like : (t t2 : Trail) → t2 ≡ t → Grows t t2
grows_like t t2 e = let P : Trail → Type 0 = λ z. Grows t z in subst P (sym e) (grows_same t)

-- what binding a variable does to a kept trail
pub pushed_is : (place : List ℕ) (xs xs2 : List Bound) (x : Bound) (m : ℕ) → xs2 ≡ xs ++ x ∷ [] → Fits place xs x
    → Pushed (xs, length place) x.from x.to (xs2, length (set place x.from m))
pushed_is place xs xs2 x m e h = record {
  is = ap (λ (z : List Bound). (z, length (set place x.from m))) e ∙ ap (λ (n : ℕ). (xs ++ x ∷ [], n)) (length-set place x.from m);
  fits = fits_room place xs x h;
}

pub fits_in : (place : List ℕ) (xs : List Bound) (t : Trail) (v : ℕ) (u : program.Ty) → (xs, length place) ≡ t → Kept place xs → CanBind t v (ty_view u)
    → Fits place xs (record { from = v; to = u })
fits_in place xs t v u e k h =
    let P : Trail → Type 0 = λ z. CanBind z v (ty_view u) in
    let r = subst P (sym e) h in
    record { kept = k; free = r.free; absent = r.absent; within = r.within; below = r.below }

-- another variable that is not bound does not hold it
pub can_same : (t : Trail) (v w : ℕ) (x : Ty) → x ≡ var w → (v ≢ w) → MayBind t v (var w) → Unbound w (bindings t) → CanBind t v x
can_same t v w x e n m u =
    let P : Ty → Type 0 = λ y. CanBind t v y in
    subst P (sym e) (record {
      free = m.free;
      absent = ap (λ y. has y v) (unbound_read (bindings t) w u) ∙ ne_eqb w v (λ q. n (sym q));
      within = m.within;
      below = m.below;
    })

-- an equation of one type with itself says nothing
step_none : (t : Trail) (x : Ty) (es : List Equation) → EachBelow es (variables t) → Step t es x x t es
step_none t x es b = record {
  there = λ f a s e. (a, s);
  back = λ n k f a s. (a, s, refl);
  fewer = steps_less (free t) (weight (bindings t) es) (weight (bindings t) (equal x x ∷ es)) (omega (arith, size_some (on x (read_by t))));
  below = b;
}

pub turned_none : (t : Trail) (v w : ℕ) (es : List Equation) → v ≡ w → EachBelow es (variables t) → Turned (Ok true) t es (var v) (var w) t es
turned_none t v w es e b =
    let P : ℕ → Type 0 = λ n. Turned (Ok true) t es (var v) (var n) t es in subst P e (grows_same t, step_none t (var v) es b)

step_flip : (t : Trail) (es : List Equation) (l r : Ty) (t2 : Trail) (es2 : List Equation) → Step t es l r t2 es2 → Step t es r l t2 es2
step_flip t es l r t2 es2 s = record {
  there = λ f a h e. s.there f a h (sym e);
  back = λ n k f a h. (let q = s.back n k f a h in (q.0, q.1, sym q.2));
  fewer =
      let e : weight (bindings t) (equal l r ∷ es) ≡ weight (bindings t) (equal r l ∷ es) = omega arith in
      let P : ℕ → Type 0 = λ n. steps (free t2) (weight (bindings t2) es2) < steps (free t) n in
      subst P e s.fewer;
  below = s.below;
}

-- the sides of an equation may change places
pub turned_flip : (d : Result Bool NoMemory) (t : Trail) (es : List Equation) (l r : Ty) (t2 : Trail) (es2 : List Equation) → Turned d t es l r t2 es2
    → Turned d t es r l t2 es2
turned_flip (Ok true) t es l r t2 es2 h = (h.0, step_flip t es l r t2 es2 h.1)
turned_flip (Ok false) t es l r t2 es2 h = (h.0, λ f a e. h.1 f a (sym e))
turned_flip (Err d) t es l r t2 es2 h = h

-- a map that agrees with the bindings gives the same for types that are read alike
same_read : (t : Trail) (l k : Ty) (f : Sub) → Agrees f (bindings t) → on l (read_by t) ≡ on k (read_by t) → on l f ≡ on k f
same_read t l k f a e = sym (read_then (bindings t) l f a) ∙ ap (λ x. on x f) e ∙ read_then (bindings t) k f a

step_like : (t : Trail) (es : List Equation) (l k r : Ty) (t2 : Trail) (es2 : List Equation) → on l (read_by t) ≡ on k (read_by t) → Step t es k r t2 es2
    → Step t es l r t2 es2
step_like t es l k r t2 es2 e s = record {
  there = λ f a h q. s.there f a h (sym (same_read t l k f a e) ∙ q);
  back = λ n m f a h. (let q = s.back n m f a h in (q.0, q.1, same_read t l k f q.0 e ∙ q.2));
  fewer =
      let w : weight (bindings t) (equal k r ∷ es) ≡ weight (bindings t) (equal l r ∷ es) =
      ap (λ x. size x + size (on r (read_by t)) + weight (bindings t) es) (sym e) in
      let P : ℕ → Type 0 = λ n. steps (free t2) (weight (bindings t2) es2) < steps (free t) n in
      subst P w s.fewer;
  below = s.below;
}

-- a step does not see which type stands on the left, as long as it is read alike
pub turned_like : (d : Result Bool NoMemory) (t : Trail) (es : List Equation) (l k r : Ty) (t2 : Trail) (es2 : List Equation)
    → on l (read_by t) ≡ on k (read_by t) → Turned d t es k r t2 es2 → Turned d t es l r t2 es2
turned_like (Ok true) t es l k r t2 es2 e h = (h.0, step_like t es l k r t2 es2 e h.1)
turned_like (Ok false) t es l k r t2 es2 e h = (h.0, λ f a q. h.1 f a (sym (same_read t l k f a e) ∙ q))
turned_like (Err d) t es l k r t2 es2 e h = h

-- nor which stands on the right
pub turned_right : (d : Result Bool NoMemory) (t : Trail) (es : List Equation) (l k r : Ty) (t2 : Trail) (es2 : List Equation)
    → on l (read_by t) ≡ on k (read_by t) → Turned d t es r k t2 es2 → Turned d t es r l t2 es2
turned_right d t es l k r t2 es2 e h =
    turned_flip d t es l r t2 es2 (turned_like d t es l k r t2 es2 e (turned_flip d t es r k t2 es2 h))

-- a variable against a larger type that holds it has no solution
pub turned_held : (t : Trail) (v : ℕ) (x : Ty) (es : List Equation) → NoVar (on x (read_by t)) → has (on x (read_by t)) v ≡ true
    → Turned (Ok false) t es (var v) x t es
turned_held t v x es n h =
    (grows_same t, λ f a q. by_read f (on x (read_by t)) n h (q ∙ sym (read_then (bindings t) x f a)))
  where
    by_read : (f : Sub) (y : Ty) → NoVar y → has y v ≡ true → f v ≡ on y f → ⊥
    by_read f (var w) n h e = cc
    by_read f (con c ts) n h e = holds_none (var v) (con c ts) f (λ z. (let b = count_has_all ts v z in cc)) e
