-- Bindings taken back.
use Rattle.std.proofs.Common.{◌≡◌, ℕ, ◌<◌, List, [], ◌∷◌, ◌++◌, refl, sym, ap, ◌∙◌, arith, zero, suc, get_or, set, length, inl, inr, ◌⊎◌, subst, ◌≢◌}
use Rattle.std.proofs.Common.{ne_eqb, length-append, ◌≤◌}
use Rattle.std.proofs.lemmas.Bool.Decides.{eqb_tells, leb_tells}
use Rattle.std.proofs.lemmas.List.{get_or-set_same, get_or-set_other, length-set}
use Rattle.ddl_unify.specs.declared.store.Bound.{Bound}
use Rattle.ddl_unify.specs.View.{bounds, bound_view}
use Rattle.ddl_unify.specs.Bindings.{Binding, Sound, Unbound, ToBelow}
use Rattle.ddl_unify.specs.Kept.{Kept, IsFrom}
use Rattle.ddl_unify.specs.Measures.{zeros}
use Rattle.ddl_unify.specs.Trails.{Grows, Back}
use Rattle.ddl_unify.specs.declared.trail.Trail.{Trail}
use Rattle.ddl_unify.proofs.Keeping.{grows_then}
use Rattle.ddl_unify.proofs.Stored.{bounds_more, get_past}

from_front : (ys : List Bound) (x : Bound) (k v : ℕ) → IsFrom k v (ys ++ x ∷ []) → IsFrom k v ys ⊎ (x.from ≡ v)
from_front [] x zero v f = inr f
from_front [] x (suc k) v f = absurd f
from_front (d ∷ ys) x zero v f = inl f
from_front (d ∷ ys) x (suc k) v f = from_front ys x k v f

-- the variable that was bound last is one of those that there are
pub undo_within : (place : List ℕ) (xs ys : List Bound) (x : Bound) → xs ≡ ys ++ x ∷ [] → Kept place xs → x.from < length place
undo_within place xs ys x e k =
    elim (leb_tells (length place) x.from) [
      | inl q ↦ absurd ((subst (Unbound x.from) (bounds_more ys xs x e) (k.unbound x.from (get_past place x.from (omega (arith, q.1))))).0 refl)
      | inr q ↦ q.1
    ]

-- the variable that was bound last has a place
undo_place : (place : List ℕ) (xs ys : List Bound) (x : Bound) → xs ≡ ys ++ x ∷ [] → Kept place xs → get_or place x.from 0 ≢ 0
undo_place place xs ys x e k z = (subst (Unbound x.from) (bounds_more ys xs x e) (k.unbound x.from z)).0 refl

zeros_unset : (place : List ℕ) (v : ℕ) → v < length place → get_or place v 0 ≢ 0 → zeros (set place v 0) ≡ suc (zeros place)
zeros_unset [] v h e = absurd (omega arith)
zeros_unset (p ∷ place) zero h e = rw (ne_eqb p 0 e) (omega arith)
zeros_unset (p ∷ place) (suc v) h e = omega (arith, zeros_unset place v (omega arith) e)

pub undo_kept : (place : List ℕ) (xs ys : List Bound) (x : Bound) → xs ≡ ys ++ x ∷ [] → Kept place xs → Kept (set place x.from 0) ys
undo_kept place xs ys x e k =
    let e2 = bounds_more ys xs x e in
    let sound : Sound (bound_view x ∷ bounds ys) = subst Sound e2 k.sound in
    let same : get_or (set place x.from 0) x.from 0 ≡ 0 = get_or-set_same place x.from 0 0 (undo_within place xs ys x e k) in
    record {
      sound = sound.2;
      unbound = λ v q. elim (eqb_tells v x.from) [
        | inl p ↦ (let P : ℕ → Type 0 = λ i. Unbound i (bounds ys) in subst P (sym p.1) sound.0)
        | inr p ↦ (subst (Unbound v) e2 (k.unbound v (sym (get_or-set_other place x.from v 0 0 p.1) ∙ q))).1
      ];
      bound = λ v j q. elim (eqb_tells v x.from) [
        | inl p ↦ absurd (let g : get_or (set place x.from 0) x.from 0 ≡ suc j = ap (λ i. get_or (set place x.from 0) i 0) (sym p.1) ∙ q in omega arith)
        | inr p ↦ elim (from_front ys x j v (subst (IsFrom j v) e (k.bound v j (sym (get_or-set_other place x.from v 0 0 p.1) ∙ q))))
            [ inl f ↦ f | inr f ↦ absurd (p.1 (sym f)) ]
      ];
      counted = omega (
        arith,
        zeros_unset place x.from (undo_within place xs ys x e k) (undo_place place xs ys x e k),
        length-set place x.from 0,
        ap length e,
        length-append ys (x ∷ []),
        k.counted,
      );
      below = let P : ℕ → Type 0 = λ i. ToBelow (bounds ys) i in
          let Q : List Binding → Type 0 = λ bs. ToBelow bs (length place) in
          subst P (sym (length-set place x.from 0)) (subst Q e2 k.below).1;
    }

-- two fronts of one length are the same
same_front : (a b m n : List Bound) → a ++ m ≡ b ++ n → length a ≡ length b → a ≡ b
same_front [] [] m n e h = refl
same_front [] (y ∷ b) m n e h = absurd (omega arith)
same_front (x ∷ a) [] m n e h = absurd (omega arith)
same_front (x ∷ a) (y ∷ b) m n e h = let r = same_front a b m n (cc) (omega arith) in let q : x ≡ y = cc in cc

-- what was bound since is taken back, and all is as it was
pub back_same : (n : ℕ) (t t1 t2 : Trail) → Grows t t1 → Back n t1 t2 → n ≡ length t.0 → t2 ≡ t
back_same n t t1 t2 g b e =
    let a : t2.0 ≡ t.0 = same_front t2.0 t.0 b.grows.extends.more g.extends.more (sym b.grows.extends.is ∙ g.extends.is) (b.shorter ∙ e) in
    let c : t2.1 ≡ t.1 = sym b.grows.same ∙ g.same in
    ap (λ (z : List Bound). (z, t2.1)) a ∙ ap (λ (z : ℕ). (t.0, z)) c

-- one binding taken back after others
pub back_then : (n : ℕ) (t t1 t2 : Trail) → Grows t1 t → Back n t1 t2 → Grows t2 t
back_then n t t1 t2 g b = grows_then t2 t1 t b.grows g

pub grows_long : (t t2 : Trail) → Grows t t2 → length t.0 ≤ length t2.0
grows_long t t2 g = omega (arith, ap length g.extends.is, length-append t.0 g.extends.more)
