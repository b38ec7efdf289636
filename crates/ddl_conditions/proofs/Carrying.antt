-- What a solution shows, a longer list's shows too: each is the first followed by a further map.
use Rattle.std.proofs.Common.{◌≡◌, ℕ, ◌||◌, List, ◌++◌, refl, sym, ap, ◌∙◌, true, false, Bool, inl, inr, ◌⊎◌, eqb-true, eq-eqb}
use Rattle.std.specs.Prelude.{All}
use Rattle.std.proofs.lemmas.List.Elements.{All-weaker}
use Rattle.ddl_types.specs.Types.{Ty, Tys, Ty.var, Ty.con, Tys.none, Tys.more, Sub, on, on_all}
use Rattle.ddl_unify.specs.Occurs.{has, has_all}
use Rattle.ddl_unify.specs.Equations.{Equation, Solves, MostGeneral}
use Rattle.ddl_unify.proofs.Sub.{on_on, on_same}
use Rattle.ddl_unify.proofs.Steps.{solves_front}
use Rattle.ddl_judging.specs.Demands.{Asked}
use Rattle.ddl_judging.specs.Shapes.{Shapes}
use Rattle.ddl_conditions.specs.Standing.{is_place, has_place, has_place_all, Shows, root, inner, Stands}
use Rattle.ddl_conditions.specs.Growing.{Group, IsFree}

-- a map is another one followed by a third one
abbrev pub Follows : Sub → Sub → Sub → Type 0
Follows g f h = (n : ℕ) → g n ≡ on (f n) h

pub along : (t : Ty) (f g h : Sub) → Follows g f h → on t g ≡ on (on t f) h
along t f g h e = on_same t g (λ n. on (f n) h) e ∙ sym (on_on t f h)

or_right_true : (a b : Bool) → b ≡ true → (a || b) ≡ true
or_right_true true b e = refl
or_right_true false b e = e

or_split : (a b : Bool) → (a || b) ≡ true → (a ≡ true) ⊎ (b ≡ true)
or_split true b e = inl refl
or_split false b e = inr e

mutual
  has_on : (t : Ty) (h : Sub) (v w : ℕ) → h v ≡ var w → has t v ≡ true → has (on t h) w ≡ true
  has_on (var n) h v w e k = let q : n ≡ v = eqb-true n v k in ap (λ x. has (h x) w) q ∙ ap (λ x. has x w) e ∙ eq-eqb w w refl
  has_on (con c ts) h v w e k = has_all_on ts h v w e k

  has_all_on : (ts : Tys) (h : Sub) (v w : ℕ) → h v ≡ var w → has_all ts v ≡ true → has_all (on_all ts h) w ≡ true
  has_all_on none h v w e k = k
  has_all_on (more t ts) h v w e k =
      elim (or_split (has t v) (has_all ts v) k) [
        | inl q ↦ ap (λ b. b || has_all (on_all ts h) w) (has_on t h v w e q)
        | inr q ↦ or_right_true (has (on t h) w) (has_all (on_all ts h) w) (has_all_on ts h v w e q)
      ]

mutual
  place_on : (t : Ty) (h : Sub) (p : ℕ) → has_place t p ≡ true → has_place (on t h) p ≡ true
  place_on (var n) h p k = let q : false ≡ true = k in absurd (cc)
  place_on (con c ts) h p k =
      elim (or_split (is_place p c) (has_place_all ts p) k) [
        | inl q ↦ ap (λ b. b || has_place_all (on_all ts h) p) q
        | inr q ↦ or_right_true (is_place p c) (has_place_all (on_all ts h) p) (place_all_on ts h p q)
      ]

  place_all_on : (ts : Tys) (h : Sub) (p : ℕ) → has_place_all ts p ≡ true → has_place_all (on_all ts h) p ≡ true
  place_all_on none h p k = k
  place_all_on (more t ts) h p k =
      elim (or_split (has_place t p) (has_place_all ts p) k) [
        | inl q ↦ ap (λ b. b || has_place_all (on_all ts h) p) (place_on t h p q)
        | inr q ↦ or_right_true (has_place (on t h) p) (has_place_all (on_all ts h) p) (place_all_on ts h p q)
      ]

-- a place that stands in a type as it is solved stays there
pub shows_on : (ss : Shapes) (roots : List Ty) (f g h : Sub) (t : Ty) → Follows g f h → Shows ss roots f t → Shows ss roots g t
shows_on ss roots f g h t e (root c) = root c
shows_on ss roots f g h t e (inner {t = s} p s_shown there plain c) =
    inner p (shows_on ss roots f g h s e s_shown) (ap (λ x. has_place x p) (along s f g h e) ∙ place_on (on s f) h p there) plain c

-- a variable that stands in the types of a group stays there as long as it is a variable
pub stands_on : (ss : Shapes) (roots : List Ty) (f g h : Sub) (v w : ℕ) → Follows g f h → h v ≡ var w → Stands ss roots f v → Stands ss roots g w
stands_on ss roots f g h v w e k s = record {
  where_ = s.where_;
  shown = shows_on ss roots f g h s.where_ e s.shown;
  there = ap (λ x. has x w) (along s.where_ f g h e) ∙ has_on (on s.where_ f) h v w k s.there;
}

-- what is free under a longer list was free before
pub free_back : (z : Group) (f g h : Sub) (a : Asked) → Follows g f h → IsFree z g a → IsFree z f a
free_back z f g h a e free = by_type (on free.of f) refl (sym (along free.of f g h e) ∙ free.free)
  where
    by_type : (x : Ty) → on free.of f ≡ x → on x h ≡ var free.variable → IsFree z f a
    by_type (var v) q k = record {
      of = free.of;
      number = free.number;
      variable = v;
      free = q;
      unkept = λ p s. free.unkept p (stands_on z.shapes z.roots f g h v free.variable e k s);
    }
    by_type (con c ts) q k = absurd (cc)

pub unfree_stays : (z : Group) (es extra : List Equation) (f g : Sub) (xs : List Asked) → MostGeneral es f → Solves g (es ++ extra)
    → All (λ a. IsFree z f a → ⊥) xs → All (λ a. IsFree z g a → ⊥) xs
unfree_stays z es extra f g xs m s none_free =
    let i = m.general g (solves_front g es extra s) in
    All-weaker (λ a. IsFree z f a → ⊥) (λ a. IsFree z g a → ⊥) (λ a no free. no (free_back z f g i.0 a i.1 free)) xs none_free
