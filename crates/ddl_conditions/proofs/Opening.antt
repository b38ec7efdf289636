-- The places that were opened: at the end all types of the group were read.
use Rattle.std.proofs.Common.{◌≡◌, ℕ, ◌==◌, List, [], ◌∷◌, ◌++◌, refl, sym, ap, subst, ◌∙◌, arith, inl, inr, ◌⊎◌, zero, suc, length, replicate, true, false}
use Rattle.std.proofs.Common.{Bool, Contains, eqb-true, if◌then◌else◌}
use Rattle.std.proofs.lemmas.List.Elements.{Contains-append_left, Contains-push, Contains-push_cases}
use Rattle.ddl_types.specs.Types.{Ty, Sub, on}
use Rattle.ddl_unify.specs.Occurs.{has}
use Rattle.ddl_judging.specs.Shapes.{Shape, Shapes, no_shape, place_at}
use Rattle.ddl_conditions.specs.Standing.{Shows, root, inner, Stands}
use Rattle.ddl_conditions.specs.Seen.{AreRead, IsClear, IsOpening, IsRead, PlaceIn, PlaceInAny, is_seen, members}
use Rattle.ddl_conditions.proofs.Noting.{noted_both, noted_none}

none_in : {X : Type 0} (x : X) → Contains [] x → ⊥
none_in x c = absurd (omega (arith, c.1))

-- no type
pub read_none : (f : Sub) (v : ℕ) (seen : List Bool) (pending : List ℕ) → AreRead false f v [] seen seen pending pending
read_none f v seen pending = ((λ t c. absurd (none_in t c)), noted_none (PlaceInAny f []) seen pending (λ p i. none_in i.0 i.1))

-- one type more
pub read_more : (f : Sub) (v : ℕ) (ts ts2 : List Ty) (u : Ty) (seen seen2 seen3 : List Bool) (pending pending2 pending3 : List ℕ) → ts2 ≡ ts ++ u ∷ []
    → AreRead false f v ts seen seen2 pending pending2 → IsRead false f v u seen2 seen3 pending2 pending3 → AreRead false f v ts2 seen seen3 pending pending3
read_more f v ts ts2 u seen seen2 seen3 pending pending2 pending3 z r q =
    (absent, noted_both (PlaceInAny f ts) (PlaceIn (on u f)) (PlaceInAny f ts2) seen seen2 seen3 pending pending2 pending3 left right cases r.1 q.1)
  where
    cases_in : (t : Ty) → Contains ts2 t → Contains ts t ⊎ (u ≡ t)
    cases_in t c = Contains-push_cases ts u t (subst (λ xs. Contains xs t) z c)

    absent : (t : Ty) → Contains ts2 t → has (on t f) v ≡ false
    absent t c = elim (cases_in t c) [ inl d ↦ r.0 t d | inr e ↦ sym (ap (λ x. has (on x f) v) e) ∙ q.0 ]

    left : (p : ℕ) → PlaceInAny f ts p → PlaceInAny f ts2 p
    left p i = (i.0, subst (λ xs. Contains xs i.0) (sym z) (Contains-append_left ts (u ∷ []) i.0 i.1), i.2)

    right : (p : ℕ) → PlaceIn (on u f) p → PlaceInAny f ts2 p
    right p i = (u, subst (λ xs. Contains xs u) (sym z) (Contains-push ts u), i)

    cases : (p : ℕ) → PlaceInAny f ts2 p → PlaceInAny f ts p ⊎ PlaceIn (on u f) p
    cases p i = elim (cases_in i.0 i.1) [ inl d ↦ inl (i.0, d, i.2) | inr e ↦ inr (subst (λ x. PlaceIn (on x f) p) (sym e) i.2) ]

clear_read : (f : Sub) (v : ℕ) (ts : List Ty) (seen seen2 : List Bool) (pending pending2 : List ℕ) → AreRead false f v ts seen seen2 pending pending2 → (t : Ty)
    → Contains ts t → IsClear f v seen2 t
clear_read f v ts seen seen2 pending pending2 r t c = record { absent = r.0 t c; marked = λ p i. r.1.marks p (t, c, i) }

clear_keeps : (f : Sub) (v : ℕ) (seen seen2 : List Bool) (t : Ty) → ((p : ℕ) → is_seen seen p ≡ true → is_seen seen2 p ≡ true) → IsClear f v seen t
    → IsClear f v seen2 t
clear_keeps f v seen seen2 t keeps c = record { absent = c.absent; marked = λ p i. keeps p (c.marked p i) }

members_are : (ss : Shapes) (p : ℕ) (t : Ty) → Contains (members ss p) t → ((place_at ss.places p).vars ≡ 0) × Contains (place_at ss.places p).types t
members_are ss p t c = by_test ((place_at ss.places p).vars == 0) refl c
  where
    by_test : (b : Bool) → ((place_at ss.places p).vars == 0) ≡ b → Contains (if b then (place_at ss.places p).types else []) t
        → ((place_at ss.places p).vars ≡ 0) × Contains (place_at ss.places p).types t
    by_test true e c = (eqb-true (place_at ss.places p).vars 0 e, c)
    by_test false e c = absurd (none_in t c)

are_members : (ss : Shapes) (p : ℕ) (t : Ty) → (place_at ss.places p).vars ≡ 0 → Contains (place_at ss.places p).types t → Contains (members ss p) t
are_members ss p t e c =
    let z : ((place_at ss.places p).vars == 0) ≡ true = ap (λ n. n == 0) e in
    subst (λ b. Contains (if b then (place_at ss.places p).types else []) t) (sym z) c

unmarked : (ps : List Shape) (p : ℕ) → is_seen (replicate (length ps) false) p ≡ true → place_at ps p ≡ no_shape
unmarked [] p e = refl
unmarked (s ∷ ps) zero e = cc
unmarked (s ∷ ps) (suc p) e = unmarked ps p e

-- where no place was seen, none has to be opened
beyond : (ss : Shapes) (n p : ℕ) (t : Ty) → n ≡ length ss.places → is_seen (replicate n false) p ≡ true → Contains (members ss p) t → ⊥
beyond ss n p t l e c =
    let z : place_at ss.places p ≡ no_shape = unmarked ss.places p (ap (λ k. is_seen (replicate k false) p) (sym l) ∙ e) in
    none_in t (subst (λ (s : Shape). Contains s.types t) z (members_are ss p t c).1)

-- the types of the declarations were read
pub opening_start : (ss : Shapes) (roots : List Ty) (f : Sub) (v n : ℕ) (seen seen2 : List Bool) (pending pending2 : List ℕ) → seen ≡ replicate n false
    → n ≡ length ss.places → pending ≡ [] → AreRead false f v roots seen seen2 pending pending2 → IsOpening ss roots f v seen2 pending2
opening_start ss roots f v n seen seen2 pending pending2 es l ep r = record {
  roots_read = clear_read f v roots seen seen2 pending pending2 r;
  opened = λ p e. elim (r.1.new p e) [
    | inl old ↦ inr (λ t c. absurd (beyond ss n p t l (ap (λ xs. is_seen xs p) (sym es) ∙ old) c))
    | inr c ↦ inl c
  ];
  shown = λ p c. elim (r.1.from p c) [
    | inl d ↦ absurd (none_in p (subst (λ ps. Contains ps p) ep d))
    | inr i ↦ (i.0, root i.1, i.2)
  ];
}

-- a place that was pending shows the types of its members
member_shown : (ss : Shapes) (roots : List Ty) (f : Sub) (v : ℕ) (seen : List Bool) (pending rest : List ℕ) (p : ℕ) → IsOpening ss roots f v seen pending
    → pending ≡ rest ++ p ∷ [] → (t : Ty) → Contains (members ss p) t → Shows ss roots f t
member_shown ss roots f v seen pending rest p o z t m =
    let s : (u : Ty) × Shows ss roots f u × PlaceIn (on u f) p = o.shown p (subst (λ ps. Contains ps p) (sym z) (Contains-push rest p)) in
    let c : ((place_at ss.places p).vars ≡ 0) × Contains (place_at ss.places p).types t = members_are ss p t m in
    inner p s.1 s.2 c.0 c.1

-- a place is opened
pub opening_step : (ss : Shapes) (roots : List Ty) (f : Sub) (v : ℕ) (seen seen2 : List Bool) (pending rest pending2 : List ℕ) (p : ℕ)
    → IsOpening ss roots f v seen pending → pending ≡ rest ++ p ∷ [] → AreRead false f v (members ss p) seen seen2 rest pending2
    → IsOpening ss roots f v seen2 pending2
opening_step ss roots f v seen seen2 pending rest pending2 p o z r = record {
  roots_read = λ t c. clear_keeps f v seen seen2 t r.1.keeps (o.roots_read t c);
  opened = λ q e. elim (r.1.new q e) [ inl old ↦ opened q (o.opened q old) | inr c ↦ inl c ];
  shown = λ q c. elim (r.1.from q c) [
    | inl d ↦ o.shown q (subst (λ ps. Contains ps q) (sym z) (Contains-append_left rest (p ∷ []) q d))
    | inr i ↦ (i.0, member_shown ss roots f v seen pending rest p o z i.0 i.1, i.2)
  ];
}
  where
    opened : (q : ℕ) → Contains pending q ⊎ ((t : Ty) → Contains (members ss q) t → IsClear f v seen t)
        → Contains pending2 q ⊎ ((t : Ty) → Contains (members ss q) t → IsClear f v seen2 t)
    opened q (inl c) = elim (Contains-push_cases rest p q (subst (λ ps. Contains ps q) z c)) [
      | inl d ↦ inl (r.1.stays q d)
      | inr e ↦ inr (λ t m. clear_read f v (members ss p) seen seen2 rest pending2 r t (subst (λ x. Contains (members ss x) t) (sym e) m))
    ]
    opened q (inr h) = inr (λ t m. clear_keeps f v seen seen2 t r.1.keeps (h t m))

-- the variable stands in a member of a pending place
pub opening_found : (ss : Shapes) (roots : List Ty) (f : Sub) (v : ℕ) (seen seen2 : List Bool) (pending rest pending2 : List ℕ) (p : ℕ)
    → IsOpening ss roots f v seen pending → pending ≡ rest ++ p ∷ [] → AreRead true f v (members ss p) seen seen2 rest pending2 → Stands ss roots f v
opening_found ss roots f v seen seen2 pending rest pending2 p o z r =
    record { where_ = r.0; shown = member_shown ss roots f v seen pending rest p o z r.0 r.1; there = r.2 }

-- or in the type of a declaration
pub root_found : (ss : Shapes) (roots : List Ty) (f : Sub) (v : ℕ) (seen seen2 : List Bool) (pending pending2 : List ℕ)
    → AreRead true f v roots seen seen2 pending pending2 → Stands ss roots f v
root_found ss roots f v seen seen2 pending pending2 r = record { where_ = r.0; shown = root r.1; there = r.2 }

all_clear : (ss : Shapes) (roots : List Ty) (f : Sub) (v : ℕ) (seen : List Bool) → IsOpening ss roots f v seen [] → (t : Ty) → Shows ss roots f t
    → IsClear f v seen t
all_clear ss roots f v seen o t (root c) = o.roots_read t c
all_clear ss roots f v seen o t (inner {t = u} p s i e c) = elim (o.opened p ((all_clear ss roots f v seen o u s).marked p i)) [
  | inl d ↦ absurd (none_in p d)
  | inr h ↦ h t (are_members ss p t e c)
]

-- none is pending, and the variable stands in no type of the group
pub opening_end : (ss : Shapes) (roots : List Ty) (f : Sub) (v : ℕ) (seen : List Bool) (pending : List ℕ) → IsOpening ss roots f v seen pending → pending ≡ []
    → Stands ss roots f v → ⊥
opening_end ss roots f v seen pending o z s =
    let c : IsClear f v seen s.where_ = all_clear ss roots f v seen (subst (λ ps. IsOpening ss roots f v seen ps) z o) s.where_ s.shown in
    let e : false ≡ true = sym c.absent ∙ s.there in cc
