-- The places in a type were marked, part by part.
use Rattle.std.proofs.Common.{◌≡◌, ℕ, ◌+◌, ◌<◌, List, [], ◌∷◌, ◌++◌, refl, sym, ap, subst, ◌∙◌, arith, inl, inr, ◌⊎◌, zero, suc, map, take, set, length}
use Rattle.std.proofs.Common.{length-append, get_or, true, false, ◌||◌, Bool, Contains, add-one, eqb-true}
use Rattle.std.proofs.lemmas.Bool.Decides.{eqb_tells}
use Rattle.std.proofs.lemmas.List.{get_or-set_same, get_or-set_other}
use Rattle.std.proofs.lemmas.List.Elements.{Contains-append_left, Contains-push, Contains-push_cases}
use Rattle.std.proofs.lemmas.List.Sums.{sum_by-set}
use Rattle.ddl_types.specs.declared.ty.Ty as program
use Rattle.ddl_types.specs.Types.{Head, Ty, Ty.con, Tys, Tys.none, Tys.more, Head.place, tys_of}
use Rattle.ddl_types.specs.TyView.{ty_view}
use Rattle.ddl_conditions.specs.Standing.{has_place, has_place_all, is_place}
use Rattle.ddl_conditions.specs.Seen.{Noted, PlaceIn, is_seen, unseen, weight}

-- nothing is marked
pub noted_none : (IsIn : ℕ → Type 0) (seen : List Bool) (pending : List ℕ) → ((p : ℕ) → IsIn p → ⊥) → Noted IsIn seen seen pending pending
noted_none IsIn seen pending without = record {
  counted = refl;
  keeps = λ p e. e;
  marks = λ p i. absurd (without p i);
  new = λ p e. inl e;
  stays = λ p c. c;
  from = λ p c. inl c;
}

-- the same places, said otherwise
pub noted_same : (A B : ℕ → Type 0) (seen seen2 : List Bool) (pending pending2 : List ℕ) → ((p : ℕ) → A p → B p) → ((p : ℕ) → B p → A p)
    → Noted A seen seen2 pending pending2 → Noted B seen seen2 pending pending2
noted_same A B seen seen2 pending pending2 there back n = record {
  counted = n.counted;
  keeps = n.keeps;
  marks = λ p i. n.marks p (back p i);
  new = n.new;
  stays = n.stays;
  from = λ p c. elim (n.from p c) [ inl d ↦ inl d | inr i ↦ inr (there p i) ];
}

-- the places of two sets, one after the other
pub noted_both : (A B C : ℕ → Type 0) (seen seen2 seen3 : List Bool) (pending pending2 pending3 : List ℕ) → ((p : ℕ) → A p → C p) → ((p : ℕ) → B p → C p)
    → ((p : ℕ) → C p → A p ⊎ B p)
    → Noted A seen seen2 pending pending2 → Noted B seen2 seen3 pending2 pending3 → Noted C seen seen3 pending pending3
noted_both A B C seen seen2 seen3 pending pending2 pending3 left right cases n m = record {
  counted = m.counted ∙ n.counted;
  keeps = λ p e. m.keeps p (n.keeps p e);
  marks = λ p i. elim (cases p i) [ inl a ↦ m.keeps p (n.marks p a) | inr b ↦ m.marks p b ];
  new = λ p e. elim (m.new p e) [
    | inl e2 ↦ elim (n.new p e2) [ inl e1 ↦ inl e1 | inr c ↦ inr (m.stays p c) ]
    | inr c ↦ inr c
  ];
  stays = λ p c. m.stays p (n.stays p c);
  from = λ p c. elim (m.from p c) [
    | inl d ↦ elim (n.from p d) [ inl c1 ↦ inl c1 | inr a ↦ inr (left p a) ]
    | inr b ↦ inr (right p b)
  ];
}

within : (seen : List Bool) (p : ℕ) → is_seen seen p ≡ false → p < length seen
within [] p e = cc
within (b ∷ seen) zero e = omega arith
within (b ∷ seen) (suc p) e = omega (arith, within seen p e)

-- a place that is new
pub noted_new : (p : ℕ) (seen : List Bool) (pending pending2 : List ℕ) → is_seen seen p ≡ false → pending2 ≡ pending ++ p ∷ []
    → Noted (λ q. q ≡ p) seen (set seen p true) pending pending2
noted_new p seen pending pending2 e z = record {
  counted = counted;
  keeps = keeps;
  marks = λ q i. ap (is_seen (set seen p true)) i ∙ now_seen;
  new = new;
  stays = λ q c. subst (λ ps. Contains ps q) (sym z) (Contains-append_left pending (p ∷ []) q c);
  from = λ q c. elim (Contains-push_cases pending p q (subst (λ ps. Contains ps q) z c)) [ inl d ↦ inl d | inr i ↦ inr (sym i) ];
}
  where
    is_in : p < length seen
    is_in = within seen p e

    now_seen : is_seen (set seen p true) p ≡ true
    now_seen = get_or-set_same seen p true true is_in

    counted : unseen (set seen p true) + length pending2 ≡ unseen seen + length pending
    counted =
        let a : unseen (set seen p true) + weight (is_seen seen p) ≡ unseen seen + 0 = sum_by-set weight seen p true true is_in in
        omega (arith, a, ap weight e, ap length z, length-append pending (p ∷ []))

    keeps : (q : ℕ) → is_seen seen q ≡ true → is_seen (set seen p true) q ≡ true
    keeps q h = elim (eqb_tells q p) [ inl i ↦ ap (is_seen (set seen p true)) i.1 ∙ now_seen | inr i ↦ get_or-set_other seen p q true true i.1 ∙ h ]

    new : (q : ℕ) → is_seen (set seen p true) q ≡ true → (is_seen seen q ≡ true) ⊎ Contains pending2 q
    new q h = elim (eqb_tells q p) [
      | inl i ↦ inr (subst (λ ps. Contains ps q) (sym z) (subst (λ (x : ℕ). Contains (pending ++ p ∷ []) x) (sym i.1) (Contains-push pending p)))
      | inr i ↦ inl (sym (get_or-set_other seen p q true true i.1) ∙ h)
    ]

same : (n : ℕ) → is_place n (place n) ≡ true
same n = elim (eqb_tells n n) [ inl q ↦ q.0 | inr q ↦ absurd (q.1 refl) ]

or_left : (a b : Bool) → a ≡ true → (a || b) ≡ true
or_left a b e = ap (λ x. x || b) e

or_right : (a b : Bool) → b ≡ true → (a || b) ≡ true
or_right true b e = refl
or_right false b e = e

or_cases : (a b : Bool) → (a || b) ≡ true → (a ≡ true) ⊎ (b ≡ true)
or_cases true b e = inl refl
or_cases false b e = inr e

-- a head that is no place's
abbrev pub IsPlain : Head → Type 0
IsPlain h = (p : ℕ) → is_place p h ≡ false

-- one part
pub noted_one : (h : Head) (t x : Ty) (seen seen2 : List Bool) (pending pending2 : List ℕ) → IsPlain h → t ≡ con h (more x none)
    → Noted (PlaceIn x) seen seen2 pending pending2 → Noted (PlaceIn t) seen seen2 pending pending2
noted_one h t x seen seen2 pending pending2 plain e n = noted_same (PlaceIn x) (PlaceIn t) seen seen2 pending pending2 there back n
  where
    parts : (p : ℕ) → has_place t p ≡ (has_place x p || false)
    parts p = ap (λ y. has_place y p) e ∙ ap (λ b. b || (has_place x p || false)) (plain p)

    there : (p : ℕ) → PlaceIn x p → PlaceIn t p
    there p i = parts p ∙ or_left (has_place x p) false i

    back : (p : ℕ) → PlaceIn t p → PlaceIn x p
    back p i = elim (or_cases (has_place x p) false (sym (parts p) ∙ i)) [ inl a ↦ a | inr z ↦ cc ]

-- two parts
pub noted_two : (h : Head) (t x y : Ty) (seen seen2 seen3 : List Bool) (pending pending2 pending3 : List ℕ) → IsPlain h → t ≡ con h (more x (more y none))
    → Noted (PlaceIn x) seen seen2 pending pending2 → Noted (PlaceIn y) seen2 seen3 pending2 pending3 → Noted (PlaceIn t) seen seen3 pending pending3
noted_two h t x y seen seen2 seen3 pending pending2 pending3 plain e n m =
    noted_both (PlaceIn x) (PlaceIn y) (PlaceIn t) seen seen2 seen3 pending pending2 pending3 left right cases n m
  where
    parts : (p : ℕ) → has_place t p ≡ (has_place x p || (has_place y p || false))
    parts p = ap (λ z. has_place z p) e ∙ ap (λ b. b || (has_place x p || (has_place y p || false))) (plain p)

    left : (p : ℕ) → PlaceIn x p → PlaceIn t p
    left p i = parts p ∙ or_left (has_place x p) (has_place y p || false) i

    right : (p : ℕ) → PlaceIn y p → PlaceIn t p
    right p i = parts p ∙ or_right (has_place x p) (has_place y p || false) (or_left (has_place y p) false i)

    cases : (p : ℕ) → PlaceIn t p → PlaceIn x p ⊎ PlaceIn y p
    cases p i = elim (or_cases (has_place x p) (has_place y p || false) (sym (parts p) ∙ i)) [
      | inl a ↦ inl a
      | inr b ↦ elim (or_cases (has_place y p) false b) [ inl c ↦ inr c | inr z ↦ cc ]
    ]

abbrev pub PlaceInAll : Tys → ℕ → Type 0
PlaceInAll ts p = has_place_all ts p ≡ true

-- a place, and its parts
pub noted_place : (number : ℕ) (t : Ty) (ts : Tys) (seen seen2 seen3 : List Bool) (pending pending2 pending3 : List ℕ) → t ≡ con (place number) ts
    → Noted (λ q. q ≡ number) seen seen2 pending pending2 → Noted (PlaceInAll ts) seen2 seen3 pending2 pending3 → Noted (PlaceIn t) seen seen3 pending pending3
noted_place number t ts seen seen2 seen3 pending pending2 pending3 e n m =
    noted_both (λ q. q ≡ number) (PlaceInAll ts) (PlaceIn t) seen seen2 seen3 pending pending2 pending3 left right cases n m
  where
    parts : (p : ℕ) → has_place t p ≡ (is_place p (place number) || has_place_all ts p)
    parts p = ap (λ z. has_place z p) e

    left : (p : ℕ) → p ≡ number → PlaceIn t p
    left p i = parts p ∙ or_left (is_place p (place number)) (has_place_all ts p) (ap (λ q. is_place q (place number)) i ∙ same number)

    right : (p : ℕ) → PlaceInAll ts p → PlaceIn t p
    right p i = parts p ∙ or_right (is_place p (place number)) (has_place_all ts p) i

    cases : (p : ℕ) → PlaceIn t p → (p ≡ number) ⊎ PlaceInAll ts p
    cases p i = elim (or_cases (is_place p (place number)) (has_place_all ts p) (sym (parts p) ∙ i)) [ inl a ↦ inl (eqb-true p number a) | inr b ↦ inr b ]

-- the places of one part more
places_next : (xs : List program.Ty) (i : ℕ) (x : program.Ty) (p : ℕ) → i < length xs → x ≡ get_or xs i x
    → has_place_all (tys_of (map ty_view (take (i + 1) xs))) p ≡ (has_place_all (tys_of (map ty_view (take i xs))) p || has_place (ty_view x) p)
places_next xs i x p h e = rw (add-one i) (by_suc xs i h e)
  where
    or_false : (a : Bool) → (a || false) ≡ a
    or_false true = refl
    or_false false = refl

    or_same : (a b c : Bool) → (a || (b || c)) ≡ ((a || b) || c)
    or_same true b c = refl
    or_same false b c = refl

    by_suc : (xs : List program.Ty) (i : ℕ) → i < length xs → x ≡ get_or xs i x
        → has_place_all (tys_of (map ty_view (take (suc i) xs))) p ≡ (has_place_all (tys_of (map ty_view (take i xs))) p || has_place (ty_view x) p)
    by_suc [] i h e = absurd (omega arith)
    by_suc (y ∷ xs) zero h e = or_false (has_place (ty_view y) p) ∙ sym (ap (λ (q : program.Ty). has_place (ty_view q) p) e)
    by_suc (y ∷ xs) (suc i) h e = ap (λ b. has_place (ty_view y) p || b) (by_suc xs i (omega arith) e)
        ∙ or_same (has_place (ty_view y) p) (has_place_all (tys_of (map ty_view (take i xs))) p) (has_place (ty_view x) p)

pub noted_next : (xs : List program.Ty) (i : ℕ) (x : program.Ty) (seen seen2 seen3 : List Bool) (pending pending2 pending3 : List ℕ) → i < length xs
    → x ≡ get_or xs i x
    → Noted (PlaceInAll (tys_of (map ty_view (take i xs)))) seen seen2 pending pending2 → Noted (PlaceIn (ty_view x)) seen2 seen3 pending2 pending3
    → Noted (PlaceInAll (tys_of (map ty_view (take (i + 1) xs)))) seen seen3 pending pending3
noted_next xs i x seen seen2 seen3 pending pending2 pending3 h e n m =
    noted_both (PlaceInAll (tys_of (map ty_view (take i xs)))) (PlaceIn (ty_view x)) (PlaceInAll (tys_of (map ty_view (take (i + 1) xs)))) seen seen2 seen3
    pending pending2 pending3
    (λ p z. places_next xs i x p h e ∙ or_left (before p) (has_place (ty_view x) p) z)
    (λ p z. places_next xs i x p h e ∙ or_right (before p) (has_place (ty_view x) p) z)
    (λ p z. or_cases (before p) (has_place (ty_view x) p) (sym (places_next xs i x p h e) ∙ z))
    n m
  where
    before : ℕ → Bool
    before p = has_place_all (tys_of (map ty_view (take i xs))) p
