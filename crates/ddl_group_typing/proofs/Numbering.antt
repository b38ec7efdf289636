-- Two solutions of which each is the other followed by a map number a group's variables alike, and give its types alike.
use Rattle.std.proofs.Common.{◌≡◌, ℕ, suc, ◌==◌, ◌||◌, List, [], ◌∷◌, ◌++◌, map, length, Bool, true, false, if◌then◌else◌, refl, sym, ap, ◌∙◌, subst}
use Rattle.std.proofs.Common.{eqb-true, eq-eqb}
use Rattle.ddl_types.specs.Types.{Ty, Ty.var, Ty.con, Tys, Tys.none, Tys.more, Sub, on, on_all, Head, Head.place}
use Rattle.ddl_judging.specs.Shapes.{Shapes, place_at}
use Rattle.ddl_schemes.specs.Order.{AreVariables, Seen, Walks, among, is_new, members, parts, with_head, with_variable}
use Rattle.ddl_schemes.specs.Renaming.{renaming, seen, shared}

same_bools : (b c : Bool) → (b ≡ true → c ≡ true) → (c ≡ true → b ≡ true) → b ≡ c
same_bools true c p q = sym (p refl)
same_bools false true p q = let e : false ≡ true = q refl in absurd (cc)
same_bools false false p q = refl

-- the variable that a type is
abbrev the_variable : Ty → ℕ
the_variable (var v) = v
the_variable (con h us) = 0

-- a map of one solution's types to the other's, and one back
module _ (h k : Sub) where
  -- a type that comes back as it was
  abbrev Back : Ty → Type 0
  Back t = on (on t h) k ≡ t

  abbrev AllBack : Tys → Type 0
  AllBack us = on_all (on_all us h) k ≡ us

  -- one variable is the other
  pub record IsOther (v w : ℕ) : Type 0 where
    pub there : h v ≡ var w
    pub back : k w ≡ var v

  -- such a variable becomes one
  other : {A : Type 0} (v : ℕ) → Back (var v) → ((w : ℕ) → IsOther v w → A) → A
  other {A} v b next = by_type (h v) refl b
    where
      by_type : (u : Ty) → h v ≡ u → on (h v) k ≡ var v → A
      by_type (var w) e c = next w (record { there = e; back = sym (ap (λ x. on x k) e) ∙ c })
      by_type (con d us) e c = let q : con d (on_all us k) ≡ var v = sym (ap (λ x. on x k) e) ∙ c in absurd (cc)

  same_test : {m n v w : ℕ} → IsOther m n → IsOther v w → (m == v) ≡ (n == w)
  same_test {m} {n} {v} {w} a c = same_bools (m == v) (n == w)
      (λ t. eq-eqb n w (ap the_variable (sym a.there ∙ ap h (eqb-true m v t) ∙ c.there)))
      (λ t. eq-eqb m v (ap the_variable (sym a.back ∙ ap k (eqb-true n w t) ∙ c.back)))

  -- variables one by one
  pub data AreOthers : List ℕ → List ℕ → Type 0 where
    no_more : AreOthers [] []
    one_more : {v w : ℕ} {vs ws : List ℕ} → IsOther v w → AreOthers vs ws → AreOthers (v ∷ vs) (w ∷ ws)

  others_length : {vs ws : List ℕ} → AreOthers vs ws → length vs ≡ length ws
  others_length no_more = refl
  others_length (one_more o os) = ap suc (others_length os)

  others_end : {vs ws : List ℕ} {v w : ℕ} → AreOthers vs ws → IsOther v w → AreOthers (vs ++ v ∷ []) (ws ++ w ∷ [])
  others_end no_more o = one_more o no_more
  others_end (one_more p os) o = one_more p (others_end os o)

  same_among : {vs ws : List ℕ} {v w : ℕ} → AreOthers vs ws → IsOther v w → among vs v ≡ among ws w
  same_among no_more o = refl
  same_among {vs = x ∷ vs} {ws = y ∷ ws} {v = m} {w = n} (one_more p os) o = ap (λ b. b || among vs m) (same_test p o)
      ∙ ap (λ b. (y == n) || b) (same_among os o)

  with_others : (s z : Seen) {v w : ℕ} → AreOthers s.variables z.variables → IsOther v w → AreOthers (with_variable v s).variables (with_variable w z).variables
  with_others s z {v} {w} os o = by_test (among s.variables v) (among z.variables w) (same_among os o)
    where
      by_test : (b c : Bool) → b ≡ c → AreOthers (if b then s else record s { variables = s.variables ++ v ∷ [] }).variables
          (if c then z else record z { variables = z.variables ++ w ∷ [] }).variables
      by_test true true e = os
      by_test false false e = others_end os o
      by_test true false e = let q : true ≡ false = e in absurd (cc)
      by_test false true e = let q : false ≡ true = e in absurd (cc)

  same_places : (s z : Seen) (v w : ℕ) → s.places ≡ z.places → (with_variable v s).places ≡ (with_variable w z).places
  same_places s z v w e = by_test (among s.variables v) (among z.variables w)
    where
      by_test : (b c : Bool) → (if b then s else record s { variables = s.variables ++ v ∷ [] }).places
          ≡ (if c then z else record z { variables = z.variables ++ w ∷ [] }).places
      by_test true true = e
      by_test true false = e
      by_test false true = e
      by_test false false = e

  -- types one by one
  data AreAlike : List Ty → List Ty → Type 0 where
    no_types : AreAlike [] []
    a_variable : {v w : ℕ} {ts us : List Ty} → IsOther v w → AreAlike ts us → AreAlike (var v ∷ ts) (var w ∷ us)
    a_head : {c : Head} {xs ys : Tys} {ts us : List Ty} → AreAlike (parts xs) (parts ys) → AreAlike ts us → AreAlike (con c xs ∷ ts) (con c ys ∷ us)

  alike_append : {ts us xs ys : List Ty} → AreAlike ts us → AreAlike xs ys → AreAlike (ts ++ xs) (us ++ ys)
  alike_append no_types b = b
  alike_append (a_variable o a) b = a_variable o (alike_append a b)
  alike_append (a_head p a) b = a_head p (alike_append a b)

  tail_back : (t : Ty) (ts : Tys) → AllBack (more t ts) → Back t × AllBack ts
  tail_back t ts e = (ap first_of e, ap rest_of e)
    where
      first_of : Tys → Ty
      first_of none = t
      first_of (more u us) = u

      rest_of : Tys → Tys
      rest_of none = none
      rest_of (more u us) = us

  parts_back : (c : Head) (xs : Tys) → Back (con c xs) → AllBack xs
  parts_back c xs e = ap parts_of e
    where
      parts_of : Ty → Tys
      parts_of (var v) = xs
      parts_of (con d us) = us

  mutual
    alike : (t : Ty) {ts us : List Ty} → Back t → AreAlike ts us → AreAlike (t ∷ ts) (on t h ∷ us)
    alike (var v) {ts} {us} b a = let P : Ty → Type 0 = λ x. AreAlike (var v ∷ ts) (x ∷ us) in other v b (λ w o. subst P (sym o.there) (a_variable o a))
    alike (con c xs) b a = a_head (alike_parts xs (parts_back c xs b)) a

    alike_parts : (xs : Tys) → AllBack xs → AreAlike (parts xs) (parts (on_all xs h))
    alike_parts none b = no_types
    alike_parts (more t xs) b = let p = tail_back t xs b in alike t p.0 (alike_parts xs p.1)

  -- ---- solutions

  module _ (f g : Sub) (there : (t : Ty) → on t g ≡ on (on t f) h) (back : (t : Ty) → on t f ≡ on (on t g) k) where
    solved_back : (t : Ty) → Back (on t f)
    solved_back t = ap (λ x. on x k) (sym (there t)) ∙ sym (back t)

    alike_solved : (ts : List Ty) → AreAlike (map (λ t. on t f) ts) (map (λ t. on t g) ts)
    alike_solved [] = no_types
    alike_solved (t ∷ ts) = let P : Ty → Type 0 = λ x. AreAlike (on t f ∷ map (λ u. on u f) ts) (x ∷ map (λ u. on u g) ts) in
        subst P (sym (there t)) (alike (on t f) (solved_back t) (alike_solved ts))

    -- ---- walks

    alike_if : (b c : Bool) (ts : List Ty) → b ≡ c → AreAlike (if b then map (λ t. on t f) ts else []) (if c then map (λ t. on t g) ts else [])
    alike_if true true ts e = alike_solved ts
    alike_if false false ts e = no_types
    alike_if true false ts e = let q : true ≡ false = e in absurd (cc)
    alike_if false true ts e = let q : false ≡ true = e in absurd (cc)

    same_new : (ss : Shapes) (c : Head) (s z : Seen) → s.places ≡ z.places → is_new ss s c ≡ is_new ss z c
    same_new ss (place p) s z e = ap (λ ps. if (place_at ss.places p).vars == 0 then (if among ps p then false else true) else false) e
    same_new ss d s z e = refl

    alike_members : (ss : Shapes) (c : Head) (s z : Seen) → s.places ≡ z.places → AreAlike (members ss f s c) (members ss g z c)
    alike_members ss (place p) s z e = alike_if (is_new ss s (place p)) (is_new ss z (place p)) (place_at ss.places p).types (same_new ss (place p) s z e)
    alike_members ss d s z e = no_types

    variables_stay : (ss : Shapes) (c : Head) (s : Seen) → (with_head ss c s).variables ≡ s.variables
    variables_stay ss (place p) s = by_test (is_new ss s (place p))
      where
        by_test : (b : Bool) → (if b then record s { places = p ∷ s.places } else s).variables ≡ s.variables
        by_test true = refl
        by_test false = refl
    variables_stay ss d s = refl

    places_after : (ss : Shapes) (c : Head) (s z : Seen) → s.places ≡ z.places → (with_head ss c s).places ≡ (with_head ss c z).places
    places_after ss (place p) s z e = by_test (is_new ss s (place p)) (is_new ss z (place p)) (same_new ss (place p) s z e)
      where
        by_test : (b c : Bool) → b ≡ c → (if b then record s { places = p ∷ s.places } else s).places
            ≡ (if c then record z { places = p ∷ z.places } else z).places
        by_test true true q = ap (λ ps. p ∷ ps) e
        by_test false false q = e
        by_test true false q = let r : true ≡ false = q in absurd (cc)
        by_test false true q = let r : false ≡ true = q in absurd (cc)
    places_after ss d s z e = e

    walk_alike : (ss : Shapes) (ts us : List Ty) (s y s2 z : Seen) → AreAlike ts us → s.places ≡ s2.places → AreOthers s.variables s2.variables
        → Walks ss f ts s y → Walks ss g us s2 z → AreOthers y.variables z.variables
    walk_alike ss ts us s y s2 z no_types e os Walks.ends Walks.ends = os
    walk_alike ss ts us s y s2 z (a_variable {v = m} {w = n} o a) e os (Walks.variable v) (Walks.variable w) =
        walk_alike ss _ _ _ y _ z a (same_places s s2 m n e) (with_others s s2 os o) v w
    walk_alike ss ts us s y s2 z (a_head {c = c} {xs = xs} {ys = ys} p a) e os (Walks.head v) (Walks.head w) =
        let P : List ℕ → Type 0 = λ ns. AreOthers ns (with_head ss c s2).variables in
        let Q : List ℕ → Type 0 = λ ns. AreOthers s.variables ns in
        walk_alike ss _ _ _ y _ z (alike_append (alike_append p (alike_members ss c s s2 e)) a) (places_after ss c s s2 e)
        (subst P (sym (variables_stay ss c s)) (subst Q (sym (variables_stay ss c s2)) os)) v w

    pub numbered_alike : (ss : Shapes) (roots : List Ty) (vs ws : List ℕ) → AreVariables ss f roots vs → AreVariables ss g roots ws → AreOthers vs ws
    numbered_alike ss roots vs ws a b = walk_alike ss _ _ _ _ _ _ (alike_solved roots) refl no_more a.walk b.walk

    -- ---- types

    renamed_alike : {vs ws : List ℕ} {v w : ℕ} (n : ℕ) → AreOthers vs ws → IsOther v w → renaming vs n v ≡ renaming ws n w
    renamed_alike n no_more o = refl
    renamed_alike {vs = x ∷ vs} {ws = y ∷ ws} {v = v} {w = w} n (one_more p os) o =
        ap (λ b. if b then var n else renaming vs (suc n) v) (same_test p o) ∙ ap (λ u. if y == w then var n else u) (renamed_alike (suc n) os o)

    mutual
      type_alike : {vs ws : List ℕ} (t : Ty) → AreOthers vs ws → Back t → on t (renaming vs 0) ≡ on (on t h) (renaming ws 0)
      type_alike {vs} {ws} (var v) os b = other v b (λ w o. renamed_alike 0 os o ∙ sym (ap (λ x. on x (renaming ws 0)) o.there))
      type_alike (con c xs) os b = ap (con c) (parts_alike xs os (parts_back c xs b))

      parts_alike : {vs ws : List ℕ} (xs : Tys) → AreOthers vs ws → AllBack xs → on_all xs (renaming vs 0) ≡ on_all (on_all xs h) (renaming ws 0)
      parts_alike none os b = refl
      parts_alike {vs} {ws} (more t xs) os b = let p = tail_back t xs b in
          ap (λ x. more x (on_all xs (renaming vs 0))) (type_alike t os p.0) ∙ ap (more (on (on t h) (renaming ws 0))) (parts_alike xs os p.1)

    pub seen_alike : (first : ℕ) (vs ws : List ℕ) → AreOthers vs ws → (t : Ty) → seen first vs f t ≡ seen first ws g t
    seen_alike first vs ws os t =
        ap (λ n. shared first n (on (on t f) (renaming vs 0))) (others_length os)
        ∙ ap (shared first (length ws)) (type_alike (on t f) os (solved_back t) ∙ ap (λ x. on x (renaming ws 0)) (sym (there t)))

    pub count_alike : (vs ws : List ℕ) → AreOthers vs ws → length vs ≡ length ws
    count_alike vs ws os = others_length os
