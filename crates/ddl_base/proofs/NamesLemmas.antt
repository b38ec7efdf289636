-- Facts of lists of distinct texts, each of them held in a value of another type.
use Rattle.std.proofs.Common.{◌≡◌, ℕ, zero, suc, ◌+◌, ◌<◌, ◌≤◌, Bool, true, false, ◌||◌, List, [], ◌∷◌, ◌++◌, map, length, get_or, slice_get, position, Some}
use Rattle.std.proofs.Common.{is_some, Contains, nat_eq, refl, sym, ap, subst, ◌∙◌, true≢false, if◌then◌else◌, ◌⊎◌, inl, inr, arith}
use Rattle.std.proofs.Math.Bool.{or-true}
use Rattle.std.proofs.lemmas.Bool.{cases_order}
use Rattle.std.proofs.lemmas.List.{get_or-map, length-map, map_push}
use Rattle.std.proofs.lemmas.List.Quantifiers.{position-Some}
use Rattle.std.proofs.lemmas.Map.Keys.{apart_from_distinct}
use Rattle.std.proofs.lemmas.Option.{slice_get-get_or, slice_get_within, get_or_from_slice_get}
use Rattle.std.specs.Cmp.Lexicographic.{pointwise, bytes_decides}
use Rattle.std.specs.List.{list_any, IsDistinct}
use Rattle.indexmap.specs.IndexSet.{insert_key}
use Rattle.ddl_base.specs.Names.{AreDistinct, IsWith}

contained : (names : List (List ℕ)) (n : ℕ) (text : List ℕ) → slice_get names n ≡ Some text → Contains names text
contained names n text p = (n, slice_get_within names n text p, get_or_from_slice_get names n text text p)

module _ {K : Type 0} (f : K → List ℕ) where
  at-map : (ks : List K) (i : ℕ) (d : K) (text : List ℕ) → slice_get (map f ks) i ≡ Some text → (i < length ks) × (f (get_or ks i d) ≡ text)
  at-map ks i d text p =
      let within : i < length ks = subst (λ n. i < n) (length-map ks f) (slice_get_within (map f ks) i text p) in
      (within, sym (get_or-map f ks i d text within) ∙ get_or_from_slice_get (map f ks) i text text p)

  place-map : (ks : List K) (i : ℕ) (d : K) (text : List ℕ) → i < length ks → f (get_or ks i d) ≡ text → slice_get (map f ks) i ≡ Some text
  place-map ks i d text within e =
      slice_get-get_or (map f ks) i text (subst (λ n. i < n) (sym (length-map ks f)) within) ∙ ap Some (get_or-map f ks i d text within ∙ e)

  any-at : (ks : List K) (text : List ℕ) (i : ℕ) (d : K) → i < length ks → f (get_or ks i d) ≡ text → list_any (λ k. pointwise nat_eq text (f k)) ks ≡ true
  any-at [] text i d l e = absurd (omega arith)
  any-at (x ∷ xs) text zero d l e = ap (λ b. b || list_any (λ k. pointwise nat_eq text (f k)) xs) ((bytes_decides text (f x)).1 (sym e))
  any-at (x ∷ xs) text (suc i) d l e = ap (λ b. pointwise nat_eq text (f x) || b) (any-at xs text i d (omega arith) e) ∙ or-true (pointwise nat_eq text (f x))

  -- a text that is found stands there, and nothing changes
  pub IsWith-found : (ks : List K) (text : List ℕ) (n : ℕ) → position (λ k. pointwise nat_eq text (f k)) ks ≡ Some n → IsWith (map f ks) text n (map f ks)
  IsWith-found [] text n e = absurd (true≢false (sym (ap is_some e)))
  IsWith-found (x ∷ xs) text n e =
      let p = position-Some (λ k. pointwise nat_eq text (f k)) (x ∷ xs) n x e in
      let place : slice_get (map f (x ∷ xs)) n ≡ Some text = place-map (x ∷ xs) n x text p.0 (sym ((bytes_decides text (f (get_or (x ∷ xs) n x))).0 p.1)) in
      record { place = place; old = λ _. refl; added = λ no. absurd (no (contained (map f (x ∷ xs)) n text place)) }

  -- what an insertion leaves
  pub IsWith-inserted : (ks made : List K) (value k : K) (n : ℕ) (text : List ℕ) → f value ≡ text
      → made ≡ insert_key (λ x y. pointwise nat_eq (f x) (f y)) ks value → slice_get made n ≡ Some k → pointwise nat_eq (f value) (f k) ≡ true
      → IsWith (map f ks) text n (map f made)
  IsWith-inserted ks made value k n text is keys at alike = by (list_any (λ y. pointwise nat_eq (f value) (f y)) ks) refl
    where
      place : slice_get (map f made) n ≡ Some text
      place = place-map made n k text (slice_get_within made n k at) (ap f (get_or_from_slice_get made n k k at) ∙ sym ((bytes_decides (f value) (f k)).0 alike)
          ∙ is)

      absent : list_any (λ y. pointwise nat_eq (f value) (f y)) ks ≡ false → Contains (map f ks) text → ⊥
      absent e c =
          let within : c.0 < length ks = subst (λ m. c.0 < m) (length-map ks f) c.1 in
          true≢false (sym (any-at ks (f value) c.0 value within (sym (get_or-map f ks c.0 value text within) ∙ c.2 ∙ sym is)) ∙ e)

      by : (b : Bool) → list_any (λ y. pointwise nat_eq (f value) (f y)) ks ≡ b → IsWith (map f ks) text n (map f made)
      by true e =
          let same : made ≡ ks = keys ∙ ap (λ c. if c then ks else ks ++ value ∷ []) e in
          record {
            place = place;
            old = λ _. ap (map f) same;
            added =
                λ no. absurd (no (contained (map f ks) n text (subst (λ l. slice_get (map f l) n ≡ Some text) same place)));
          }
      by false e =
          let longer : made ≡ ks ++ value ∷ [] = keys ∙ ap (λ c. if c then ks else ks ++ value ∷ []) e in
          record { place = place; old = λ c. absurd (absent e c); added = λ _. ap (map f) longer ∙ map_push f ks value ∙ ap (λ t. map f ks ++ t ∷ []) is }

  pub length-inserted : (ks made : List K) (added : Bool) → length made ≡ length ks + (if added then 1 else 0) → length (map f made) ≤ length (map f ks) + 1
  length-inserted ks made true e = omega (arith, length-map ks f, length-map made f)
  length-inserted ks made false e = omega (arith, length-map ks f, length-map made f)

  apart : (ks : List K) (d : K) → IsDistinct (λ x y. pointwise nat_eq (f x) (f y)) ks → (i j : ℕ) (text : List ℕ)
      → slice_get (map f ks) i ≡ Some text → slice_get (map f ks) j ≡ Some text → i < j → ⊥
  apart ks d distinct i j text p q l =
      let a : (i < length ks) × (f (get_or ks i d) ≡ text) = at-map ks i d text p in
      let b : (j < length ks) × (f (get_or ks j d) ≡ text) = at-map ks j d text q in
      true≢false (sym ((bytes_decides (f (get_or ks i d)) (f (get_or ks j d))).1 (a.1 ∙ sym b.1))
      ∙ apart_from_distinct (λ x y. pointwise nat_eq (f x) (f y)) ks i j d distinct l b.0)

  by_order : (ks : List K) (d : K) → IsDistinct (λ x y. pointwise nat_eq (f x) (f y)) ks → (i j : ℕ) (text : List ℕ)
      → slice_get (map f ks) i ≡ Some text → slice_get (map f ks) j ≡ Some text → (i ≡ j) ⊎ ((i < j) ⊎ (j < i)) → i ≡ j
  by_order ks d distinct i j text p q (inl e) = e
  by_order ks d distinct i j text p q (inr (inl l)) = absurd (apart ks d distinct i j text p q l)
  by_order ks d distinct i j text p q (inr (inr l)) = absurd (apart ks d distinct j i text q p l)

  pub AreDistinct-map : (ks : List K) → IsDistinct (λ x y. pointwise nat_eq (f x) (f y)) ks → AreDistinct (map f ks)
  AreDistinct-map [] distinct i j text p q = absurd (omega (arith, slice_get_within [] i text p))
  AreDistinct-map (x ∷ xs) distinct i j text p q = by_order (x ∷ xs) x distinct i j text p q (cases_order i j)
