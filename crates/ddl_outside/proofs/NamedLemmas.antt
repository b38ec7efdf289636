-- Facts of lists of named things.
use Rattle.std.proofs.Common.{◌≡◌, ℕ, ◌+◌, ◌<◌, List, [], ◌∷◌, ◌++◌, length, drop, map, get_or, set, suc, refl, ap, sym, ◌∙◌, Bool, true, false, arith}
use Rattle.std.proofs.Common.{zero-add}
use Rattle.std.specs.Prelude.{Some, None, Option, option_map, if◌then◌else◌}
use Rattle.std.specs.Str.{bytes_eq}
use Rattle.std.proofs.lemmas.List.{drop-map, drop_more}
use Rattle.std.proofs.lemmas.Slice.Eq.{bytes_eq-Decides}
use Rattle.ddl_outside.specs.Named.{at_name, change_at, place_of, name_of}
use Rattle.ddl_outside.specs.declared.named.Named.{Named}

-- the names from one on
pub rest_from : {A : Type 0} (entries : List (Named A)) (i : ℕ) (x : Named A) → i < length entries → x ≡ get_or entries i x
    → drop i (map name_of entries) ≡ name_of x ∷ drop (i + 1) (map name_of entries)
rest_from {A} entries i x within is =
    drop-map name_of i entries ∙ (ap (map name_of) (drop_more entries i x within)
    ∙ (ap (λ (y : Named A). name_of y ∷ map name_of (drop (i + 1) entries)) (sym is)
    ∙ ap (λ (ns : List (List ℕ)). name_of x ∷ ns) (sym (drop-map name_of (i + 1) entries))))

-- the place of a name, where the names up to one are others
pub place_found : (all rest : List (List ℕ)) (i : ℕ) (name n : List ℕ) (ns : List (List ℕ)) → rest ≡ n ∷ ns → bytes_eq n name ≡ true
    → place_of all name ≡ option_map (λ k. k + i) (place_of rest name) → Some i ≡ place_of all name
place_found all rest i name n ns r here h = sym (h ∙ rw r (rw here (ap Some (zero-add i))))

pub place_next : (all rest : List (List ℕ)) (i : ℕ) (name n : List ℕ) (ns : List (List ℕ)) → rest ≡ n ∷ ns → bytes_eq n name ≡ false
    → place_of all name ≡ option_map (λ k. k + i) (place_of rest name) → place_of all name ≡ option_map (λ k. k + (i + 1)) (place_of ns name)
place_next all rest i name n ns r other h = h ∙ rw r (rw other (shifted (place_of ns name))) where
  shifted : (o : Option ℕ) → option_map (λ k. k + i) (option_map (λ k. k + 1) o) ≡ option_map (λ k. k + (i + 1)) o
  shifted None = refl
  shifted (Some k) = ap Some (omega arith)

-- the place of a name behind one of another name
suc_place : (ns : List (List ℕ)) (name : List ℕ) (i : ℕ) {P : Type 0} → option_map (λ k. k + 1) (place_of ns name) ≡ Some i
    → ((j : ℕ) → place_of ns name ≡ Some j → i ≡ suc j → P) → P
suc_place ns name i {P} = at_place (place_of ns name) where
  at_place : (o : Option ℕ) → option_map (λ k. k + 1) o ≡ Some i → ((j : ℕ) → o ≡ Some j → i ≡ suc j → P) → P
  at_place None h f = absurd (cc)
  at_place (Some j) h f = f j refl (let e : j + 1 ≡ i = cc in omega arith)

-- Entries that name things, seen as pairs of a name and what contracts see of the thing.
-- Here `see` maps an entry to its pair, and keeps the name.

pub place_within : {A B : Type 0} (see : Named A → List ℕ × B) (entries : List (Named A)) (name : List ℕ) (i : ℕ) → place_of (map name_of entries) name ≡ Some i
    → i < length entries
place_within see [] name i = λ h. absurd (cc)
place_within see (e ∷ es) name i = elim (bytes_eq (name_of e) name) as (λ b. (if b then Some 0 else option_map (λ k. k + 1) (place_of (map name_of es) name))
    ≡ Some i → i < suc (length es)) [
      | true ↦ λ h. let z : 0 ≡ i = cc in omega arith
      | false ↦ λ h. suc_place (map name_of es) name i h (λ j p s. omega (arith, place_within see es name j p))
    ]

pub place_thing : {A B : Type 0} (see : Named A → B) (entries : List (Named A)) (name : List ℕ) (i : ℕ) (x : Named A)
    → place_of (map name_of entries) name ≡ Some i → x ≡ get_or entries i x → at_name (map (λ e. (name_of e, see e)) entries) name ≡ Some (see x)
place_thing see [] name i x = λ h g. absurd (cc)
place_thing {A} {B} see (e ∷ es) name i x = elim (bytes_eq (name_of e) name) as (λ b.
    (if b then Some 0 else option_map (λ k. k + 1) (place_of (map name_of es) name)) ≡ Some i
    → x ≡ get_or (e ∷ es) i x → (if b then Some (see e) else at_name (map (λ d. (name_of d, see d)) es) name) ≡ Some (see x)) [
      | true ↦ λ h g. let z : 0 ≡ i = cc in let g' : x ≡ e = rw (← z) at g in ap (λ (d : Named A). Some (see d)) (sym g')
      | false ↦ λ h g. suc_place (map name_of es) name i h (λ j p s. place_thing see es name j x p (rw s at g))
    ]

same_head : {B : Type 0} (a a' : List ℕ) (b b' : B) (rest : List (List ℕ × B)) → a ≡ a' → b ≡ b' → (a, b) ∷ rest ≡ (a', b') ∷ rest
same_head {B} a a' b b' rest p q = ap (λ (x : List ℕ). let pair : List ℕ × B = (x, b) in pair ∷ rest) p
    ∙ ap (λ (y : B). let pair : List ℕ × B = (a', y) in pair ∷ rest) q

pub place_change : {A B : Type 0} (see : Named A → B) (change : B → B) (entries : List (Named A)) (name : List ℕ) (i : ℕ) (x y : Named A)
    → place_of (map name_of entries) name ≡ Some i → x ≡ get_or entries i x → name_of y ≡ name_of x → see y ≡ change (see x)
    → map (λ e. (name_of e, see e)) (set entries i y) ≡ change_at change (map (λ e. (name_of e, see e)) entries) name
place_change see change [] name i x y = λ h g n c. absurd (cc)
place_change {A} {B} see change (e ∷ es) name i x y = elim (bytes_eq (name_of e) name) as (λ b.
    (if b then Some 0 else option_map (λ k. k + 1) (place_of (map name_of es) name)) ≡ Some i
    → x ≡ get_or (e ∷ es) i x → name_of y ≡ name_of x → see y ≡ change (see x)
    → map (λ d. (name_of d, see d)) (set (e ∷ es) i y) ≡ (if b then (name_of e, change (see e)) ∷ map (λ d. (name_of d, see d)) es else (name_of e, see e)
    ∷ change_at change (map (λ d. (name_of d, see d)) es) name)) [
      | true ↦ λ h g n c. let z : 0 ≡ i = cc in let g' : x ≡ e = rw (← z) at g in
          rw (← z) (same_head _ _ _ _ _ (n ∙ ap name_of g') (c ∙ ap (λ (d : Named A). change (see d)) g'))
      | false ↦ λ h g n c. suc_place (map name_of es) name i h (λ j p s.
          rw s (ap (λ (l : List (List ℕ × B)). (name_of e, see e) ∷ l) (place_change see change es name j x y p (rw s at g) n c)))
    ]

pub place_none : {A B : Type 0} (see : Named A → B) (change : B → B) (entries : List (Named A)) (name : List ℕ) → place_of (map name_of entries) name ≡ None
    → (at_name (map (λ e. (name_of e, see e)) entries) name ≡ None)
    × (change_at change (map (λ e. (name_of e, see e)) entries) name ≡ map (λ e. (name_of e, see e)) entries)
place_none see change [] name = λ h. (refl, refl)
place_none {A} {B} see change (e ∷ es) name = elim (bytes_eq (name_of e) name) as (λ b.
    (if b then Some 0 else option_map (λ k. k + 1) (place_of (map name_of es) name)) ≡ None
    → ((if b then Some (see e) else at_name (map (λ d. (name_of d, see d)) es) name) ≡ None)
    × ((if b then (name_of e, change (see e)) ∷ map (λ d. (name_of d, see d)) es else (name_of e, see e)
    ∷ change_at change (map (λ d. (name_of d, see d)) es) name) ≡ (name_of e, see e) ∷ map (λ d. (name_of d, see d)) es)) [
      | true ↦ λ h. absurd (cc)
      | false ↦ λ h. let p = place_none see change es name (none_of (place_of (map name_of es) name) h)
          in (p.0, ap (λ (l : List (List ℕ × B)). (name_of e, see e) ∷ l) p.1)
    ] where
      none_of : (o : Option ℕ) → option_map (λ k. k + 1) o ≡ None → o ≡ None
      none_of None h = refl
      none_of (Some j) h = absurd (cc)

-- what equals one of two different names differs from the other
third_differs : (a b c : List ℕ) → bytes_eq a b ≡ false → bytes_eq a c ≡ true → bytes_eq b c ≡ false
third_differs a b c differs same = by_test (bytes_eq b c) refl where
  by_test : (t : Bool) → bytes_eq b c ≡ t → t ≡ false
  by_test false h = refl
  by_test true h = absurd (let e : a ≡ b = (bytes_eq-Decides a c).0 same ∙ sym ((bytes_eq-Decides b c).0 h) in let t : bytes_eq a b ≡ true =
      (bytes_eq-Decides a b).1 e in cc)

-- what stands under any name, once it has changed under one
pub at_name-change_at : {A : Type 0} (change : A → A) (es : List (List ℕ × A)) (name other : List ℕ)
    → at_name (change_at change es name) other ≡ (if bytes_eq name other then option_map change (at_name es other) else at_name es other)
at_name-change_at {A} change [] name other = elim (bytes_eq name other) as (λ b. let none : Option A =
    None in none ≡ (if b then none else none)) [ true ↦ refl | false ↦ refl ]
at_name-change_at {A} change (e ∷ es) name other = elim (bytes_eq e.0 name) as (λ b. bytes_eq e.0 name ≡ b
    → at_name (if b then (e.0, change e.1) ∷ es else e ∷ change_at change es name) other
    ≡ (if bytes_eq name other then option_map change (at_name (e ∷ es) other) else at_name (e ∷ es) other)) [
      | true ↦ λ same. let one : e.0 ≡ name = (bytes_eq-Decides e.0 name).0 same in rw (← one) (head_case (bytes_eq e.0 other) (at_name es other) e.1)
      | false ↦ λ differs. rw (at_name-change_at change es name other)
          (rest_case (bytes_eq e.0 other) (bytes_eq name other) (at_name es other) e.1 (third_differs e.0 name other differs))
    ] refl where
      head_case : (b : Bool) (o : Option A) (a : A) → (if b then Some (change a) else o)
          ≡ (if b then option_map change (if b then Some a else o) else (if b then Some a else o))
      head_case true o a = refl
      head_case false o a = refl

      rest_case : (b d : Bool) (o : Option A) (a : A) → (b ≡ true → d ≡ false)
          → (if b then Some a else (if d then option_map change o else o))
          ≡ (if d then option_map change (if b then Some a else o) else (if b then Some a else o))
      rest_case true true o a h = absurd (let e = h refl in cc)
      rest_case true false o a h = refl
      rest_case false d o a h = refl

pub at_name-change_at-same : {A : Type 0} (change : A → A) (es : List (List ℕ × A)) (name : List ℕ)
    → at_name (change_at change es name) name ≡ option_map change (at_name es name)
at_name-change_at-same change es name = rw (at_name-change_at change es name name) (let same : bytes_eq name name ≡ true =
    (bytes_eq-Decides name name).1 refl in rw same)

pub at_name-change_at-other : {A : Type 0} (change : A → A) (es : List (List ℕ × A)) (name other : List ℕ) → bytes_eq name other ≡ false
    → at_name (change_at change es name) other ≡ at_name es other
at_name-change_at-other change es name other h = rw (at_name-change_at change es name other) (rw h)

-- what a change leaves as it was, under any name
pub at_name-change_at-kept : {A B : Type 0} (change : A → A) (read : Option A → B) → ((o : Option A) → read (option_map change o) ≡ read o)
    → (es : List (List ℕ × A)) (name other : List ℕ)
    → read (at_name (change_at change es name) other) ≡ read (at_name es other)
at_name-change_at-kept {A} {B} change read keeps es name other = ap read (at_name-change_at change es name other) ∙ by_test (bytes_eq name other) where
  by_test : (b : Bool) → read (if b then option_map change (at_name es other) else at_name es other) ≡ read (at_name es other)
  by_test true = keeps (at_name es other)
  by_test false = refl

-- one entry more at the end
pub at_name-push_same : {A : Type 0} (es : List (List ℕ × A)) (name : List ℕ) (a : A) → at_name es name ≡ None → at_name (es ++ (name, a) ∷ []) name ≡ Some a
at_name-push_same [] name a = λ h. let same : bytes_eq name name ≡ true = (bytes_eq-Decides name name).1 refl in rw same
at_name-push_same {A} (e ∷ es) name a = elim (bytes_eq e.0 name) as (λ b. (if b then Some e.1 else at_name es name) ≡ None
    → (if b then Some e.1 else at_name (es ++ (name, a) ∷ []) name) ≡ Some a) [
      | true ↦ λ h. absurd (cc)
      | false ↦ λ h. at_name-push_same es name a h
    ]

pub at_name-push_other : {A : Type 0} (es : List (List ℕ × A)) (name other : List ℕ) (a : A) → bytes_eq name other ≡ false
    → at_name (es ++ (name, a) ∷ []) other ≡ at_name es other
at_name-push_other [] name other a h = rw h
at_name-push_other {A} (e ∷ es) name other a h = ap (λ (o : Option A). if bytes_eq e.0 other then Some e.1 else o) (at_name-push_other es name other a h)
