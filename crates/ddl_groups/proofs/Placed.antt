-- One more group was placed.
use Rattle.std.proofs.Common.{◌≡◌, ℕ, zero, suc, ◌+◌, ◌<◌, ◌≤◌, ◌≢◌, Bool, true, false, List, [], ◌∷◌, ◌++◌, length, get_or, slice_index, set, Contains, refl}
use Rattle.std.proofs.Common.{ap, sym, subst, ◌∙◌, ◌⊎◌, inl, inr, arith, length-append, length-set}
use Rattle.std.specs.List.{All}
use Rattle.std.proofs.Math.Seq.{get_or-append_seam}
use Rattle.std.proofs.lemmas.Bool.{cases_lt, cases_eq}
use Rattle.std.proofs.lemmas.List.{get_or_append_left, get_or_default}
use Rattle.std.proofs.lemmas.List.Elements.{Contains-append_left, Contains-push, Contains-push_cases}
use Rattle.ddl_groups.specs.Groups.{group_at}
use Rattle.ddl_groups.specs.Placing.{AreUsers, HasBefore, IsAwaited, IsNumbered, IsOpen, IsOrder, IsPlaced, IsPlacing, IsWaiting}
use Rattle.ddl_groups.proofs.OneGrouping.{within}
use Rattle.ddl_groups.proofs.Settled.{member_at, written}

-- a member stands at a place
pub place_of : (xs : List ℕ) (x : ℕ) → Contains xs x → (k : ℕ) × (k < length xs) × (slice_index xs k ≡ x)
place_of xs x c = (c.0, c.1, get_or_default xs c.0 0 x c.1 ∙ c.2)

pub at_place : (xs : List ℕ) (k x : ℕ) → k < length xs → slice_index xs k ≡ x → Contains xs x
at_place xs k x l e = (k, l, get_or_default xs k x 0 l ∙ e)

pub pushed_at : (xs : List ℕ) (y k : ℕ) → k < length (xs ++ y ∷ []) → ((k < length xs) × (slice_index (xs ++ y ∷ []) k ≡ slice_index xs k))
    ⊎ ((k ≡ length xs) × (slice_index (xs ++ y ∷ []) k ≡ y))
pushed_at xs y k l = by (cases_lt k (length xs))
  where
    by : (k < length xs) ⊎ (length xs ≤ k) → ((k < length xs) × (slice_index (xs ++ y ∷ []) k ≡ slice_index xs k))
        ⊎ ((k ≡ length xs) × (slice_index (xs ++ y ∷ []) k ≡ y))
    by (inl m) = inl (m, get_or_append_left xs (y ∷ []) 0 k m)
    by (inr m) =
        let n : length (xs ++ y ∷ []) ≡ length xs + 1 = length-append xs (y ∷ []) in
        let e : k ≡ length xs = omega arith in
        let P : ℕ → Type 0 = λ i. slice_index (xs ++ y ∷ []) i ≡ y in
        inr (e, subst P (sym e) (get_or-append_seam xs y [] 0))

pub both : (placed : List Bool) (x : ℕ) → IsPlaced placed x → IsOpen placed x → ⊥
both placed x p o = cc

pub open_or_placed : (placed : List Bool) (x : ℕ) → IsPlaced placed x ⊎ IsOpen placed x
open_or_placed placed x = by (get_or placed x false) refl
  where
    by : (b : Bool) → get_or placed x false ≡ b → IsPlaced placed x ⊎ IsOpen placed x
    by true e = inl e
    by false e = inr e

module _ (needs : List (List ℕ)) (firsts labels : List ℕ) (placed : List Bool) (order left ready after : List ℕ) (d l : ℕ)
    (P : IsPlacing needs firsts placed order) (W : IsWaiting needs firsts labels placed left ready [] 0) (N : IsNumbered needs firsts labels)
    (is_ready : Contains ready d) (is : slice_index labels d ≡ l) (others : (e : ℕ) → Contains ready e → (e ≡ d) ⊎ Contains after e)
    (rest : (e : ℕ) → Contains after e → Contains ready e × (d < e)) where
  pub l_in : l < length needs
  l_in = subst (λ x. x < length needs) is (W.bound d is_ready).1

  l_first : slice_index firsts l ≡ d
  l_first = subst (λ x. slice_index firsts x ≡ d) is (W.own d is_ready)

  pub l_open : IsOpen placed l
  l_open = subst (λ x. IsOpen placed x) is (W.unplaced d is_ready)

  l_met : (h : ℕ) → Contains (group_at needs l) h → IsPlaced placed h
  l_met = subst (λ x. (h : ℕ) → Contains (group_at needs x) h → IsPlaced placed h) is (λ h c. W.met d h is_ready c)

  -- of this first member there is one group
  of_first : (x : ℕ) → x < length needs → slice_index firsts x ≡ d → x ≡ l
  of_first x x_in e =
      let f : slice_index labels (slice_index firsts x) ≡ slice_index labels d = ap (λ y. slice_index labels y) e in
      sym (N.first x x_in).1 ∙ f ∙ is

  marked : (x : ℕ) → ((x ≡ l) × IsPlaced (set placed l true) x) ⊎ ((x ≢ l) × (get_or (set placed l true) x false ≡ get_or placed x false))
  marked x = let m : length placed ≡ length needs = P.marks in let n : l < length needs = l_in in written placed l true false (omega arith) x

  open_before : (x : ℕ) → IsOpen (set placed l true) x → (x ≢ l) × IsOpen placed x
  open_before x o = elim (marked x) [ inl p ↦ absurd (both (set placed l true) x p.1 o) | inr p ↦ (p.0, sym p.1 ∙ o) ]

  still_open : (x : ℕ) → x ≢ l → IsOpen placed x → IsOpen (set placed l true) x
  still_open x ne o = elim (marked x) [ inl p ↦ absurd (ne p.0) | inr p ↦ p.1 ∙ o ]

  still_placed : (x : ℕ) → IsPlaced placed x → IsPlaced (set placed l true) x
  still_placed x h = elim (marked x) [ inl p ↦ p.1 | inr p ↦ p.1 ∙ h ]

  this_placed : IsPlaced (set placed l true) l
  this_placed = elim (marked l) [ inl p ↦ p.1 | inr p ↦ absurd (p.0 refl) ]

  before_l : HasBefore needs order (length order) l
  before_l h c = place_of order h (P.standing h (l_met h c))

  forth : (j x : ℕ) → j ≤ length order → HasBefore needs order j x → HasBefore needs (order ++ l ∷ []) j x
  forth j x m b h c =
      let p : (i : ℕ) × (i < j) × (slice_index order i ≡ h) = b h c in
      let n : p.0 < j = p.1 in
      (p.0, p.1, get_or_append_left order (l ∷ []) 0 p.0 (omega arith) ∙ p.2)

  back : (j x : ℕ) → j ≤ length order → HasBefore needs (order ++ l ∷ []) j x → HasBefore needs order j x
  back j x m b h c =
      let p : (i : ℕ) × (i < j) × (slice_index (order ++ l ∷ []) i ≡ h) = b h c in
      let n : p.0 < j = p.1 in
      (p.0, p.1, sym (get_or_append_left order (l ∷ []) 0 p.0 (omega arith)) ∙ p.2)

  known : (k : ℕ) → k < length (order ++ l ∷ []) → slice_index (order ++ l ∷ []) k < length needs
  known k m = elim (pushed_at order l k m) [ inl p ↦ rw p.1 (P.known k p.0) | inr p ↦ rw p.1 l_in ]

  not_there : (k : ℕ) → k < length order → slice_index order k ≡ l → ⊥
  not_there k m e = both placed l (P.stood l (at_place order k l m e)) l_open

  once : (j k : ℕ) → j < length (order ++ l ∷ []) → k < length (order ++ l ∷ []) → slice_index (order ++ l ∷ []) j ≡ slice_index (order ++ l ∷ []) k → j ≡ k
  once j k m n e = by (pushed_at order l j m) (pushed_at order l k n)
    where
      by : ((j < length order) × (slice_index (order ++ l ∷ []) j ≡ slice_index order j)) ⊎ ((j ≡ length order) × (slice_index (order ++ l ∷ []) j ≡ l))
          → ((k < length order) × (slice_index (order ++ l ∷ []) k ≡ slice_index order k)) ⊎ ((k ≡ length order) × (slice_index (order ++ l ∷ []) k ≡ l))
          → j ≡ k
      by (inl p) (inl q) = P.once j k p.0 q.0 (sym p.1 ∙ e ∙ q.1)
      by (inl p) (inr q) = absurd (not_there j p.0 (sym p.1 ∙ e ∙ q.1))
      by (inr p) (inl q) = absurd (not_there k q.0 (sym q.1 ∙ sym e ∙ p.1))
      by (inr p) (inr q) = p.0 ∙ sym q.0

  ready_too : (k : ℕ) → k < length (order ++ l ∷ []) → HasBefore needs (order ++ l ∷ []) k (slice_index (order ++ l ∷ []) k)
  ready_too k m = by (pushed_at order l k m)
    where
      by : ((k < length order) × (slice_index (order ++ l ∷ []) k ≡ slice_index order k)) ⊎ ((k ≡ length order) × (slice_index (order ++ l ∷ []) k ≡ l))
          → HasBefore needs (order ++ l ∷ []) k (slice_index (order ++ l ∷ []) k)
      by (inl p) =
          let n : k < length order = p.0 in
          subst (λ x. HasBefore needs (order ++ l ∷ []) k x) (sym p.1) (forth k (slice_index order k) (omega arith) (P.ready k p.0))
      by (inr p) =
          subst (λ x. HasBefore needs (order ++ l ∷ []) k x) (sym p.1)
          (subst (λ i. HasBefore needs (order ++ l ∷ []) i l) (sym p.0) (forth (length order) l (omega arith) before_l))

  least : (j k : ℕ) → j < k → k < length (order ++ l ∷ []) → HasBefore needs (order ++ l ∷ []) j (slice_index (order ++ l ∷ []) k)
      → slice_index firsts (slice_index (order ++ l ∷ []) j) < slice_index firsts (slice_index (order ++ l ∷ []) k)
  least j k m n b = by (pushed_at order l k n)
    where
      by : ((k < length order) × (slice_index (order ++ l ∷ []) k ≡ slice_index order k)) ⊎ ((k ≡ length order) × (slice_index (order ++ l ∷ []) k ≡ l))
          → slice_index firsts (slice_index (order ++ l ∷ []) j) < slice_index firsts (slice_index (order ++ l ∷ []) k)
      by (inl p) =
          let q : k < length order = p.0 in
          let f : slice_index (order ++ l ∷ []) j ≡ slice_index order j = get_or_append_left order (l ∷ []) 0 j (omega arith) in
          rw (f, p.1) (P.least j k m p.0 (back j (slice_index order k) (omega arith) (subst (λ x. HasBefore needs (order ++ l ∷ []) j x) p.1 b)))
      by (inr p) =
          let q : k ≡ length order = p.0 in
          let f : slice_index (order ++ l ∷ []) j ≡ slice_index order j = get_or_append_left order (l ∷ []) 0 j (omega arith) in
          rw (f, p.1) (P.later j l (omega arith) l_in l_open (back j l (omega arith) (subst (λ x. HasBefore needs (order ++ l ∷ []) j x) p.1 b)))

  standing : (x : ℕ) → IsPlaced (set placed l true) x → Contains (order ++ l ∷ []) x
  standing x h = elim (marked x) [
    | inl p ↦ subst (λ y. Contains (order ++ l ∷ []) y) (sym p.0) (Contains-push order l)
    | inr p ↦ Contains-append_left order (l ∷ []) x (P.standing x (sym p.1 ∙ h))
  ]

  stood : (x : ℕ) → Contains (order ++ l ∷ []) x → IsPlaced (set placed l true) x
  stood x c = elim (Contains-push_cases order l x c) [
    | inl m ↦ still_placed x (P.stood x m)
    | inr e ↦ subst (λ y. IsPlaced (set placed l true) y) e this_placed
  ]

  -- a group that might have stood here has a greater first member
  greater : (x : ℕ) → x < length needs → x ≢ l → ((h : ℕ) → Contains (group_at needs x) h → IsPlaced placed h) → IsAwaited needs firsts placed ready [] 0 x
      → d < slice_index firsts x
  greater x x_in ne met (inl c) = elim (others (slice_index firsts x) c) [ inl e ↦ absurd (ne (of_first x x_in e)) | inr m ↦ (rest (slice_index firsts x) m).1 ]
  greater x x_in ne met (inr (inl h)) = absurd (both placed h.0 (met h.0 h.1) h.2)
  greater x x_in ne met (inr (inr k)) = absurd (omega (arith, k.2))

  later : (j x : ℕ) → j < length (order ++ l ∷ []) → x < length needs → IsOpen (set placed l true) x → HasBefore needs (order ++ l ∷ []) j x
      → slice_index firsts (slice_index (order ++ l ∷ []) j) < slice_index firsts x
  later j x m x_in o b = by (pushed_at order l j m)
    where
      by : ((j < length order) × (slice_index (order ++ l ∷ []) j ≡ slice_index order j)) ⊎ ((j ≡ length order) × (slice_index (order ++ l ∷ []) j ≡ l))
          → slice_index firsts (slice_index (order ++ l ∷ []) j) < slice_index firsts x
      by (inl p) = let q : j < length order = p.0 in rw p.1 (P.later j x p.0 x_in (open_before x o).1 (back j x (omega arith) b))
      by (inr p) =
          let all : HasBefore needs order (length order) x = back (length order) x (omega arith) (subst (λ i. HasBefore needs (order ++ l ∷ []) i x) p.0 b) in
          rw (p.1, l_first) (greater x x_in (open_before x o).0 (λ h c. P.stood h (at_place order (all h c).0 h (all h c).1 (all h c).2))
          (W.others x x_in (open_before x o).1))

  pub placed_one : IsPlacing needs firsts (set placed l true) (order ++ l ∷ [])
  placed_one = record {
    marks = length-set placed l true ∙ P.marks;
    known = known;
    once = once;
    ready = ready_too;
    least = least;
    standing = standing;
    stood = stood;
    later = later;
  }

  not_this : (e : ℕ) → Contains after e → slice_index labels e ≢ l
  not_this e c f =
      let m : d < e = (rest e c).1 in
      let g : slice_index firsts (slice_index labels e) ≡ e = W.own e (rest e c).0 in
      let k : e ≡ d = sym g ∙ ap (λ y. slice_index firsts y) f ∙ l_first in
      omega arith

  module _ (users : List (List ℕ)) (U : AreUsers needs users) where
    pub has_users : l < length users
    has_users = rw U.long l_in

    in_hand : (x h : ℕ) → Contains (group_at needs x) h → IsOpen placed h → (h ≡ l) ⊎ (h ≢ l)
        → IsAwaited needs firsts (set placed l true) after (group_at users l) 0 x
    in_hand x h c o (inl e) =
        let p : (k : ℕ) × (k < length (group_at users l)) × (slice_index (group_at users l) k ≡ x) =
        place_of (group_at users l) x (U.used x l (subst (λ y. Contains (group_at needs x) y) e c)) in
        inr (inr (p.0, omega arith, p.1, p.2))
    in_hand x h c o (inr ne) = inr (inl (h, c, still_open h ne o))

    awaited : (x : ℕ) → x < length needs → x ≢ l → IsAwaited needs firsts placed ready [] 0 x
        → IsAwaited needs firsts (set placed l true) after (group_at users l) 0 x
    awaited x x_in ne (inl c) = elim (others (slice_index firsts x) c) [ inl e ↦ absurd (ne (of_first x x_in e)) | inr m ↦ inl m ]
    awaited x x_in ne (inr (inl h)) = in_hand x h.0 h.1 h.2 (cases_eq h.0 l)
    awaited x x_in ne (inr (inr k)) = absurd (omega (arith, k.2))

    pub hand_after : IsWaiting needs firsts labels (set placed l true) left after (group_at users l) 0
    hand_after = record {
      long = W.long;
      within = W.within;
      kept = λ x k m n. still_placed (slice_index (group_at needs x) k) (W.kept x k m n);
      bound = λ e c. W.bound e (rest e c).0;
      own = λ e c. W.own e (rest e c).0;
      unplaced = λ e c. still_open (slice_index labels e) (not_this e c) (W.unplaced e (rest e c).0);
      met = λ e h c m. still_placed h (W.met e h (rest e c).0 m);
      others = λ x x_in o. awaited x x_in (open_before x o).0 (W.others x x_in (open_before x o).1);
    }

    user_open : (x : ℕ) → Contains (group_at needs x) l → IsPlaced placed x ⊎ IsOpen placed x → IsOpen (set placed l true) x
    user_open x c (inl p) =
        let k : (i : ℕ) × (i < length order) × (slice_index order i ≡ x) = place_of order x (P.standing x p) in
        let b : HasBefore needs order k.0 x = subst (λ y. HasBefore needs order k.0 y) k.2 (P.ready k.0 k.1) in
        let m : (b l c).0 < k.0 = (b l c).1 in
        let n : k.0 < length order = k.1 in
        absurd (not_there (b l c).0 (omega arith) (b l c).2)
    user_open x c (inr o) = still_open x (λ e. let m : l < x = N.lower x l c in omega arith) o

    pub users_open : All (λ x. (x < length needs) × IsOpen (set placed l true) x) (group_at users l)
    users_open k e m =
        let c : Contains (group_at needs (get_or (group_at users l) k e)) l = U.using (get_or (group_at users l) k e) l (member_at (group_at users l) k e m) in
        (within needs (get_or (group_at users l) k e) l c, user_open (get_or (group_at users l) k e) c (open_or_placed placed (get_or (group_at users l) k e)))

-- where nothing is ready and nothing in hand, all is placed
module _ (needs : List (List ℕ)) (firsts labels : List ℕ) (placed : List Bool) (order left ready : List ℕ)
    (P : IsPlacing needs firsts placed order) (W : IsWaiting needs firsts labels placed left ready [] 0) (N : IsNumbered needs firsts labels)
    (none : (d : ℕ) → ¬ (Contains ready d)) where
  no_open : (n l : ℕ) → ((h : ℕ) → h < l → h < length needs → IsPlaced placed h) → l < length needs → IsAwaited needs firsts placed ready [] 0 l → ⊥
  no_open n l below l_in (inl c) = none (slice_index firsts l) c
  no_open n l below l_in (inr (inl h)) =
      let m : h.0 < l = N.lower l h.0 h.1 in
      both placed h.0 (below h.0 m (omega arith)) h.2
  no_open n l below l_in (inr (inr k)) = omega (arith, k.2)

  all_below : (n l : ℕ) → l < n → l < length needs → IsPlaced placed l
  all_below zero l m l_in = absurd (omega arith)
  all_below (suc n) l m l_in = elim (open_or_placed placed l) [
    | inl p ↦ p
    | inr o ↦ absurd (no_open n l (λ h k h_in. all_below n h (omega arith) h_in) l_in (W.others l l_in o))
  ]

  pub whole_order : IsOrder needs firsts order
  whole_order = record {
    all = λ l l_in. P.standing l (all_below (suc l) l (omega arith) l_in);
    known = P.known;
    once = P.once;
    ready = P.ready;
    least = P.least;
  }
