-- One more group in hand was looked at.
use Rattle.std.proofs.Common.{◌≡◌, ℕ, ◌+◌, ◌-◌, ◌<◌, ◌≤◌, ◌≢◌, ◌↔◌, Bool, List, length, get_or, slice_index, set, Contains, Vec, ap, sym, subst, ◌∙◌, ◌⊎◌, inl}
use Rattle.std.proofs.Common.{inr, arith, get_or-set_other, get_or-set_same}
use Rattle.std.specs.declared.alloc.Global.{Global}
use Rattle.std.proofs.lemmas.Bool.{cases_lt, cases_eq}
use Rattle.std.proofs.lemmas.List.{get_or-map, get_or_default, length-set, length-map}
use Rattle.ddl_groups.specs.Groups.{group_at}
use Rattle.ddl_groups.specs.Placing.{IsAwaited, IsNumbered, IsOpen, IsPlaced, IsWaiting, lists_of}

-- the list at a place is that of the vector there
pub list_at : (vs : List (Vec ℕ Global)) (l : ℕ) (v : Vec ℕ Global) → l < length vs → v ≡ get_or vs l v → group_at (lists_of vs) l ≡ v.items
list_at vs l v k e = get_or-map (λ w. w.items) vs l v _ k ∙ ap (λ w. w.items) (sym e)

pub lists_long : (vs : List (Vec ℕ Global)) → length (lists_of vs) ≡ length vs
lists_long vs = length-map vs (λ w. w.items)

-- what stands at a place within a list is a member of it
pub member_at : (xs : List ℕ) (k d : ℕ) → k < length xs → Contains xs (get_or xs k d)
member_at xs k d l = (k, l, get_or_default xs k (get_or xs k d) d l)

-- a place is the one that was written, or is as before
pub written : {X : Type 0} (xs : List X) (i : ℕ) (v d : X) → i < length xs → (x : ℕ) → ((x ≡ i) × (get_or (set xs i v) x d ≡ v))
    ⊎ ((x ≢ i) × (get_or (set xs i v) x d ≡ get_or xs x d))
written {X} xs i v d l x = by (cases_eq x i)
  where
    by : (x ≡ i) ⊎ (x ≢ i) → ((x ≡ i) × (get_or (set xs i v) x d ≡ v)) ⊎ ((x ≢ i) × (get_or (set xs i v) x d ≡ get_or xs x d))
    by (inl e) = let P : ℕ → Type 0 = λ y. get_or (set xs i v) y d ≡ v in inl (e, subst P (sym e) (get_or-set_same xs i v d l))
    by (inr ne) = inr (ne, get_or-set_other xs i x v d ne)

put_at : (xs : List ℕ) (i v : ℕ) → i < length xs → (x : ℕ) → ((x ≡ i) × (slice_index (set xs i v) x ≡ v)) ⊎ (slice_index (set xs i v) x ≡ slice_index xs x)
put_at xs i v l x = elim (written xs i v 0 l x) [ inl p ↦ inl p | inr p ↦ inr p.1 ]

module _ (needs : List (List ℕ)) (firsts labels : List ℕ) (placed : List Bool) (left ready hand : List ℕ) (from : ℕ)
    (W : IsWaiting needs firsts labels placed left ready hand from) (N : IsNumbered needs firsts labels) (l rest : ℕ)
    (l_in : l < length needs) (from_in : from < length hand) (at : slice_index hand from ≡ l)
    (fewer : rest ≤ slice_index left l) (passed : (k : ℕ) → rest ≤ k → k < slice_index left l → IsPlaced placed (slice_index (group_at needs l) k)) where
  left_in : l < length left
  left_in = let e : length left ≡ length needs = W.long in omega arith

  within : (x : ℕ) → slice_index (set left l rest) x ≤ length (group_at needs x)
  within x = by (put_at left l rest left_in x)
    where
      by : ((x ≡ l) × (slice_index (set left l rest) x ≡ rest)) ⊎ (slice_index (set left l rest) x ≡ slice_index left x)
          → slice_index (set left l rest) x ≤ length (group_at needs x)
      by (inl p) =
          let P : ℕ → Type 0 = λ y. slice_index left y ≤ length (group_at needs x) in
          let m : slice_index left l ≤ length (group_at needs x) = subst P p.0 (W.within x) in
          let e : slice_index (set left l rest) x ≡ rest = p.1 in
          omega arith
      by (inr e) = let m : slice_index left x ≤ length (group_at needs x) = W.within x in omega arith

  kept_there : (k : ℕ) → rest ≤ k → k < length (group_at needs l) → (k < slice_index left l) ⊎ (slice_index left l ≤ k)
      → IsPlaced placed (slice_index (group_at needs l) k)
  kept_there k m n (inl a) = passed k m a
  kept_there k m n (inr a) = W.kept l k a n

  kept : (x k : ℕ) → slice_index (set left l rest) x ≤ k → k < length (group_at needs x) → IsPlaced placed (slice_index (group_at needs x) k)
  kept x k m n = by (put_at left l rest left_in x)
    where
      by : ((x ≡ l) × (slice_index (set left l rest) x ≡ rest)) ⊎ (slice_index (set left l rest) x ≡ slice_index left x)
          → IsPlaced placed (slice_index (group_at needs x) k)
      by (inl p) =
          let P : ℕ → Type 0 = λ y. k < length (group_at needs y) → IsPlaced placed (slice_index (group_at needs y) k) in
          let e : slice_index (set left l rest) x ≡ rest = p.1 in
          subst P (sym p.0) (λ o. kept_there k (omega arith) o (cases_lt k (slice_index left l))) n
      by (inr e) = W.kept x k (omega arith) n

  long : length (set left l rest) ≡ length needs
  long = length-set left l rest ∙ W.long

  not_this : (k x : ℕ) → from ≤ k → slice_index hand k ≡ x → (k ≡ from) ⊎ (k ≢ from) → (x ≡ l) ⊎ (from + 1 ≤ k)
  not_this k x m e (inl f) =
      let P : ℕ → Type 0 = λ i. slice_index hand i ≡ x in
      inl (sym (subst P f e) ∙ at)
  not_this k x m e (inr ne) = inr (omega arith)

  -- it has an open need
  module _ (some : 0 < rest) (open_one : IsOpen placed (slice_index (group_at needs l) (rest - 1))) where
    need : (h : ℕ) × Contains (group_at needs l) h × IsOpen placed h
    need =
        let m : slice_index left l ≤ length (group_at needs l) = W.within l in
        (slice_index (group_at needs l) (rest - 1), member_at (group_at needs l) (rest - 1) 0 (omega arith), open_one)

    in_hand : (k x : ℕ) → k < length hand → slice_index hand k ≡ x → (x ≡ l) ⊎ (from + 1 ≤ k) → IsAwaited needs firsts placed ready hand (from + 1) x
    in_hand k x m e (inl f) = let P : ℕ → Type 0 = λ y. (h : ℕ) × Contains (group_at needs y) h × IsOpen placed h in inr (inl (subst P (sym f) need))
    in_hand k x m e (inr n) = inr (inr (k, n, m, e))

    awaited : (x : ℕ) → IsAwaited needs firsts placed ready hand from x → IsAwaited needs firsts placed ready hand (from + 1) x
    awaited x (inl c) = inl c
    awaited x (inr (inl h)) = inr (inl h)
    awaited x (inr (inr k)) = in_hand k.0 x k.2 k.3 (not_this k.0 x k.1 k.3 (cases_eq k.0 from))

    pub still_waiting : IsWaiting needs firsts labels placed (set left l rest) ready hand (from + 1)
    still_waiting = record {
      long = long;
      within = within;
      kept = kept;
      bound = W.bound;
      own = W.own;
      unplaced = W.unplaced;
      met = W.met;
      others = λ x x_in o. awaited x (W.others x x_in o);
    }

  -- it has none, and is ready
  module _ (none : rest ≡ 0) (l_open : IsOpen placed l) (after : List ℕ) (added : (d : ℕ)
      → Contains after d ↔ ((d ≡ slice_index firsts l) ⊎ Contains ready d)) where
    first_is : (slice_index firsts l < length labels) × (slice_index labels (slice_index firsts l) ≡ l)
    first_is = N.first l l_in

    first_in : (x : ℕ) → x ≡ l → Contains after (slice_index firsts x)
    first_in x e = (added (slice_index firsts x)).1 (inl (ap (λ y. slice_index firsts y) e))

    taken_up : (k x : ℕ) → k < length hand → slice_index hand k ≡ x → (x ≡ l) ⊎ (from + 1 ≤ k) → IsAwaited needs firsts placed after hand (from + 1) x
    taken_up k x m e (inl f) = inl (first_in x f)
    taken_up k x m e (inr n) = inr (inr (k, n, m, e))

    awaited_too : (x : ℕ) → IsAwaited needs firsts placed ready hand from x → IsAwaited needs firsts placed after hand (from + 1) x
    awaited_too x (inl c) = inl ((added (slice_index firsts x)).1 (inr c))
    awaited_too x (inr (inl h)) = inr (inl h)
    awaited_too x (inr (inr k)) = taken_up k.0 x k.2 k.3 (not_this k.0 x k.1 k.3 (cases_eq k.0 from))

    all_met : (h : ℕ) → Contains (group_at needs l) h → IsPlaced placed h
    all_met h c =
        let P : ℕ → Type 0 = λ v. IsPlaced placed v in
        let m : c.0 < length (group_at needs l) = c.1 in
        subst P (get_or_default (group_at needs l) c.0 0 h m ∙ c.2) (kept_there c.0 (omega arith) m (cases_lt c.0 (slice_index left l)))

    -- what holds of the new first member and of those that were there holds of all
    each : (P : ℕ → Type 0) → P (slice_index firsts l) → ((d : ℕ) → Contains ready d → P d) → (d : ℕ) → Contains after d → P d
    each P p old d c = elim ((added d).0 c) as (λ _. P d) [ inl e ↦ subst P (sym e) p | inr r ↦ old d r ]

    pub now_ready : IsWaiting needs firsts labels placed (set left l rest) after hand (from + 1)
    now_ready = record {
      long = long;
      within = within;
      kept = kept;
      bound = each (λ d. (d < length labels) × (slice_index labels d < length needs)) (first_is.0, rw first_is.1 l_in) W.bound;
      own = each (λ d. slice_index firsts (slice_index labels d) ≡ d) (ap (λ y. slice_index firsts y) first_is.1) W.own;
      unplaced = each (λ d. IsOpen placed (slice_index labels d)) (rw first_is.1 l_open) W.unplaced;
      met = λ d h c. each (λ e. (i : ℕ) → Contains (group_at needs (slice_index labels e)) i → IsPlaced placed i) (rw first_is.1 all_met) (λ e r i.
          W.met e i r) d c h;
      others = λ x x_in o. awaited_too x (W.others x x_in o);
    }
