-- Members of lists that lost their last one.
use Rattle.std.proofs.Common.{◌≡◌, ℕ, ◌-◌, ◌<◌, ◌≤◌, List, length, get_or, slice_index, take, Contains, subst, sym, ◌∙◌, ◌⊎◌, inl, inr, arith}
use Rattle.std.proofs.lemmas.Bool.{cases_lt}
use Rattle.std.proofs.lemmas.List.{get_or-take, get_or_default, length-take-le}

pub front_sub : {X : Type 0} (xs : List X) (n : ℕ) (h : X) → n ≤ length xs → Contains (take n xs) h → Contains xs h
front_sub xs n h l c =
    let e : length (take n xs) ≡ n = length-take-le n xs l in
    let m : c.0 < length (take n xs) = c.1 in
    (c.0, omega arith, sym (get_or-take n xs c.0 h (omega arith)) ∙ c.2)

pub front_or_last : {X : Type 0} (xs : List X) (d h : X) → Contains xs h → Contains (take (length xs - 1) xs) h ⊎ (get_or xs (length xs - 1) d ≡ h)
front_or_last {X} xs d h c = by (cases_lt c.0 (length xs - 1))
  where
    by : (c.0 < length xs - 1) ⊎ (length xs - 1 ≤ c.0) → Contains (take (length xs - 1) xs) h ⊎ (get_or xs (length xs - 1) d ≡ h)
    by (inl l) =
        let e : length (take (length xs - 1) xs) ≡ length xs - 1 = length-take-le (length xs - 1) xs (omega arith) in
        inl (c.0, omega arith, get_or-take (length xs - 1) xs c.0 h l ∙ c.2)
    by (inr l) =
        let k : c.0 < length xs = c.1 in
        let e : length xs - 1 ≡ c.0 = omega arith in
        let P : ℕ → Type 0 = λ i. get_or xs i d ≡ h in
        inr (subst P (sym e) (get_or_default xs c.0 d h k ∙ c.2))

pub front_long : {X : Type 0} (xs : List X) → length (take (length xs - 1) xs) ≡ length xs - 1
front_long xs = length-take-le (length xs - 1) xs (omega arith)

abbrev pub IsIncreasing : List ℕ → Type 0
IsIncreasing xs = (i j : ℕ) → i < j → j < length xs → slice_index xs i < slice_index xs j

pub front_increases : (xs : List ℕ) → IsIncreasing xs → IsIncreasing (take (length xs - 1) xs)
front_increases xs r i j l m =
    let e : length (take (length xs - 1) xs) ≡ length xs - 1 = front_long xs in
    let f : slice_index xs i < slice_index xs j = r i j l (omega arith) in
    rw (get_or-take (length xs - 1) xs i 0 (omega arith), get_or-take (length xs - 1) xs j 0 (omega arith)) f

-- no member is beyond the last
pub last_greatest : (xs : List ℕ) → IsIncreasing xs → (h : ℕ) → Contains xs h → h ≤ slice_index xs (length xs - 1)
last_greatest xs r h c = by (cases_lt c.0 (length xs - 1))
  where
    at : slice_index xs c.0 ≡ h
    at = get_or_default xs c.0 0 h c.1 ∙ c.2

    by : (c.0 < length xs - 1) ⊎ (length xs - 1 ≤ c.0) → h ≤ slice_index xs (length xs - 1)
    by (inl l) =
        let k : c.0 < length xs = c.1 in
        let e : slice_index xs c.0 ≡ h = at in
        let f : slice_index xs c.0 < slice_index xs (length xs - 1) = r c.0 (length xs - 1) l (omega arith) in
        omega arith
    by (inr l) =
        let k : c.0 < length xs = c.1 in
        let e : c.0 ≡ length xs - 1 = omega arith in
        let P : ℕ → Type 0 = λ i. slice_index xs i ≡ h in
        let f : slice_index xs (length xs - 1) ≡ h = subst P e at in
        omega arith

-- the members at and below a number stay where the last one is beyond it
pub front_keeps : (xs : List ℕ) (place h : ℕ) → place < slice_index xs (length xs - 1) → h ≤ place → Contains xs h → Contains (take (length xs - 1) xs) h
front_keeps xs place h l m c = elim (front_or_last xs 0 h c) [ inl f ↦ f | inr e ↦ absurd (omega (arith, e)) ]
