-- One more number was added to a list of lists.
use Rattle.std.proofs.Common.{◌≡◌, ℕ, ◌+◌, ◌<◌, ◌≤◌, ◌≢◌, List, [], ◌∷◌, ◌++◌, length, slice_index, take, Contains, refl, ap, sym, subst, ◌∙◌, ◌⊎◌, inl, inr}
use Rattle.std.proofs.Common.{arith, length-set}
use Rattle.std.specs.List.{AllByRecursion}
use Rattle.std.proofs.lemmas.Bool.{cases_lt}
use Rattle.std.proofs.lemmas.List.{take_more}
use Rattle.std.proofs.lemmas.List.Elements.{Contains-append_left, Contains-push, Contains-push_cases}
use Rattle.ddl_groups.specs.Groups.{IsRising, group_at}
use Rattle.ddl_groups.specs.Numbered.{AreGroupNeeds, AreMembers, AreNeedsMore, added}
use Rattle.ddl_groups.specs.Ordered.{AreDeclared}
use Rattle.ddl_groups.specs.Placing.{AreUsers}
use Rattle.ddl_groups.specs.Reach.{Uses}
use Rattle.ddl_groups.proofs.Rising.{Contains-first, Contains-rest}
use Rattle.ddl_groups.proofs.Settled.{written}

module _ (lists : List (List ℕ)) (at value : ℕ) (at_in : at < length lists) where
  pub in_added : (l h : ℕ) → Contains (group_at (added lists at value) l) h → Contains (group_at lists l) h ⊎ ((l ≡ at) × (h ≡ value))
  in_added l h c = by (written lists at (group_at lists at ++ value ∷ []) [] at_in l)
    where
      old_or_new : Contains (group_at lists at) h ⊎ (value ≡ h) → l ≡ at → Contains (group_at lists l) h ⊎ ((l ≡ at) × (h ≡ value))
      old_or_new (inl m) e = inl (subst (λ x. Contains (group_at lists x) h) (sym e) m)
      old_or_new (inr f) e = inr (e, sym f)

      by : ((l ≡ at) × (group_at (added lists at value) l ≡ group_at lists at ++ value ∷ []))
          ⊎ ((l ≢ at) × (group_at (added lists at value) l ≡ group_at lists l))
          → Contains (group_at lists l) h ⊎ ((l ≡ at) × (h ≡ value))
      by (inl p) = old_or_new (Contains-push_cases (group_at lists at) value h (subst (λ xs. Contains xs h) p.1 c)) p.0
      by (inr p) = inl (subst (λ xs. Contains xs h) p.1 c)

  pub keeps : (l h : ℕ) → Contains (group_at lists l) h → Contains (group_at (added lists at value) l) h
  keeps l h c = elim (written lists at (group_at lists at ++ value ∷ []) [] at_in l) [
    | inl p ↦ subst (λ xs. Contains xs h) (sym p.1) (Contains-append_left (group_at lists at) (value ∷ []) h (subst (λ x. Contains (group_at lists x) h) p.0 c))
    | inr p ↦ subst (λ xs. Contains xs h) (sym p.1) c
  ]

  pub has_new : Contains (group_at (added lists at value) at) value
  has_new = elim (written lists at (group_at lists at ++ value ∷ []) [] at_in at) [
    | inl p ↦ subst (λ xs. Contains xs value) (sym p.1) (Contains-push (group_at lists at) value)
    | inr p ↦ absurd (p.0 refl)
  ]

all_push : (x a : ℕ) (xs : List ℕ) → AllByRecursion (λ y. x < y) xs → x < a → AllByRecursion (λ y. x < y) (xs ++ a ∷ [])
all_push x a [] h l = (l, tt)
all_push x a (y ∷ ys) h l = (h.0, all_push x a ys h.1 l)

pub rising_push : (xs : List ℕ) (a : ℕ) → IsRising xs → ((x : ℕ) → Contains xs x → x < a) → IsRising (xs ++ a ∷ [])
rising_push [] a r below = (tt, tt)
rising_push (x ∷ xs) a r below = (all_push x a xs r.0 (below x (Contains-first x xs)), rising_push xs a r.1 (λ y c. below y (Contains-rest x xs y c)))

module _ (labels : List ℕ) (a : ℕ) (lists : List (List ℕ)) (M : AreMembers labels a lists) (l_in : slice_index labels a < length lists) where
  one_more : (b : ℕ) → b < a + 1 → (b < a) ⊎ (a ≤ b) → Contains (group_at (added lists (slice_index labels a) a) (slice_index labels b)) b
  one_more b l (inl m) = keeps lists (slice_index labels a) a l_in (slice_index labels b) b (M.has b m)
  one_more b l (inr m) =
      let e : a ≡ b = omega arith in
      subst (λ x. Contains (group_at (added lists (slice_index labels a) a) (slice_index labels x)) x) e (has_new lists (slice_index labels a) a l_in)

  only : (l b : ℕ) → Contains (group_at lists l) b ⊎ ((l ≡ slice_index labels a) × (b ≡ a)) → (b < a + 1) × (slice_index labels b ≡ l)
  only l b (inl c) = let m : b < a = (M.only l b c).0 in (omega arith, (M.only l b c).1)
  only l b (inr p) = let e : b ≡ a = p.1 in (omega arith, ap (λ x. slice_index labels x) p.1 ∙ sym p.0)

  rising : (l : ℕ) → IsRising (group_at (added lists (slice_index labels a) a) l)
  rising l = elim (written lists (slice_index labels a) (group_at lists (slice_index labels a) ++ a ∷ []) [] l_in l) [
    | inl p ↦ subst IsRising (sym p.1) (rising_push (group_at lists (slice_index labels a)) a (M.rising (slice_index labels a)) (λ x c.
        (M.only (slice_index labels a) x c).0))
    | inr p ↦ subst IsRising (sym p.1) (M.rising l)
  ]

  pub members_more : AreMembers labels (a + 1) (added lists (slice_index labels a) a)
  members_more = record {
    has = λ b l. one_more b l (cases_lt b a);
    only = λ l b c. only l b (in_added lists (slice_index labels a) a l_in l b c);
    rising = rising;
  }

-- a need and its turn
module _ (needs users : List (List ℕ)) (U : AreUsers needs users) (l h : ℕ) (l_in : l < length needs) (h_in : h < length users) where
  used : (x y : ℕ) → Contains (group_at needs x) y ⊎ ((x ≡ l) × (y ≡ h)) → Contains (group_at (added users h l) y) x
  used x y (inl c) = keeps users h l h_in y x (U.used x y c)
  used x y (inr p) = subst (λ v. Contains (group_at (added users h l) v) x) (sym p.1)
      (subst (λ v. Contains (group_at (added users h l) h) v) (sym p.0) (has_new users h l h_in))

  using : (x y : ℕ) → Contains (group_at users y) x ⊎ ((y ≡ h) × (x ≡ l)) → Contains (group_at (added needs l h) x) y
  using x y (inl c) = keeps needs l h l_in x y (U.using x y c)
  using x y (inr p) = subst (λ v. Contains (group_at (added needs l h) v) y) (sym p.1)
      (subst (λ v. Contains (group_at (added needs l h) l) v) (sym p.0) (has_new needs l h l_in))

  pub users_more : AreUsers (added needs l h) (added users h l)
  users_more = record {
    long = length-set users h (group_at users h ++ l ∷ []) ∙ U.long ∙ sym (length-set needs l (group_at needs l ++ h ∷ []));
    used = λ x y c. used x y (in_added needs l h l_in x y c);
    using = λ x y c. using x y (in_added users h l h_in y x c);
  }

module _ (before : List (List ℕ)) (label : ℕ) (all labels : List ℕ) (lists : List (List ℕ)) (i : ℕ) (i_in : i < length all)
    (M : AreNeedsMore before label (take i all) labels lists) where
  in_more : (b : ℕ) → Contains (take (i + 1) all) b → Contains (take i all) b ⊎ (slice_index all i ≡ b)
  in_more b c = Contains-push_cases (take i all) (slice_index all i) b (subst (λ xs. Contains xs b) (take_more all i 0 i_in) c)

  to_more : (b : ℕ) → Contains (take i all) b → Contains (take (i + 1) all) b
  to_more b c = subst (λ xs. Contains xs b) (sym (take_more all i 0 i_in)) (Contains-append_left (take i all) (slice_index all i ∷ []) b c)

  to_last : Contains (take (i + 1) all) (slice_index all i)
  to_last = subst (λ xs. Contains xs (slice_index all i)) (sym (take_more all i 0 i_in)) (Contains-push (take i all) (slice_index all i))

  from_less : (l h : ℕ) → Contains (group_at before l) h ⊎ ((l ≡ label) × (h ≢ label) × ((b : ℕ) × Contains (take i all) b × (slice_index labels b ≡ h)))
      → Contains (group_at before l) h ⊎ ((l ≡ label) × (h ≢ label) × ((b : ℕ) × Contains (take (i + 1) all) b × (slice_index labels b ≡ h)))
  from_less l h (inl c) = inl c
  from_less l h (inr p) = inr (p.0, p.1, (p.2.0, to_more p.2.0 p.2.1, p.2.2))

  -- the next one has the label itself
  module _ (same : slice_index labels (slice_index all i) ≡ label) where
    has_same : (b : ℕ) → slice_index labels b ≢ label → Contains (take i all) b ⊎ (slice_index all i ≡ b)
        → Contains (group_at lists label) (slice_index labels b)
    has_same b ne (inl c) = M.has b c ne
    has_same b ne (inr e) = absurd (ne (subst (λ x. slice_index labels x ≡ label) e same))

    pub needs_same : AreNeedsMore before label (take (i + 1) all) labels lists
    needs_same = record { long = M.long; kept = M.kept; has = λ b c ne. has_same b ne (in_more b c); only = λ l h c. from_less l h (M.only l h c) }

  -- the next one has another label
  module _ (l_in : label < length lists) (other : slice_index labels (slice_index all i) ≢ label) where
    has_other : (b : ℕ) → slice_index labels b ≢ label → Contains (take i all) b ⊎ (slice_index all i ≡ b)
        → Contains (group_at (added lists label (slice_index labels (slice_index all i))) label) (slice_index labels b)
    has_other b ne (inl c) = keeps lists label (slice_index labels (slice_index all i)) l_in label (slice_index labels b) (M.has b c ne)
    has_other b ne (inr e) =
        subst (λ x. Contains (group_at (added lists label (slice_index labels (slice_index all i))) label) (slice_index labels x)) e
        (has_new lists label (slice_index labels (slice_index all i)) l_in)

    only_other : (l h : ℕ) → Contains (group_at lists l) h ⊎ ((l ≡ label) × (h ≡ slice_index labels (slice_index all i)))
        → Contains (group_at before l) h ⊎ ((l ≡ label) × (h ≢ label) × ((b : ℕ) × Contains (take (i + 1) all) b × (slice_index labels b ≡ h)))
    only_other l h (inl c) = from_less l h (M.only l h c)
    only_other l h (inr p) = inr (p.0, (λ e. other (sym p.1 ∙ e)), (slice_index all i, to_last, sym p.1))

    pub needs_other : AreNeedsMore before label (take (i + 1) all) labels (added lists label (slice_index labels (slice_index all i)))
    needs_other = record {
      long = length-set lists label (group_at lists label ++ slice_index labels (slice_index all i) ∷ []) ∙ M.long;
      kept = λ l h c. keeps lists label (slice_index labels (slice_index all i)) l_in l h (M.kept l h c);
      has = λ b c ne. has_other b ne (in_more b c);
      only = λ l h c. only_other l h (in_added lists label (slice_index labels (slice_index all i)) l_in l h c);
    }

module _ (needs : List (List ℕ)) (labels : List ℕ) (a : ℕ) (lists after : List (List ℕ)) (G : AreGroupNeeds needs labels a lists)
    (M : AreNeedsMore lists (slice_index labels a) (group_at needs a) labels after) where
  has : (x b : ℕ) → x < a + 1 → (x < a) ⊎ (a ≤ x) → Uses needs x b → slice_index labels b ≢ slice_index labels x
      → Contains (group_at after (slice_index labels x)) (slice_index labels b)
  has x b l (inl m) u ne = M.kept (slice_index labels x) (slice_index labels b) (G.has x b m u ne)
  has x b l (inr m) u ne =
      let e : a ≡ x = omega arith in
      subst (λ y. Uses needs y b → slice_index labels b ≢ slice_index labels y → Contains (group_at after (slice_index labels y)) (slice_index labels b)) e
      (λ v n. M.has b v n) u ne

  only_so : (l h : ℕ) → Contains (group_at lists l) h ⊎ ((l ≡ slice_index labels a) × (h ≢ slice_index labels a)
      × ((b : ℕ) × Contains (group_at needs a) b × (slice_index labels b ≡ h)))
      → (h ≢ l) × ((x : ℕ) × (b : ℕ) × Uses needs x b × (slice_index labels x ≡ l) × (slice_index labels b ≡ h))
  only_so l h (inl c) = G.only l h c
  only_so l h (inr p) = ((λ e. p.1 (e ∙ p.0)), (a, p.2.0, p.2.1, sym p.0, p.2.2))

  pub group_needs_more : AreGroupNeeds needs labels (a + 1) after
  group_needs_more = record { has = λ x b l u ne. has x b l (cases_lt x a) u ne; only = λ l h c. only_so l h (M.only l h c) }

-- what is used stays declared where one use of a declaration is added
pub declared_more : (lists : List (List ℕ)) (at value : ℕ) → at < length lists → value < length lists → AreDeclared lists → AreDeclared (added lists at value)
declared_more lists at value l m D a b u =
    let e : length (added lists at value) ≡ length lists = length-set lists at (group_at lists at ++ value ∷ []) in
    elim (in_added lists at value l a b u) [ inl c ↦ let k : b < length lists = D a b c in omega arith | inr p ↦ omega (arith, p.1) ]
