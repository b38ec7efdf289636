-- At most one list is that of the groups.
use Rattle.std.proofs.Common.{◌≡◌, ℕ, zero, suc, ◌<◌, ◌≤◌, List, [], ◌∷◌, length, slice_index, Contains, refl, sym, ap, subst, ◌∙◌, ◌⊎◌, inl, inr, arith}
use Rattle.std.proofs.Math.ListN.{get_or-eq_default}
use Rattle.std.proofs.lemmas.Bool.{cases_lt, cases_order}
use Rattle.std.proofs.lemmas.List.{ext_get_or}
use Rattle.ddl_groups.specs.Groups.{AreGroups, IsReady, IsRising, StandsIn, first_member, group_at}
use Rattle.ddl_groups.proofs.Rising.{Contains-first, none_in_empty, same_members}

-- the two lists have the same groups before place k
abbrev Agree : List (List ℕ) → List (List ℕ) → ℕ → Type 0
Agree g h k = (i : ℕ) → i < k → group_at g i ≡ group_at h i

agree_turned : (g h : List (List ℕ)) (k : ℕ) → Agree g h k → Agree h g k
agree_turned g h k agree i l = sym (agree i l)

pub past_end : (g : List (List ℕ)) (k : ℕ) → length g ≤ k → group_at g k ≡ []
past_end g k l = get_or-eq_default g [] l

pub within : (g : List (List ℕ)) (k a : ℕ) → StandsIn g k a → k < length g
within g k a p = by (cases_lt k (length g))
  where
    by : (k < length g) ⊎ (length g ≤ k) → k < length g
    by (inl l) = l
    by (inr past) = absurd (none_in_empty a (subst (λ xs. Contains xs a) (past_end g k past) p))

head_in : (xs : List ℕ) → 0 < length xs → Contains xs (slice_index xs 0)
head_in [] l = absurd (omega arith)
head_in (x ∷ xs) l = Contains-first x xs

module _ (needs : List (List ℕ)) where
  -- a declaration stands in one group
  own : (g : List (List ℕ)) → AreGroups needs g → (j k a : ℕ) → StandsIn g j a → StandsIn g k a → j ≡ k
  own g G j k a p q = G.joined j k a a p q ([], refl) ([], refl)

  first_in : (g : List (List ℕ)) → AreGroups needs g → (k : ℕ) → k < length g → StandsIn g k (first_member g k)
  first_in g G k l = head_in (group_at g k) (G.some k l)

  rising_at : (g : List (List ℕ)) → AreGroups needs g → (k a : ℕ) → StandsIn g k a → IsRising (group_at g k)
  rising_at g G k a p = G.rising k (within g k a p)

  members_in : (g h : List (List ℕ)) → AreGroups needs g → AreGroups needs h → (j k a : ℕ) → StandsIn g j a → StandsIn h k a
      → (z : ℕ) → StandsIn g j z → StandsIn h k z
  members_in g h G H j k a p q z s =
      let w : (i : ℕ) × StandsIn h i z = H.placed z (G.declared j z s) in
      let e : w.0 ≡ k = H.joined w.0 k z a w.1 q (G.together j z a s p) (G.together j a z p s) in
      let P : ℕ → Type 0 = λ i. StandsIn h i z in
      subst P e w.1

  -- two groups that share a member are one
  same_group : (g h : List (List ℕ)) → AreGroups needs g → AreGroups needs h → (j k a : ℕ) → StandsIn g j a → StandsIn h k a → group_at g j ≡ group_at h k
  same_group g h G H j k a p q =
      same_members (group_at g j) (group_at h k) (rising_at g G j a p) (rising_at h H k a q) (members_in g h G H j k a p q) (members_in h g H G k j a q p)

  module _ (g h : List (List ℕ)) (G : AreGroups needs g) (H : AreGroups needs h) (k : ℕ) (agree : Agree g h k) where
    not_before : (j a : ℕ) → StandsIn g k a → StandsIn h j a → (j < k) ⊎ (k ≤ j) → k ≤ j
    not_before j a p q (inr l) = l
    not_before j a p q (inl l) =
        let P : List ℕ → Type 0 = λ xs. Contains xs a in
        let e : j ≡ k = own g G j k a (subst P (sym (agree j l)) q) p in
        absurd (omega arith)

    -- the group at k stands in the other list, at k or after it
    standing : k < length g → (j : ℕ) × (k ≤ j) × (group_at g k ≡ group_at h j) × (j < length h)
    standing l =
        let a : ℕ = first_member g k in
        let p : StandsIn g k a = first_in g G k l in
        let w : (j : ℕ) × StandsIn h j a = H.placed a (G.declared k a p) in
        (w.0, not_before w.0 a p w.1 (cases_lt w.0 k), same_group g h G H k w.0 a p w.1, within h w.0 a w.1)

    ready_step : (i a b m j : ℕ) → group_at h k ≡ group_at g i → StandsIn g m b → StandsIn h j b → (j ≡ k) ⊎ (j < k) → (m ≡ i) ⊎ (m < k)
    ready_step i a b m j e q s (inl same) =
        let P : List ℕ → Type 0 = λ xs. Contains xs b in
        let Q : ℕ → Type 0 = λ x. StandsIn h x b in
        inl (own g G m i b q (subst P e (subst Q same s)))
    ready_step i a b m j e q s (inr less) =
        let P : List ℕ → Type 0 = λ xs. Contains xs b in
        let same : m ≡ j = own g G m j b q (subst P (sym (agree j less)) s) in
        inr (omega arith)

    -- the group that the other list has at k is ready at k here too
    ready_here : (i : ℕ) → group_at h k ≡ group_at g i → k < length h → IsReady needs g k i
    ready_here i e l a b m p q u =
        let P : List ℕ → Type 0 = λ xs. Contains xs a in
        let w : (j : ℕ) × StandsIn h j b = H.placed b (G.declared m b q) in
        ready_step i a b m w.0 e q w.1 (H.ready k l a b w.0 (subst P (sym e) p) w.1 u)

    less : (i : ℕ) → k < i → i < length g → group_at h k ≡ group_at g i → k < length h → first_member g k < first_member h k
    less i l in_g e in_h =
        let P : List ℕ → Type 0 = λ xs. first_member g k < slice_index xs 0 in
        subst P (sym e) (G.least k i l in_g (ready_here i e in_h))

  module _ (g h : List (List ℕ)) (G : AreGroups needs g) (H : AreGroups needs h) (k : ℕ) (agree : Agree g h k) where
    same_from : k < length g → k < length h
        → (j : ℕ) → group_at g k ≡ group_at h j → j < length h → (k ≡ j) ⊎ ((k < j) ⊎ (j < k)) → k ≤ j
        → (i : ℕ) → group_at h k ≡ group_at g i → i < length g → (k ≡ i) ⊎ ((k < i) ⊎ (i < k)) → k ≤ i
        → group_at g k ≡ group_at h k
    same_from in_g in_h j e jl (inl same) kj i f il s ki = e ∙ ap (group_at h) (sym same)
    same_from in_g in_h j e jl (inr (inr l)) kj i f il s ki = absurd (omega arith)
    same_from in_g in_h j e jl (inr (inl l)) kj i f il (inl same) ki = sym (f ∙ ap (group_at g) (sym same))
    same_from in_g in_h j e jl (inr (inl l)) kj i f il (inr (inr m)) ki = absurd (omega arith)
    same_from in_g in_h j e jl (inr (inl l)) kj i f il (inr (inl m)) ki =
        let one : first_member g k < first_member h k = less g h G H k agree i m il f in_h in
        let two : first_member h k < first_member g k = less h g H G k (agree_turned g h k agree) j l jl e in_g in
        absurd (omega arith)

    same_at : (k < length g) ⊎ (length g ≤ k) → (k < length h) ⊎ (length h ≤ k) → group_at g k ≡ group_at h k
    same_at (inl in_g) (inl in_h) =
        let s : (j : ℕ) × (k ≤ j) × (group_at g k ≡ group_at h j) × (j < length h) = standing g h G H k agree in_g in
        let t : (j : ℕ) × (k ≤ j) × (group_at h k ≡ group_at g j) × (j < length g) = standing h g H G k (agree_turned g h k agree) in_h in
        same_from in_g in_h s.0 s.2 s.3 (cases_order k s.0) s.1 t.0 t.2 t.3 (cases_order k t.0) t.1
    same_at (inl in_g) (inr past) =
        let s : (j : ℕ) × (k ≤ j) × (group_at g k ≡ group_at h j) × (j < length h) = standing g h G H k agree in_g in
        absurd (omega (arith, s.1, s.3))
    same_at (inr past) (inl in_h) =
        let t : (j : ℕ) × (k ≤ j) × (group_at h k ≡ group_at g j) × (j < length g) = standing h g H G k (agree_turned g h k agree) in_h in
        absurd (omega (arith, t.1, t.3))
    same_at (inr past) (inr beyond) = past_end g k past ∙ sym (past_end h k beyond)

  module _ (g h : List (List ℕ)) (G : AreGroups needs g) (H : AreGroups needs h) where
    one_more : (k : ℕ) → Agree g h k → (i : ℕ) → i < suc k → (i < k) ⊎ (k ≤ i) → group_at g i ≡ group_at h i
    one_more k agree i l (inl m) = agree i m
    one_more k agree i l (inr m) =
        let e : k ≡ i = omega arith in
        let P : ℕ → Type 0 = λ x. group_at g x ≡ group_at h x in
        subst P e (same_at g h G H k agree (cases_lt k (length g)) (cases_lt k (length h)))

    all_agree : (k : ℕ) → Agree g h k
    all_agree zero i l = absurd (omega arith)
    all_agree (suc k) i l = one_more k (all_agree k) i l (cases_lt i k)

  not_longer : (g h : List (List ℕ)) → AreGroups needs h → Agree g h (suc (length g)) → length g < length h → ⊥
  not_longer g h H agree l =
      let e : group_at h (length g) ≡ [] = sym (agree (length g) (omega arith)) ∙ past_end g (length g) (omega arith) in
      let P : List ℕ → Type 0 = λ xs. 0 < length xs in
      let m : 0 < length {A = ℕ} [] = subst P e (H.some (length g) l) in
      omega arith

  same_length : (g h : List (List ℕ)) → AreGroups needs g → AreGroups needs h → (length g ≡ length h) ⊎ ((length g < length h) ⊎ (length h < length g))
      → length g ≡ length h
  same_length g h G H (inl e) = e
  same_length g h G H (inr (inl l)) = absurd (not_longer g h H (all_agree g h G H (suc (length g))) l)
  same_length g h G H (inr (inr l)) = absurd (not_longer h g G (all_agree h g H G (suc (length h))) l)

  pub one_grouping : (g h : List (List ℕ)) → AreGroups needs g → AreGroups needs h → g ≡ h
  one_grouping g h G H =
      ext_get_or [] g h (same_length g h G H (cases_order (length g) (length h))) (λ i l. all_agree g h G H (suc i) i (omega arith))
