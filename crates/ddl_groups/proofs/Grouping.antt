-- From labels, the members by label and the order of the labels to the groups.
use Rattle.std.proofs.Common.{◌≡◌, ℕ, ◌<◌, ◌≤◌, ◌≢◌, List, length, slice_index, Contains, ap, sym, subst, ◌∙◌, ◌⊎◌, inl, inr, arith}
use Rattle.std.specs.List.{All}
use Rattle.std.proofs.lemmas.Bool.{cases_eq}
use Rattle.ddl_groups.specs.Groups.{AreGroups, IsReady, IsRising, StandsIn, first_member, group_at}
use Rattle.ddl_groups.specs.Labels.{AreLabels}
use Rattle.ddl_groups.specs.Numbered.{AreGroupNeeds, AreMembers}
use Rattle.ddl_groups.specs.Placing.{HasBefore, IsNumbered, IsOrder}
use Rattle.ddl_groups.specs.Reach.{Reaches, Uses}
use Rattle.ddl_groups.proofs.LabelLemmas.{labels_tell}
use Rattle.ddl_groups.proofs.OneGrouping.{within}
use Rattle.ddl_groups.proofs.Placed.{place_of}
use Rattle.ddl_groups.proofs.Settled.{member_at}

module _ (needs : List (List ℕ)) (labels : List ℕ) (members : List (List ℕ)) (count : ℕ) (M : AreMembers labels (length labels) members)
    (some : (l : ℕ) → l < count → (a : ℕ) × (a < length labels) × (slice_index labels a ≡ l)) where
  pub has_member : (l : ℕ) → l < count → 0 < length (group_at members l)
  has_member l l_in =
      let a : (a : ℕ) × (a < length labels) × (slice_index labels a ≡ l) = some l l_in in
      let c : Contains (group_at members l) a.0 = subst (λ x. Contains (group_at members x) a.0) a.2 (M.has a.0 a.1) in
      omega (arith, c.1)

  module _ (lists : List (List ℕ)) (firsts : List ℕ) (L : AreLabels needs labels) (G : AreGroupNeeds needs labels (length needs) lists)
      (long : length lists ≡ count)
      (firsts_long : length firsts ≡ count) (first : (l : ℕ) → l < count → slice_index firsts l ≡ first_member members l) where
    lower : (l h : ℕ) → Contains (group_at lists l) h → h < l
    lower l h c =
        let p : (h ≢ l) × ((a : ℕ) × (b : ℕ) × Uses needs a b × (slice_index labels a ≡ l) × (slice_index labels b ≡ h)) = G.only l h c in
        let m : slice_index labels p.1.1 ≤ slice_index labels p.1.0 = L.falls p.1.0 p.1.1 p.1.2 in
        let e : slice_index labels p.1.0 ≡ l = p.1.3 in
        let f : slice_index labels p.1.1 ≡ h = p.1.4 in
        let ne : h ≢ l = p.0 in
        omega arith

    first_of : (l : ℕ) → l < count → (slice_index firsts l < length labels) × (slice_index labels (slice_index firsts l) ≡ l)
    first_of l l_in =
        let c : Contains (group_at members l) (first_member members l) = member_at (group_at members l) 0 0 (has_member l l_in) in
        subst (λ x. (x < length labels) × (slice_index labels x ≡ l)) (sym (first l l_in)) (M.only l (first_member members l) c)

    pub numbered : IsNumbered lists firsts labels
    numbered = record { firsts_long = firsts_long ∙ sym long; lower = lower; first = λ l l_in. first_of l (subst (λ n. l < n) long l_in) }

    module _ (order : List ℕ) (O : IsOrder lists firsts order) (groups : List (List ℕ)) (groups_long : length groups ≡ length order)
        (known : All (λ l. l < count) labels)
        (same : (k : ℕ) → k < length order → group_at groups k ≡ group_at members (slice_index order k)) where
      in_order : (k a : ℕ) → StandsIn groups k a → k < length order
      in_order k a c = subst (λ n. k < n) groups_long (within groups k a c)

      -- a member of the group at k has its label
      label_of : (k a : ℕ) → StandsIn groups k a → (a < length labels) × (slice_index labels a ≡ slice_index order k)
      label_of k a c = M.only (slice_index order k) a (subst (λ xs. Contains xs a) (same k (in_order k a c)) c)

      declared : (k a : ℕ) → StandsIn groups k a → a < length needs
      declared k a c = subst (λ n. a < n) L.long (label_of k a c).0

      placed : (a : ℕ) → a < length needs → (k : ℕ) × StandsIn groups k a
      placed a l =
          let a_in : a < length labels = subst (λ n. a < n) (sym L.long) l in
          let l_in : slice_index labels a < length lists = subst (λ n. slice_index labels a < n) (sym long) (known a 0 a_in) in
          let p : (k : ℕ) × (k < length order) × (slice_index order k ≡ slice_index labels a) =
          place_of order (slice_index labels a) (O.all (slice_index labels a) l_in) in
          (p.0, subst (λ xs. Contains xs a) (sym (same p.0 p.1)) (subst (λ x. Contains (group_at members x) a) (sym p.2) (M.has a a_in)))

      together : (k a b : ℕ) → StandsIn groups k a → StandsIn groups k b → Reaches needs a b
      together k a b c d = L.joins a b (declared k a c) (declared k b d) ((label_of k a c).1 ∙ sym (label_of k b d).1)

      same_place : (j k a b : ℕ) → StandsIn groups j a → StandsIn groups k b → slice_index labels a ≡ slice_index labels b → j ≡ k
      same_place j k a b c d e = O.once j k (in_order j a c) (in_order k b d) (sym (label_of j a c).1 ∙ e ∙ (label_of k b d).1)

      joined : (j k a b : ℕ) → StandsIn groups j a → StandsIn groups k b → Reaches needs a b → Reaches needs b a → j ≡ k
      joined j k a b c d there back = same_place j k a b c d ((labels_tell needs labels L a b (declared j a c) (declared k b d)).1 (there, back))

      some_in : (k : ℕ) → k < length groups → 0 < length (group_at groups k)
      some_in k l =
          let k_in : k < length order = subst (λ n. k < n) groups_long l in
          subst (λ xs. 0 < length xs) (sym (same k k_in)) (has_member (slice_index order k) (subst (λ n. slice_index order k < n) long (O.known k k_in)))

      rising : (k : ℕ) → k < length groups → IsRising (group_at groups k)
      rising k l = subst IsRising (sym (same k (subst (λ n. k < n) groups_long l))) (M.rising (slice_index order k))

      ready_by : (k a b i : ℕ) → StandsIn groups k a → StandsIn groups i b → Uses needs a b → (slice_index labels b ≡ slice_index labels a)
          ⊎ (slice_index labels b ≢ slice_index labels a) → (i ≡ k) ⊎ (i < k)
      ready_by k a b i c d u (inl e) = inl (same_place i k b a d c e)
      ready_by k a b i c d u (inr ne) =
          let k_in : k < length order = in_order k a c in
          let needed : Contains (group_at lists (slice_index order k)) (slice_index labels b) =
          subst (λ x. Contains (group_at lists x) (slice_index labels b)) (label_of k a c).1 (G.has a b (declared k a c) u ne) in
          let p : (h : ℕ) × (h < k) × (slice_index order h ≡ slice_index labels b) = O.ready k k_in (slice_index labels b) needed in
          let m : p.0 < k = p.1 in
          let e : p.0 ≡ i = O.once p.0 i (omega arith) (in_order i b d) (p.2 ∙ (label_of i b d).1) in
          inr (omega arith)

      -- what the group of a needs is placed before j
      need_before : (j k h a b i : ℕ) → h ≢ slice_index order k → slice_index labels b ≡ h → StandsIn groups i b → (i ≡ k) ⊎ (i < j)
          → (g : ℕ) × (g < j) × (slice_index order g ≡ h)
      need_before j k h a b i ne f d (inl e) = absurd (ne (sym f ∙ (label_of i b d).1 ∙ ap (λ x. slice_index order x) e))
      need_before j k h a b i ne f d (inr m) = (i, m, sym (label_of i b d).1 ∙ f)

      before : (j k : ℕ) → k < length order → IsReady needs groups j k → (known_uses : (a b : ℕ) → Uses needs a b → b < length needs)
          → HasBefore lists order j (slice_index order k)
      before j k l r known_uses h c =
          let p : (h ≢ slice_index order k) × ((a : ℕ) × (b : ℕ) × Uses needs a b × (slice_index labels a ≡ slice_index order k) × (slice_index labels b ≡ h)) =
          G.only (slice_index order k) h c in
          let a_in : p.1.0 < length labels = subst (λ n. p.1.0 < n) (sym L.long) (within needs p.1.0 p.1.1 p.1.2) in
          let a_here : StandsIn groups k p.1.0 = subst (λ xs. Contains xs p.1.0) (sym (same k l))
          (subst (λ x. Contains (group_at members x) p.1.0) p.1.3 (M.has p.1.0 a_in)) in
          let at_b : (i : ℕ) × StandsIn groups i p.1.1 = placed p.1.1 (known_uses p.1.0 p.1.1 p.1.2) in
          need_before j k h p.1.0 p.1.1 at_b.0 p.0 p.1.4 at_b.1 (r p.1.0 p.1.1 at_b.0 a_here at_b.1 p.1.2)

      first_at : (k : ℕ) → k < length order → first_member groups k ≡ slice_index firsts (slice_index order k)
      first_at k l = ap (λ xs. slice_index xs 0) (same k l) ∙ sym (first (slice_index order k) (subst (λ n. slice_index order k < n) long (O.known k l)))

      least : ((a b : ℕ) → Uses needs a b → b < length needs) → (j k : ℕ) → j < k → k < length groups → IsReady needs groups j k
          → first_member groups j < first_member groups k
      least known_uses j k l m r =
          let k_in : k < length order = subst (λ n. k < n) groups_long m in
          let f : slice_index firsts (slice_index order j) < slice_index firsts (slice_index order k) = O.least j k l k_in (before j k k_in r known_uses) in
          rw (first_at j (omega arith), first_at k k_in) f

      pub grouped : ((a b : ℕ) → Uses needs a b → b < length needs) → AreGroups needs groups
      grouped known_uses = record {
        declared = declared;
        placed = placed;
        together = together;
        joined = joined;
        some = some_in;
        rising = rising;
        ready = λ k l a b i c d u. ready_by k a b i c d u (cases_eq (slice_index labels b) (slice_index labels a));
        least = least known_uses;
      }
