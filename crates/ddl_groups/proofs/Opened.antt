-- A declaration that the search comes to was put at the end of its path.
use Rattle.std.proofs.Common.{◌≡◌, ℕ, ◌+◌, ◌<◌, ◌≤◌, ◌≢◌, List, [], ◌∷◌, ◌++◌, length, slice_index, set, Contains, refl, ap, sym, subst, ◌∙◌, ◌⊎◌, inl, inr}
use Rattle.std.proofs.Common.{arith, length-append, length-set}
use Rattle.std.proofs.Math.Seq.{get_or-append_seam}
use Rattle.std.proofs.lemmas.Bool.{cases_lt}
use Rattle.std.proofs.lemmas.List.{get_or_append_left}
use Rattle.std.proofs.lemmas.List.Elements.{Contains-append_left, Contains-push, Contains-push_cases}
use Rattle.std.proofs.lemmas.List.Sums.{sum_by-set}
use Rattle.ddl_groups.specs.Groups.{group_at}
use Rattle.ddl_groups.specs.declared.marks.Mark.{Mark}
use Rattle.ddl_groups.specs.declared.marks.Mark.TheVariants.{Unseen, Open, Closed}
use Rattle.ddl_groups.specs.declared.marks.Step.{Step}
use Rattle.ddl_groups.specs.Reach.{Reaches, Uses}
use Rattle.ddl_groups.specs.Searching.{AreFollowed, AreFollowedBut, IsBehind, IsFollowed, IsOpened, IsPath, StepsMore, mark_at, unseen, weight}
use Rattle.ddl_groups.proofs.Closed.{one_place}
use Rattle.ddl_groups.proofs.Placed.{pushed_at}
use Rattle.ddl_groups.proofs.Settled.{member_at, written}

module _ (needs : List (List ℕ)) (path heads : List ℕ) (steps : List Step) (marks : List Mark) (labels : List ℕ) (count w : ℕ)
    (P : IsPath needs path heads steps marks labels count) (F : AreFollowedBut needs path heads steps marks w) (new : mark_at marks w ≡ Unseen)
    (w_in : w < length needs)
    (reached : (p : ℕ) → p < length path → Reaches needs (slice_index path p) w) (after : List Step)
    (M : StepsMore steps (length path) (group_at needs w) after) where
  marks_in : w < length marks
  marks_in = rw P.marks_long w_in

  marked : (v : ℕ) → ((v ≡ w) × (mark_at (set marks w (Open (length path))) v ≡ Open (length path)))
      ⊎ ((v ≢ w) × (mark_at (set marks w (Open (length path))) v ≡ mark_at marks v))
  marked v = written marks w (Open (length path)) Unseen marks_in v

  -- what is not unseen keeps its mark
  same_mark : (v : ℕ) (m : Mark) → m ≢ Unseen → mark_at marks v ≡ m → mark_at (set marks w (Open (length path))) v ≡ m
  same_mark v m ne e = elim (marked v) [ inl p ↦ absurd (ne (sym e ∙ ap (λ x. mark_at marks x) p.0 ∙ new)) | inr p ↦ p.1 ∙ e ]

  same_open : (v q : ℕ) → mark_at marks v ≡ Open q → mark_at (set marks w (Open (length path))) v ≡ Open q
  same_open v q e = same_mark v (Open q) (λ f. cc) e

  same_closed : (v : ℕ) → mark_at marks v ≡ Closed → mark_at (set marks w (Open (length path))) v ≡ Closed
  same_closed v e = same_mark v Closed (λ f. cc) e

  was_closed : (v : ℕ) → mark_at (set marks w (Open (length path))) v ≡ Closed → mark_at marks v ≡ Closed
  was_closed v e = elim (marked v) [
    | inl p ↦ let f : mark_at (set marks w (Open (length path))) v ≡ Open (length path) = p.1 in absurd cc
    | inr p ↦ sym p.1
        ∙ e
  ]

  now_open : mark_at (set marks w (Open (length path))) w ≡ Open (length path)
  now_open = elim (marked w) [ inl p ↦ p.1 | inr p ↦ absurd (p.0 refl) ]

  longer : length (path ++ w ∷ []) ≡ length path + 1
  longer = length-append path (w ∷ [])

  old_at : (p : ℕ) → p < length path → slice_index (path ++ w ∷ []) p ≡ slice_index path p
  old_at p l = get_or_append_left path (w ∷ []) 0 p l

  new_at : slice_index (path ++ w ∷ []) (length path) ≡ w
  new_at = get_or-append_seam path w [] 0

  places : (v q : ℕ) → mark_at (set marks w (Open (length path))) v ≡ Open q → (q < length (path ++ w ∷ [])) × (slice_index (path ++ w ∷ []) q ≡ v)
  places v q e = elim (marked v) [
    | inl p ↦
        let f : length path ≡ q = one_place (mark_at (set marks w (Open (length path))) v) (length path) q p.1 e in
        (omega (arith, longer), subst (λ x. slice_index (path ++ w ∷ []) x ≡ v) f (new_at ∙ sym p.0))
    | inr p ↦
        let pl : (q < length path) × (slice_index path q ≡ v) = P.places v q (sym p.1 ∙ e) in
        let m : q < length path = pl.0 in
        (omega (arith, longer), old_at q m ∙ pl.1)
  ]

  stand : (p : ℕ) → p < length (path ++ w ∷ []) → mark_at (set marks w (Open (length path))) (slice_index (path ++ w ∷ []) p) ≡ Open p
  stand p l = elim (pushed_at path w p l) [
    | inl r ↦ rw r.1 (same_open (slice_index path p) p (P.stand p r.0))
    | inr r ↦ rw r.1 (now_open ∙ ap (λ x. Open x) (sym r.0))
  ]

  heads_in : (h : ℕ) → Contains heads h ⊎ (length path ≡ h) → h < length (path ++ w ∷ [])
  heads_in h (inl c) = let l : h < length path = P.heads_in h c in omega (arith, longer)
  heads_in h (inr e) = omega (arith, longer)

  rising : (i j : ℕ) → i < j → j < length (heads ++ length path ∷ []) → slice_index (heads ++ length path ∷ []) i < slice_index (heads ++ length path ∷ []) j
  rising i j l m = elim (pushed_at heads (length path) j m) [
    | inl r ↦
        let k : j < length heads = r.0 in
        let f : slice_index heads i < slice_index heads j = P.rising i j l k in
        rw (get_or_append_left heads (length path ∷ []) 0 i (omega arith), r.1) f
    | inr r ↦
        let k : j ≡ length heads = r.0 in
        let f : slice_index heads i < length path = P.heads_in (slice_index heads i) (member_at heads i 0 (omega arith)) in
        rw (get_or_append_left heads (length path ∷ []) 0 i (omega arith), r.1) f
  ]

  first : (0 < length path) ⊎ (length path ≤ 0) → Contains (heads ++ length path ∷ []) 0
  first (inl l) = Contains-append_left heads (length path ∷ []) 0 (P.first l)
  first (inr l) = let e : length path ≡ 0 = omega arith in subst (λ x. Contains (heads ++ length path ∷ []) x) e (Contains-push heads (length path))

  leads : (p q : ℕ) → IsBehind (heads ++ length path ∷ []) p q → ((p < length path) × (slice_index (path ++ w ∷ []) p ≡ slice_index path p))
      ⊎ ((p ≡ length path) × (slice_index (path ++ w ∷ []) p ≡ w))
      → ((q < length path) × (slice_index (path ++ w ∷ []) q ≡ slice_index path q)) ⊎ ((q ≡ length path) × (slice_index (path ++ w ∷ []) q ≡ w))
      → Reaches needs (slice_index (path ++ w ∷ []) p) (slice_index (path ++ w ∷ []) q)
  leads p q behind (inl a) (inl b) = rw (a.1, b.1) (P.leads p q a.0 b.0 (λ h c m. behind h (Contains-append_left heads (length path ∷ []) h c) m))
  leads p q behind (inl a) (inr b) = rw (a.1, b.1) (reached p a.0)
  leads p q behind (inr a) (inl b) =
      let l : length path ≤ q = behind (length path) (Contains-push heads (length path)) (omega (arith, a.0)) in
      absurd (omega (arith, b.0))
  leads p q behind (inr a) (inr b) = rw (a.1, b.1) ([], refl)

  steps_in : (s : Step) → Contains steps s ⊎ ((s.from ≡ length path) × Contains (group_at needs w) s.to)
      → (s.from < length (path ++ w ∷ [])) × Uses needs (slice_index (path ++ w ∷ []) s.from) s.to
  steps_in s (inl c) =
      let l : s.from < length path = (P.steps_in s c).0 in
      (omega (arith, longer), subst (λ x. Uses needs x s.to) (sym (old_at s.from l)) (P.steps_in s c).1)
  steps_in s (inr p) =
      (omega (arith, longer, p.0), subst (λ x. Uses needs x s.to) (sym (ap (λ i. slice_index (path ++ w ∷ []) i) p.0 ∙ new_at)) p.1)

  fewer : unseen (set marks w (Open (length path))) + 1 ≡ unseen marks
  fewer =
      let e : unseen (set marks w (Open (length path))) + weight (mark_at marks w) ≡ unseen marks + 0 =
      sum_by-set weight marks w (Open (length path)) Unseen marks_in in
      let f : weight (mark_at marks w) ≡ 1 = ap weight new in
      omega arith

  pub opened_path : IsPath needs (path ++ w ∷ []) (heads ++ length path ∷ []) after (set marks w (Open (length path))) labels count
  opened_path = record {
    marks_long = length-set marks w (Open (length path)) ∙ P.marks_long;
    labels_long = P.labels_long;
    places = places;
    stand = stand;
    heads_in = λ h c. heads_in h (Contains-push_cases heads (length path) h c);
    rising = rising;
    first = λ l. first (cases_lt 0 (length path));
    leads = λ p q k l b. leads p q b (pushed_at path w p k) (pushed_at path w q l);
    steps_in = λ s c. steps_in s (M.only s c);
    sorted = M.sorted;
    falls = λ a b c u. (same_closed b (P.falls a b (was_closed a c) u).0, (P.falls a b (was_closed a c) u).1);
    joins = λ a b c d e. P.joins a b (was_closed a c) (was_closed b d) e;
    below = λ a c. P.below a (was_closed a c);
    some = λ l m. ((P.some l m).0, (P.some l m).1, same_closed (P.some l m).0 (P.some l m).2, (P.some l m).3);
    room = let r : count + length heads + unseen marks ≤ length needs = P.room in omega (arith, fewer, length-append heads (length path ∷ []));
  }

  old_follow : (p b : ℕ) → p < length path → (b ≡ w) ⊎ IsFollowed heads steps marks p b
      → IsFollowed (heads ++ length path ∷ []) after (set marks w (Open (length path))) p b
  old_follow p b l (inl e) = inr (inr (length path, ap (λ x. mark_at (set marks w (Open (length path))) x) e ∙ now_open, λ h c m. omega arith))
  old_follow p b l (inr (inl s)) = inl (s.0, M.kept s.0 s.1, s.2, s.3)
  old_follow p b l (inr (inr (inl c))) = inr (inl (same_closed b c))
  old_follow p b l (inr (inr (inr o))) =
      inr (inr (o.0, same_open b o.0 o.1, λ h c m. elim (Contains-push_cases heads (length path) h c) [ inl d ↦ o.2 h d m | inr e ↦ absurd (omega arith) ]))

  pub opened_followed : AreFollowed needs (path ++ w ∷ []) (heads ++ length path ∷ []) after (set marks w (Open (length path)))
  opened_followed p b l u = elim (pushed_at path w p l) [
    | inl r ↦ old_follow p b r.0 (F p b r.0 (subst (λ x. Uses needs x b) r.1 u))
    | inr r ↦
        let a : (s : Step) × Contains after s × (s.from ≡ length path) × (s.to ≡ b) = M.all b (subst (λ x. Uses needs x b) r.1 u) in
        inl (a.0, a.1, a.2 ∙ sym r.0, a.3)
  ]

  pub is_opened : IsOpened marks w (set marks w (Open (length path)))
  is_opened = (
    omega (arith, fewer),
    (λ v ne e. elim (marked v) [
      | inl p ↦ let f : mark_at (set marks w (Open (length path))) v ≡ Open (length path) =
          p.1 in absurd cc
      | inr p ↦ ne (sym p.1 ∙ e)
    ]),
    (λ e. let f : mark_at (set marks w (Open (length path))) w ≡ Open (length path) = now_open in cc),
  )
