-- The last group of a path is closed.
use Rattle.std.proofs.Common.{◌≡◌, ℕ, ◌+◌, ◌-◌, ◌<◌, ◌≤◌, ◌≢◌, List, length, slice_index, take, Contains, refl, sym, subst, ◌∙◌, ◌⊎◌, inl, inr, arith}
use Rattle.std.proofs.lemmas.Bool.{cases_lt}
use Rattle.std.specs.List.{All}
use Rattle.std.proofs.Math.ListN.{get_or-eq_default}
use Rattle.std.proofs.lemmas.List.{get_or-take, get_or_default, length-take-le}
use Rattle.ddl_groups.specs.declared.marks.Mark.{Mark}
use Rattle.ddl_groups.specs.declared.marks.Mark.TheVariants.{Unseen, Open, Closed}
use Rattle.ddl_groups.specs.declared.marks.Step.{Step}
use Rattle.ddl_groups.specs.Reach.{Reaches, Uses}
use Rattle.ddl_groups.specs.Searching.{AreFollowed, IsBehind, IsFollowed, IsPath, mark_at, unseen}
use Rattle.ddl_groups.proofs.Settled.{member_at}
use Rattle.ddl_groups.proofs.Fronts.{front_increases, front_long, front_or_last, front_sub, last_greatest}

abbrev pub IsOpenOrNot : Mark → Type 0
IsOpenOrNot m = ((q : ℕ) × (m ≡ Open q)) ⊎ ((q : ℕ) → m ≡ Open q → ⊥)

pub open_or_not : (m : Mark) → IsOpenOrNot m
open_or_not Unseen = inr (λ q e. cc)
open_or_not (Open q) = inl (q, refl)
open_or_not Closed = inr (λ q e. cc)

pub one_place : (m : Mark) (p q : ℕ) → m ≡ Open p → m ≡ Open q → p ≡ q
one_place m p q e f = cc

pub not_both : (m : Mark) (q : ℕ) → m ≡ Open q → m ≡ Closed → ⊥
not_both m q e f = cc

module _ (needs : List (List ℕ)) (path heads : List ℕ) (steps : List Step) (marks : List Mark) (labels : List ℕ) (count : ℕ)
    (P : IsPath needs path heads steps marks labels count) where
  pub declared : (v : ℕ) → mark_at marks v ≢ Unseen → v < length needs
  declared v ne = elim (cases_lt v (length marks)) [
    | inl l ↦ let e : length marks ≡ length needs = P.marks_long in omega arith
    | inr l ↦ absurd (ne (get_or-eq_default marks Unseen l))
  ]

  pub path_declared : All (λ v. (v < length marks) × (v < length labels)) path
  path_declared k d l =
      let f : mark_at marks (slice_index path k) ≡ Open k = P.stand k l in
      let m : slice_index path k < length needs = declared (slice_index path k) (λ g. cc) in
      let e : length marks ≡ length needs = P.marks_long in
      let g : length labels ≡ length needs = P.labels_long in
      rw (get_or_default path k d 0 l) (omega arith, omega arith)

  module _ (some_head : 0 < length heads) (h : ℕ) (h_is : slice_index heads (length heads - 1) ≡ h) where
    pub head_in : h < length path
    head_in = P.heads_in h (subst (λ x. Contains heads x) h_is (member_at heads (length heads - 1) 0 (omega arith)))

module _ (needs : List (List ℕ)) (path heads : List ℕ) (steps : List Step) (marks : List Mark) (labels : List ℕ) (count : ℕ)
    (P : IsPath needs path heads steps marks labels count)
    (some_head : 0 < length heads) (h : ℕ) (h_is : slice_index heads (length heads - 1) ≡ h) (F : AreFollowed needs path heads steps marks) (before : (s : Step)
    → Contains steps s → s.from < h)
    (marks' : List Mark) (labels' : List ℕ) (long : (length marks' ≡ length marks) × (length labels' ≡ length labels))
    (closed : (p : ℕ) → h ≤ p → p < length path → (mark_at marks' (slice_index path p) ≡ Closed) × (slice_index labels' (slice_index path p) ≡ count))
    (others : (v : ℕ) → ((p : ℕ) → h ≤ p → p < length path → slice_index path p ≢ v)
    → (mark_at marks' v ≡ mark_at marks v) × (slice_index labels' v ≡ slice_index labels v))
    (fewer : unseen marks' ≤ unseen marks) where
  greatest : (g : ℕ) → Contains heads g → g ≤ h
  greatest g c = subst (λ x. g ≤ x) h_is (last_greatest heads P.rising g c)

  h_in : h < length path
  h_in = head_in needs path heads steps marks labels count P some_head h h_is

  path_long : length (take h path) ≡ h
  path_long = let l : h < length path = h_in in length-take-le h path (omega arith)

  path_at : (p : ℕ) → p < h → slice_index (take h path) p ≡ slice_index path p
  path_at p l = get_or-take h path p 0 l

  rest_in : (g : ℕ) → Contains (take (length heads - 1) heads) g → Contains heads g
  rest_in g c = front_sub heads (length heads - 1) g (omega arith) c

  rest_below : (g : ℕ) → Contains (take (length heads - 1) heads) g → g < h
  rest_below g c =
      let e : length (take (length heads - 1) heads) ≡ length heads - 1 = front_long heads in
      let m : c.0 < length (take (length heads - 1) heads) = c.1 in
      let at : slice_index heads c.0 ≡ g = sym (get_or-take (length heads - 1) heads c.0 0 (omega arith))
      ∙ get_or_default (take (length heads - 1) heads) c.0 0 g m ∙ c.2 in
      let f : slice_index heads c.0 < slice_index heads (length heads - 1) = P.rising c.0 (length heads - 1) (omega arith) (omega arith) in
      omega (arith, h_is)

  rest_or_last : (g : ℕ) → Contains heads g → Contains (take (length heads - 1) heads) g ⊎ (h ≡ g)
  rest_or_last g c = elim (front_or_last heads 0 g c) [ inl m ↦ inl m | inr e ↦ inr (sym h_is ∙ e) ]

  -- a declaration is of the group that is closed, or is as before
  cases_of : (v : ℕ) → ((q : ℕ) × (h ≤ q) × (mark_at marks v ≡ Open q) × (mark_at marks' v ≡ Closed) × (slice_index labels' v ≡ count))
      ⊎ ((mark_at marks' v ≡ mark_at marks v) × (slice_index labels' v ≡ slice_index labels v) × ((q : ℕ) → mark_at marks v ≡ Open q → q < h))
  cases_of v = by (open_or_not (mark_at marks v))
    where
      same : ((p : ℕ) → h ≤ p → p < length path → slice_index path p ≢ v) → ((q : ℕ) → mark_at marks v ≡ Open q → q < h)
          → ((q : ℕ) × (h ≤ q) × (mark_at marks v ≡ Open q) × (mark_at marks' v ≡ Closed) × (slice_index labels' v ≡ count))
          ⊎ ((mark_at marks' v ≡ mark_at marks v) × (slice_index labels' v ≡ slice_index labels v) × ((q : ℕ) → mark_at marks v ≡ Open q → q < h))
      same none low = inr ((others v none).0, (others v none).1, low)

      stand_at : (p : ℕ) → p < length path → slice_index path p ≡ v → mark_at marks v ≡ Open p
      stand_at p l e = subst (λ x. mark_at marks x ≡ Open p) e (P.stand p l)

      at_place : (q : ℕ) → mark_at marks v ≡ Open q → (q < h) ⊎ (h ≤ q)
          → ((q : ℕ) × (h ≤ q) × (mark_at marks v ≡ Open q) × (mark_at marks' v ≡ Closed) × (slice_index labels' v ≡ count))
          ⊎ ((mark_at marks' v ≡ mark_at marks v) × (slice_index labels' v ≡ slice_index labels v) × ((q : ℕ) → mark_at marks v ≡ Open q → q < h))
      at_place q e (inl l) = same
          (λ p m k f. let g : q ≡ p = one_place (mark_at marks v) q p e (stand_at p k f) in omega arith)
          (λ r f. let g : q ≡ r = one_place (mark_at marks v) q r e f in omega arith)
      at_place q e (inr l) =
          let pl : (q < length path) × (slice_index path q ≡ v) = P.places v q e in
          let cl : (mark_at marks' v ≡ Closed) × (slice_index labels' v ≡ count) =
          subst (λ x. (mark_at marks' x ≡ Closed) × (slice_index labels' x ≡ count)) pl.1 (closed q l pl.0) in
          inl (q, l, e, cl.0, cl.1)

      by : IsOpenOrNot (mark_at marks v)
          → ((q : ℕ) × (h ≤ q) × (mark_at marks v ≡ Open q) × (mark_at marks' v ≡ Closed) × (slice_index labels' v ≡ count))
          ⊎ ((mark_at marks' v ≡ mark_at marks v) × (slice_index labels' v ≡ slice_index labels v) × ((q : ℕ) → mark_at marks v ≡ Open q → q < h))
      by (inl o) = at_place o.0 o.1 (cases_lt o.0 h)
      by (inr never) = same (λ p m k f. never p (stand_at p k f)) (λ q f. absurd (never q f))

  -- what was closed stays so
  stays : (v : ℕ) → mark_at marks v ≡ Closed → (mark_at marks' v ≡ Closed) × (slice_index labels' v ≡ slice_index labels v)
  stays v e = elim (cases_of v) [ inl p ↦ absurd (not_both (mark_at marks v) p.0 p.2 e) | inr p ↦ (p.0 ∙ e, p.1) ]

  -- what is open or closed at and behind the head is now closed
  now_closed : (v q : ℕ) → mark_at marks v ≡ Open q → h ≤ q → (mark_at marks' v ≡ Closed) × (slice_index labels' v ≡ count)
  now_closed v q e l = elim (cases_of v) [ inl p ↦ (p.3, p.4) | inr p ↦ let m : q < h = p.2 q e in absurd (omega arith) ]

  places : (v q : ℕ) → mark_at marks' v ≡ Open q → (q < length (take h path)) × (slice_index (take h path) q ≡ v)
  places v q e = elim (cases_of v) [
    | inl p ↦ absurd (not_both (mark_at marks' v) q e p.3)
    | inr p ↦
        let f : mark_at marks v ≡ Open q = sym p.0 ∙ e in
        let l : q < h = p.2 q f in
        (rw path_long l, path_at q l ∙ (P.places v q f).1)
  ]

  stand : (p : ℕ) → p < h → mark_at marks' (slice_index path p) ≡ Open p
  stand p l =
      let k : h < length path = h_in in
      let f : mark_at marks (slice_index path p) ≡ Open p = P.stand p (omega arith) in
      elim (cases_of (slice_index path p)) [
        | inl r ↦ let g : r.0 ≡ p = one_place (mark_at marks (slice_index path p)) r.0 p r.2 f in let m : h ≤ r.0 = r.1 in absurd (omega arith)
        | inr r ↦ r.0 ∙ f
      ]

  leads : (p q : ℕ) → p < h → q < h → IsBehind (take (length heads - 1) heads) p q → Reaches needs (slice_index path p) (slice_index path q)
  leads p q k l behind =
      let m : h < length path = h_in in
      P.leads p q (omega arith) (omega arith) (λ g c n. elim (rest_or_last g c) [ inl d ↦ behind g d n | inr e ↦ absurd (omega arith) ])

  followed_end : (a b : ℕ) → slice_index labels' a ≡ count → (q : ℕ) → h ≤ q → IsFollowed heads steps marks q b
      → (mark_at marks' b ≡ Closed) × (slice_index labels' b ≤ slice_index labels' a)
  followed_end a b e q l (inl s) =
      let m : s.0.from < h = before s.0 s.1 in
      let f : s.0.from ≡ q = s.2 in
      absurd (omega arith)
  followed_end a b e q l (inr (inl c)) =
      let f : slice_index labels' b ≡ slice_index labels b = (stays b c).1 in
      let g : slice_index labels b < count = P.below b c in
      ((stays b c).0, omega arith)
  followed_end a b e q l (inr (inr o)) =
      let m : h ≤ o.0 = o.2 h (subst (λ x. Contains heads x) h_is (member_at heads (length heads - 1) 0 (omega arith))) l in
      let f : slice_index labels' b ≡ count = (now_closed b o.0 o.1 m).1 in
      ((now_closed b o.0 o.1 m).0, omega arith)

  falls : (a b : ℕ) → mark_at marks' a ≡ Closed → Uses needs a b → (mark_at marks' b ≡ Closed) × (slice_index labels' b ≤ slice_index labels' a)
  falls a b c u = elim (cases_of a) [
    | inl p ↦
        let pl : (p.0 < length path) × (slice_index path p.0 ≡ a) = P.places a p.0 p.2 in
        followed_end a b p.4 p.0 p.1 (F p.0 b pl.0 (subst (λ x. Uses needs x b) (sym pl.1) u))
    | inr p ↦
        let f : (mark_at marks b ≡ Closed) × (slice_index labels b ≤ slice_index labels a) = P.falls a b (sym p.0 ∙ c) u in
        let g : slice_index labels' b ≡ slice_index labels b = (stays b f.0).1 in
        let k : slice_index labels' a ≡ slice_index labels a = p.1 in
        let m : slice_index labels b ≤ slice_index labels a = f.1 in
        ((stays b f.0).0, omega arith)
  ]

  old_label : (a : ℕ) → mark_at marks' a ≡ Closed → mark_at marks' a ≡ mark_at marks a → slice_index labels' a ≡ slice_index labels a
      → slice_index labels' a < count
  old_label a c e f = let g : slice_index labels a < count = P.below a (sym e ∙ c) in omega arith

  reach_within : (a b p q : ℕ) → mark_at marks a ≡ Open p → mark_at marks b ≡ Open q → h ≤ q → Reaches needs a b
  reach_within a b p q e f l =
      let pa : (p < length path) × (slice_index path p ≡ a) = P.places a p e in
      let pb : (q < length path) × (slice_index path q ≡ b) = P.places b q f in
      let r : Reaches needs (slice_index path p) (slice_index path q) = P.leads p q pa.0 pb.0 (λ g c n. let m : g ≤ h = greatest g c in omega arith) in
      subst (λ x. Reaches needs x b) pa.1 (subst (λ y. Reaches needs (slice_index path p) y) pb.1 r)

  joins : (a b : ℕ) → mark_at marks' a ≡ Closed → mark_at marks' b ≡ Closed → slice_index labels' a ≡ slice_index labels' b → Reaches needs a b
  joins a b c d e = by (cases_of a) (cases_of b)
    where
      by : ((q : ℕ) × (h ≤ q) × (mark_at marks a ≡ Open q) × (mark_at marks' a ≡ Closed) × (slice_index labels' a ≡ count))
          ⊎ ((mark_at marks' a ≡ mark_at marks a) × (slice_index labels' a ≡ slice_index labels a) × ((q : ℕ) → mark_at marks a ≡ Open q → q < h))
          → ((q : ℕ) × (h ≤ q) × (mark_at marks b ≡ Open q) × (mark_at marks' b ≡ Closed) × (slice_index labels' b ≡ count))
          ⊎ ((mark_at marks' b ≡ mark_at marks b) × (slice_index labels' b ≡ slice_index labels b) × ((q : ℕ) → mark_at marks b ≡ Open q → q < h))
          → Reaches needs a b
      by (inl p) (inl q) = reach_within a b p.0 q.0 p.2 q.2 q.1
      by (inl p) (inr q) = let f : slice_index labels' a ≡ count = p.4 in let g : slice_index labels' b < count = old_label b d q.0 q.1 in absurd (omega arith)
      by (inr p) (inl q) = let f : slice_index labels' b ≡ count = q.4 in let g : slice_index labels' a < count = old_label a c p.0 p.1 in absurd (omega arith)
      by (inr p) (inr q) = P.joins a b (sym p.0 ∙ c) (sym q.0 ∙ d) (sym p.1 ∙ e ∙ q.1)

  below : (a : ℕ) → mark_at marks' a ≡ Closed → slice_index labels' a < count + 1
  below a c = elim (cases_of a) [
    | inl p ↦ let f : slice_index labels' a ≡ count = p.4 in omega arith
    | inr p ↦ let f : slice_index labels' a < count = old_label a c p.0 p.1 in omega arith
  ]

  some : (l : ℕ) → l < count + 1 → (l < count) ⊎ (count ≤ l) → (a : ℕ) × (a < length needs) × (mark_at marks' a ≡ Closed) × (slice_index labels' a ≡ l)
  some l m (inl n) =
      let s : (a : ℕ) × (a < length needs) × (mark_at marks a ≡ Closed) × (slice_index labels a ≡ l) = P.some l n in
      (s.0, s.1, (stays s.0 s.2).0, (stays s.0 s.2).1 ∙ s.3)
  some l m (inr n) =
      let e : count ≡ l = omega arith in
      let f : mark_at marks (slice_index path h) ≡ Open h = P.stand h h_in in (
        slice_index path h,
        declared needs path heads steps marks labels count P (slice_index path h) (λ g. cc),
        (closed h (omega arith) h_in).0,
        (closed h (omega arith) h_in).1 ∙ e,
      )

  follow : (p b : ℕ) → p < h → IsFollowed heads steps marks p b → IsFollowed (take (length heads - 1) heads) steps marks' p b
  follow p b l (inl s) = inl s
  follow p b l (inr (inl c)) = inr (inl (stays b c).0)
  follow p b l (inr (inr o)) = elim (cases_of b) [
    | inl r ↦ inr (inl r.3)
    | inr r ↦ inr (inr (o.0, r.0 ∙ o.1, λ g c n. o.2 g (rest_in g c) n))
  ]

  pub closed_path : IsPath needs (take h path) (take (length heads - 1) heads) steps marks' labels' (count + 1)
  closed_path = record {
    marks_long = long.0 ∙ P.marks_long;
    labels_long = long.1 ∙ P.labels_long;
    places = places;
    stand = λ p l. let m : p < h = subst (λ n. p < n) path_long l in rw (path_at p m) (stand p m);
    heads_in = λ g c. rw path_long (rest_below g c);
    rising = front_increases heads P.rising;
    first = λ l. let m : 0 < h = subst (λ n. 0 < n) path_long l in let k : h < length path = h_in in
        elim (rest_or_last 0 (P.first (omega arith))) [ inl c ↦ c | inr e ↦ absurd (omega arith) ];
    leads = λ p q k l b. let m : p < h = subst (λ n. p < n) path_long k in let n : q < h = subst (λ n. q < n) path_long l in
        rw (path_at p m, path_at q n) (leads p q m n b);
    steps_in = λ s c. let m : s.from < h = before s c in (rw path_long m, rw (path_at s.from m) (P.steps_in s c).1);
    sorted = P.sorted;
    falls = falls;
    joins = joins;
    below = below;
    some = λ l m. some l m (cases_lt l count);
    room = let e : length (take (length heads - 1) heads) ≡ length heads - 1 = front_long heads in let r : count + length heads + unseen marks ≤ length needs =
        P.room in omega arith;
  }

  pub closed_followed : AreFollowed needs (take h path) (take (length heads - 1) heads) steps marks'
  closed_followed p b l u =
      let m : p < h = subst (λ n. p < n) path_long l in
      let k : h < length path = h_in in
      follow p b m (F p b (omega arith) (subst (λ x. Uses needs x b) (path_at p m) u))

  pub closed_seen : (v : ℕ) → mark_at marks v ≢ Unseen → mark_at marks' v ≢ Unseen
  closed_seen v ne e = elim (cases_of v) [ inl p ↦ let f : mark_at marks' v ≡ Closed = p.3 in absurd cc | inr p ↦ ne (sym p.0 ∙ e) ]
