-- The last step of a search is taken.
use Rattle.std.proofs.Common.{◌≡◌, ℕ, ◌+◌, ◌-◌, ◌<◌, ◌≤◌, List, [], ◌∷◌, ◌++◌, length, slice_index, get_or, take, Contains, refl, ap, sym, subst, ◌∙◌, ◌⊎◌, inl}
use Rattle.std.proofs.Common.{inr, arith, length-append}
use Rattle.std.proofs.Math.Seq.{get_or-append_seam}
use Rattle.std.proofs.lemmas.Bool.{cases_lt}
use Rattle.std.proofs.lemmas.List.{get_or-take, get_or_append_left, get_or_default, take_more}
use Rattle.std.proofs.lemmas.List.Elements.{Contains-append_left, Contains-get_or, Contains-push, Contains-push_cases}
use Rattle.ddl_groups.specs.declared.marks.Mark.{Mark}
use Rattle.ddl_groups.specs.declared.marks.Mark.TheVariants.{Unseen, Open, Closed}
use Rattle.ddl_groups.specs.declared.marks.Step.{Step}
use Rattle.ddl_groups.specs.Ordered.{AreDeclared}
use Rattle.ddl_groups.specs.Reach.{IsWalk, Reaches, Uses}
use Rattle.ddl_groups.specs.Searching.{AreFollowed, AreFollowedBut, AreSorted, IsBehind, IsFollowed, IsPath, StepsMore, mark_at, unseen}
use Rattle.ddl_groups.proofs.Fronts.{IsIncreasing, front_long, front_or_last, front_sub}

walk_on : (needs : List (List ℕ)) (a : ℕ) (first : List ℕ) (b : ℕ) (more : List ℕ) (c : ℕ) → IsWalk needs a first b → IsWalk needs b more c
    → IsWalk needs a (first ++ more) c
walk_on needs a [] b more c e w =
    let P : ℕ → Type 0 = λ x. IsWalk needs x more c in
    subst P (sym e) w
walk_on needs a (next ∷ first) b more c v w = (v.0, walk_on needs next first b more c v.1 w)

pub reach_on : (needs : List (List ℕ)) (a b c : ℕ) → Reaches needs a b → Reaches needs b c → Reaches needs a c
reach_on needs a b c v w = (v.0 ++ w.0, walk_on needs a v.0 b w.0 c v.1 w.1)

pub reach_use : (needs : List (List ℕ)) (a b : ℕ) → Uses needs a b → Reaches needs a b
reach_use needs a b u = (b ∷ [], (u, refl))

module _ (needs : List (List ℕ)) (path heads : List ℕ) (steps : List Step) (marks : List Mark) (labels : List ℕ) (count : ℕ)
    (P : IsPath needs path heads steps marks labels count) (F : AreFollowed needs path heads steps marks)
    (some : 0 < length steps) (s : Step) (is : get_or steps (length steps - 1) s ≡ s) (low : (h : ℕ) → Contains heads h → h < s.from + 1) where
  s_in : Contains steps s
  s_in = (length steps - 1, omega arith, is)

  pub step_is : (s.from < length path) × Uses needs (slice_index path s.from) s.to
  step_is = P.steps_in s s_in

  pub to_declared : AreDeclared needs → s.to < length needs
  to_declared D = D (slice_index path s.from) s.to step_is.1

  pub to_in : AreDeclared needs → s.to < length marks
  to_in D = rw P.marks_long (to_declared D)

  rest_in : (t : Step) → Contains (take (length steps - 1) steps) t → Contains steps t
  rest_in t c = front_sub steps (length steps - 1) t (omega arith) c

  rest_sorted : AreSorted (take (length steps - 1) steps)
  rest_sorted i j d l m =
      let e : length (take (length steps - 1) steps) ≡ length steps - 1 = front_long steps in
      let f : (get_or steps i d).from ≤ (get_or steps j d).from = P.sorted i j d l (omega arith) in
      rw (get_or-take (length steps - 1) steps i d (omega arith), get_or-take (length steps - 1) steps j d (omega arith)) f

  path_less : IsPath needs path heads (take (length steps - 1) steps) marks labels count
  path_less = record {
    marks_long = P.marks_long;
    labels_long = P.labels_long;
    places = P.places;
    stand = P.stand;
    heads_in = P.heads_in;
    rising = P.rising;
    first = P.first;
    leads = P.leads;
    steps_in = λ t c. P.steps_in t (rest_in t c);
    sorted = rest_sorted;
    falls = P.falls;
    joins = P.joins;
    below = P.below;
    some = P.some;
    room = P.room;
  }

  this_or : (p b : ℕ) → IsFollowed heads steps marks p b → ((s.from ≡ p) × (s.to ≡ b)) ⊎ IsFollowed heads (take (length steps - 1) steps) marks p b
  this_or p b (inl t) = elim (front_or_last steps s t.0 t.1) [
    | inl c ↦ inr (inl (t.0, c, t.2, t.3))
    | inr e ↦ let f : s ≡ t.0 = sym is ∙ e in inl (ap (λ (x : Step). x.from) f ∙ t.2, ap (λ (x : Step). x.to) f ∙ t.3)
  ]
  this_or p b (inr f) = inr (inr f)

  pub reaches_it : (p : ℕ) → p < length path → Reaches needs (slice_index path p) s.to
  reaches_it p l =
      reach_on needs (slice_index path p) (slice_index path s.from) s.to
      (P.leads p s.from l step_is.0 (λ h c m. let n : h < s.from + 1 = low h c in omega arith))
      (reach_use needs (slice_index path s.from) s.to step_is.1)

  pub unseen_path : IsPath needs path heads (take (length steps - 1) steps) marks labels count
  unseen_path = path_less

  pub unseen_followed : AreFollowedBut needs path heads (take (length steps - 1) steps) marks s.to
  unseen_followed p b l u = elim (this_or p b (F p b l u)) [ inl e ↦ inl (sym e.1) | inr f ↦ inr f ]

  pub seen_followed : mark_at marks s.to ≡ Closed → AreFollowed needs path heads (take (length steps - 1) steps) marks
  seen_followed c p b l u = elim (this_or p b (F p b l u)) [ inl e ↦ inr (inl (ap (λ x. mark_at marks x) (sym e.1) ∙ c)) | inr f ↦ f ]

  -- Groups from that of q on become one.
  module _ (q : ℕ) (at_q : mark_at marks s.to ≡ Open q) (after : List ℕ) (sub : (h : ℕ) → Contains after h → Contains heads h × (h ≤ q))
      (kept : (h : ℕ) → Contains heads h → h ≤ q → Contains after h) (rising : IsIncreasing after) (fewer : length after ≤ length heads) where
    q_is : (q < length path) × (slice_index path q ≡ s.to)
    q_is = P.places s.to q at_q

    joined_step : (p r : ℕ) → p < length path → r < length path → IsBehind after p r → (p < q) ⊎ (q ≤ p)
        → Reaches needs (slice_index path p) (slice_index path r)
    joined_step p r k l behind (inl before) = P.leads p r k l (λ h c m. behind h (kept h c (omega arith)) m)
    joined_step p r k l behind (inr later) =
        reach_on needs (slice_index path p) (slice_index path q) (slice_index path r)
        (subst (λ x. Reaches needs (slice_index path p) x) (sym q_is.1) (reaches_it p k))
        (P.leads q r q_is.0 l (λ h c m. behind h (kept h c m) (omega arith)))

    pub joined_path : IsPath needs path after (take (length steps - 1) steps) marks labels count
    joined_path = record {
      marks_long = P.marks_long;
      labels_long = P.labels_long;
      places = P.places;
      stand = P.stand;
      heads_in = λ h c. P.heads_in h (sub h c).0;
      rising = rising;
      first = λ l. kept 0 (P.first l) (omega arith);
      leads = λ p r k l b. joined_step p r k l b (cases_lt p q);
      steps_in = λ t c. P.steps_in t (rest_in t c);
      sorted = rest_sorted;
      falls = P.falls;
      joins = P.joins;
      below = P.below;
      some = P.some;
      room = let r : count + length heads + unseen marks ≤ length needs = P.room in omega arith;
    }

    follow : (p b : ℕ) → ((s.from ≡ p) × (s.to ≡ b)) ⊎ IsFollowed heads (take (length steps - 1) steps) marks p b
        → IsFollowed after (take (length steps - 1) steps) marks p b
    follow p b (inl e) = inr (inr (q, ap (λ x. mark_at marks x) (sym e.1) ∙ at_q, λ h c m. (sub h c).1))
    follow p b (inr (inl t)) = inl t
    follow p b (inr (inr (inl c))) = inr (inl c)
    follow p b (inr (inr (inr o))) = inr (inr (o.0, o.1, λ h c m. o.2 h (sub h c).0 m))

    pub joined_followed : AreFollowed needs path after (take (length steps - 1) steps) marks
    joined_followed p b l u = follow p b (this_or p b (F p b l u))

-- one more step is added
module _ (before : List Step) (from : ℕ) (used : List ℕ) (steps : List Step) (i : ℕ) (i_in : i < length used) (M : StepsMore before from (take i used) steps)
    (s : Step)
    (s_from : s.from ≡ from) (s_to : s.to ≡ slice_index used i) where
  later : (t : Step) → Contains steps t ⊎ (s ≡ t) → t.from ≤ from
  later t (inl c) = M.later t c
  later t (inr e) = let f : s.from ≡ t.from = ap (λ (x : Step). x.from) e in omega arith

  sorted : AreSorted (steps ++ s ∷ [])
  sorted j k d l m = by (cases_lt k (length steps))
    where
      by : (k < length steps) ⊎ (length steps ≤ k) → (get_or (steps ++ s ∷ []) j d).from ≤ (get_or (steps ++ s ∷ []) k d).from
      by (inl n) =
          let f : (get_or steps j d).from ≤ (get_or steps k d).from = M.sorted j k d l n in
          rw (get_or_append_left steps (s ∷ []) d j (omega arith), get_or_append_left steps (s ∷ []) d k n) f
      by (inr n) =
          let e : length (steps ++ s ∷ []) ≡ length steps + 1 = length-append steps (s ∷ []) in
          let f : length steps ≡ k = omega arith in
          let g : get_or (steps ++ s ∷ []) k d ≡ s = subst (λ x. get_or (steps ++ s ∷ []) x d ≡ s) f (get_or-append_seam steps s [] d) in
          let h : (get_or (steps ++ s ∷ []) j d).from ≤ from =
          later (get_or (steps ++ s ∷ []) j d) (Contains-push_cases steps s (get_or (steps ++ s ∷ []) j d)
          (Contains-get_or (steps ++ s ∷ []) j d (omega arith))) in
          rw g (omega arith)

  to_more : (b : ℕ) → Contains (take i used) b → Contains (take (i + 1) used) b
  to_more b c = subst (λ xs. Contains xs b) (sym (take_more used i 0 i_in)) (Contains-append_left (take i used) (slice_index used i ∷ []) b c)

  only : (t : Step) → Contains steps t ⊎ (s ≡ t) → Contains before t ⊎ ((t.from ≡ from) × Contains (take (i + 1) used) t.to)
  only t (inl c) = elim (M.only t c) [ inl b ↦ inl b | inr p ↦ inr (p.0, to_more t.to p.1) ]
  only t (inr e) = inr (
    sym (ap (λ (x : Step). x.from) e) ∙ s_from,
    subst (λ b. Contains (take (i + 1) used) b) (sym s_to ∙ ap (λ (x : Step). x.to) e)
        (subst (λ xs. Contains xs (slice_index used i)) (sym (take_more used i 0 i_in)) (Contains-push (take i used) (slice_index used i))),
  )

  all : (b : ℕ) → Contains (take i used) b ⊎ (slice_index used i ≡ b) → (t : Step) × Contains (steps ++ s ∷ []) t × (t.from ≡ from) × (t.to ≡ b)
  all b (inl c) = ((M.all b c).0, Contains-append_left steps (s ∷ []) (M.all b c).0 (M.all b c).1, (M.all b c).2, (M.all b c).3)
  all b (inr e) = (s, Contains-push steps s, s_from, s_to ∙ e)

  pub steps_more : StepsMore before from (take (i + 1) used) (steps ++ s ∷ [])
  steps_more = record {
    sorted = sorted;
    later = λ t c. later t (Contains-push_cases steps s t c);
    kept = λ t c. Contains-append_left steps (s ∷ []) t (M.kept t c);
    all = λ b c. all b (Contains-push_cases (take i used) (slice_index used i) b (subst (λ xs. Contains xs b) (take_more used i 0 i_in) c));
    only = λ t c. only t (Contains-push_cases steps s t c);
  }

-- what was read as the last step is the last of the steps
pub last_is : (xs ys : List Step) (m : ℕ) (s : Step) → s ≡ get_or xs (m - 1) s → m ≡ length xs → ys ≡ xs → get_or ys (length ys - 1) s ≡ s
last_is xs ys m s e f g = subst (λ (zs : List Step). get_or zs (length zs - 1) s ≡ s) (sym g) (subst (λ k. get_or xs (k - 1) s ≡ s) f (sym e))

-- no step is from a later place
pub none_later : (xs : List Step) (s : Step) → AreSorted xs → get_or xs (length xs - 1) s ≡ s → (t : Step) → Contains xs t → t.from ≤ s.from
none_later xs s S is t c =
    let k : c.0 < length xs = c.1 in
    let f : (get_or xs c.0 s).from ≤ (get_or xs (length xs - 1) s).from = S c.0 (length xs - 1) s (omega arith) (omega arith) in
    let e : (get_or xs c.0 s).from ≡ t.from = ap (λ (x : Step). x.from) (get_or_default xs c.0 s t k ∙ c.2) in
    let g : (get_or xs (length xs - 1) s).from ≡ s.from = ap (λ (x : Step). x.from) is in
    omega arith

-- the mark that was read
pub mark_is : (marks : List Mark) (v : ℕ) (x m : Mark) → v < length marks → x ≡ get_or marks v x → x ≡ m → mark_at marks v ≡ m
mark_is marks v x m l e f = get_or_default marks v Unseen x l ∙ sym e ∙ f
