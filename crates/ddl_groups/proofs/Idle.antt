-- A search with nothing on its path: at the start, after each root, and at the end.
use Rattle.std.proofs.Common.{◌≡◌, ℕ, ◌<◌, ◌≤◌, ◌≢◌, List, [], ◌∷◌, length, get_or, Contains, refl, ap, sym, subst, arith}
use Rattle.std.proofs.lemmas.List.{get_or_default}
use Rattle.std.proofs.lemmas.List.Sums.{sum_by-le}
use Rattle.ddl_groups.specs.declared.marks.Mark.{Mark}
use Rattle.ddl_groups.specs.declared.marks.Mark.TheVariants.{Unseen, Open, Closed}
use Rattle.ddl_groups.specs.declared.marks.Step.{Step}
use Rattle.ddl_groups.specs.declared.marks.Search.{Search}
use Rattle.ddl_groups.specs.Ordered.{AreCounted}
use Rattle.ddl_groups.specs.Searching.{Holds, IsIdle, IsPath, IsStart, mark_at, unseen, weight}
use Rattle.ddl_groups.proofs.OneGrouping.{within}
use Rattle.ddl_groups.proofs.Rising.{none_in_empty}
use Rattle.ddl_groups.proofs.Settled.{member_at}

at_most_one : (m : Mark) → weight m ≤ 1
at_most_one Unseen = omega arith
at_most_one (Open q) = omega arith
at_most_one Closed = omega arith

unseen_bound : (marks : List Mark) → unseen marks ≤ length marks
unseen_bound marks = omega (arith, sum_by-le weight 1 marks (λ k d l. at_most_one (get_or marks k d)))

no_step : (s : Step) → Contains [] s → ⊥
no_step s c = omega (arith, c.1)

module _ (needs : List (List ℕ)) (search : Search) (S : IsStart (length needs) search) where
  not_closed : (v : ℕ) → mark_at search.marks.items v ≡ Closed → ⊥
  not_closed v e = let f : mark_at search.marks.items v ≡ Unseen = S.none v in cc

  not_open : (v q : ℕ) → mark_at search.marks.items v ≡ Open q → ⊥
  not_open v q e = let f : mark_at search.marks.items v ≡ Unseen = S.none v in cc

  start_path : IsPath needs [] [] [] search.marks.items search.labels.items search.count
  start_path = record {
    marks_long = S.marks_long;
    labels_long = S.labels_long;
    places = λ v q e. absurd (not_open v q e);
    stand = λ p l. absurd (omega (arith, l));
    heads_in = λ h c. absurd (none_in_empty h c);
    rising = λ i j l m. absurd (omega (arith, m));
    first = λ l. absurd (omega (arith, l));
    leads = λ p q k l b. absurd (omega (arith, k));
    steps_in = λ s c. absurd (no_step s c);
    sorted = λ i j d l m. absurd (omega (arith, m));
    falls = λ a b c u. absurd (not_closed a c);
    joins = λ a b c d e. absurd (not_closed a c);
    below = λ a c. absurd (not_closed a c);
    some = λ l m. absurd (omega (arith, m, S.no_groups));
    room = omega (arith, unseen_bound search.marks.items, S.marks_long, S.no_groups);
  }

  pub start_idle : IsIdle needs search
  start_idle = (
    record {
      path = rw (S.path, S.heads, S.pending) start_path;
      followed = rw (S.path, S.heads, S.pending) (λ p b l u. absurd (omega (arith, l)));
    },
    S.path,
    S.heads,
    S.pending,
  )

nil_if_none : (xs : List ℕ) → ((x : ℕ) → Contains xs x → ⊥) → xs ≡ []
nil_if_none [] none = refl
nil_if_none (x ∷ xs) none = absurd (none x (member_at (x ∷ xs) 0 0 (omega arith)))

no_steps_if_short : (xs : List Step) → length xs ≡ 0 → xs ≡ []
no_steps_if_short [] e = refl
no_steps_if_short (x ∷ xs) e = absurd (omega arith)

nil_if_short : (xs : List ℕ) → (0 < length xs → ⊥) → xs ≡ []
nil_if_short [] none = refl
nil_if_short (x ∷ xs) none = absurd (none (omega arith))

-- all groups are closed
pub end_idle : (needs : List (List ℕ)) (search : Search) → Holds needs search → ((h : ℕ) → Contains search.heads.items h → h < 0)
    → length search.pending.items ≡ 0 → IsIdle needs search
end_idle needs search H below none =
    let no_head : (h : ℕ) → Contains search.heads.items h → ⊥ = λ h c. omega (arith, below h c) in
    (H, nil_if_short search.path.items (λ l. no_head 0 (H.path.first l)), nil_if_none search.heads.items no_head, no_steps_if_short search.pending.items none)

closed_if : (m : Mark) → m ≢ Unseen → ((q : ℕ) → m ≡ Open q → ⊥) → m ≡ Closed
closed_if Unseen ne no_place = absurd (ne refl)
closed_if (Open q) ne no_place = absurd (no_place q refl)
closed_if Closed ne no_place = refl

-- all is seen, and nothing is on the path
module _ (needs : List (List ℕ)) (search : Search) (I : IsIdle needs search) (seen : (v : ℕ) → v < length needs → mark_at search.marks.items v ≢ Unseen) where
  closed : (v : ℕ) → v < length needs → mark_at search.marks.items v ≡ Closed
  closed v l = closed_if (mark_at search.marks.items v) (seen v l) (λ q e. let m : q < length search.path.items =
      (I.0.path.places v q e).0 in let f : length search.path.items ≡ 0 = ap (λ (xs : List ℕ). length xs) I.1 in omega arith)

  pub all_counted : AreCounted needs search.labels.items search.count
  all_counted = record {
    are = record {
      long = I.0.path.labels_long;
      falls = λ a b u. (I.0.path.falls a b (closed a (within needs a b u)) u).1;
      joins = λ a b k l e. I.0.path.joins a b (closed a k) (closed b l) e;
    };
    below = λ k d l. let m : k < length needs = subst (λ n. k < n) I.0.path.labels_long l in
        rw (get_or_default search.labels.items k d 0 l) (I.0.path.below k (closed k m));
    some = λ l m. ((I.0.path.some l m).0, subst (λ n. (I.0.path.some l m).0 < n) (sym I.0.path.labels_long) (I.0.path.some l m).1, (I.0.path.some l m).3);
  }
