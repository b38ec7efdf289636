-- One more declaration of the path is marked.
use Rattle.std.proofs.Common.{◌≡◌, ℕ, ◌+◌, ◌<◌, ◌≤◌, ◌≢◌, List, length, slice_index, set, ap, sym, ◌∙◌, ◌⊎◌, inl, inr, arith}
use Rattle.std.proofs.lemmas.Bool.{cases_lt}
use Rattle.std.proofs.lemmas.List.Sums.{sum_by-set}
use Rattle.ddl_groups.specs.declared.marks.Mark.{Mark}
use Rattle.ddl_groups.specs.declared.marks.Mark.TheVariants.{Unseen, Closed}
use Rattle.ddl_groups.specs.Searching.{mark_at, unseen, weight}
use Rattle.ddl_groups.proofs.Settled.{written}

pub no_more_unseen : (marks : List Mark) (v : ℕ) → v < length marks → unseen (set marks v Closed) ≤ unseen marks
no_more_unseen marks v l = omega (arith, sum_by-set weight marks v Closed Unseen l)

module _ (path : List ℕ) (head label i : ℕ) (marks before : List Mark) (labels labels_before : List ℕ)
    (marks_in : slice_index path i < length marks) (labels_in : slice_index path i < length labels) where
  pub more_closed : ((p : ℕ) → head ≤ p → p < i → (mark_at marks (slice_index path p) ≡ Closed) × (slice_index labels (slice_index path p) ≡ label))
      → (p : ℕ) → head ≤ p → p < i + 1 → (mark_at (set marks (slice_index path i) Closed) (slice_index path p) ≡ Closed)
      × (slice_index (set labels (slice_index path i) label) (slice_index path p) ≡ label)
  more_closed h p m l = by (written marks (slice_index path i) Closed Unseen marks_in (slice_index path p))
      (written labels (slice_index path i) label 0 labels_in (slice_index path p))
    where
      earlier : slice_index path p ≢ slice_index path i → p < i
      earlier ne = elim (cases_lt p i) [ inl k ↦ k | inr k ↦ let e : p ≡ i = omega arith in absurd (ne (ap (λ x. slice_index path x) e)) ]

      by : ((slice_index path p ≡ slice_index path i) × (mark_at (set marks (slice_index path i) Closed) (slice_index path p) ≡ Closed))
          ⊎ ((slice_index path p ≢ slice_index path i) × (mark_at (set marks (slice_index path i) Closed) (slice_index path p)
          ≡ mark_at marks (slice_index path p)))
          → ((slice_index path p ≡ slice_index path i) × (slice_index (set labels (slice_index path i) label) (slice_index path p) ≡ label))
          ⊎ ((slice_index path p ≢ slice_index path i) × (slice_index (set labels (slice_index path i) label) (slice_index path p)
          ≡ slice_index labels (slice_index path p)))
          → (mark_at (set marks (slice_index path i) Closed) (slice_index path p) ≡ Closed)
          × (slice_index (set labels (slice_index path i) label) (slice_index path p) ≡ label)
      by (inl a) (inl b) = (a.1, b.1)
      by (inl a) (inr b) = absurd (b.0 a.0)
      by (inr a) (inl b) = absurd (a.0 b.0)
      by (inr a) (inr b) = let k : p < i = earlier a.0 in (a.1 ∙ (h p m k).0, b.1 ∙ (h p m k).1)

  pub more_others : ((v : ℕ) → ((p : ℕ) → head ≤ p → p < i → slice_index path p ≢ v)
      → (mark_at marks v ≡ mark_at before v) × (slice_index labels v ≡ slice_index labels_before v))
      → head ≤ i → (v : ℕ) → ((p : ℕ) → head ≤ p → p < i + 1 → slice_index path p ≢ v)
      → (mark_at (set marks (slice_index path i) Closed) v ≡ mark_at before v)
      × (slice_index (set labels (slice_index path i) label) v ≡ slice_index labels_before v)
  more_others h m v none = by (written marks (slice_index path i) Closed Unseen marks_in v) (written labels (slice_index path i) label 0 labels_in v)
    where
      ne : v ≢ slice_index path i
      ne e = none i m (omega arith) (sym e)

      old : (mark_at marks v ≡ mark_at before v) × (slice_index labels v ≡ slice_index labels_before v)
      old = h v (λ p k l. none p k (omega arith))

      by : ((v ≡ slice_index path i) × (mark_at (set marks (slice_index path i) Closed) v ≡ Closed))
          ⊎ ((v ≢ slice_index path i) × (mark_at (set marks (slice_index path i) Closed) v ≡ mark_at marks v))
          → ((v ≡ slice_index path i) × (slice_index (set labels (slice_index path i) label) v ≡ label))
          ⊎ ((v ≢ slice_index path i) × (slice_index (set labels (slice_index path i) label) v ≡ slice_index labels v))
          → (mark_at (set marks (slice_index path i) Closed) v ≡ mark_at before v)
          × (slice_index (set labels (slice_index path i) label) v ≡ slice_index labels_before v)
      by (inl a) b = absurd (ne a.0)
      by (inr a) (inl b) = absurd (ne b.0)
      by (inr a) (inr b) = (a.1 ∙ old.0, b.1 ∙ old.1)
