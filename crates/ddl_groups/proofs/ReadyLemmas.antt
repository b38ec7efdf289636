-- What a set of numbers has after an insert, and after its least one was taken.
use Rattle.std.proofs.Common.{◌≡◌, ℕ, ◌<◌, ◌≤◌, ◌↔◌, List, [], ◌∷◌, Contains, Ordering, Option, Some, None, MatchOption, length, refl, sym, subst, ◌⊎◌, inl}
use Rattle.std.proofs.Common.{inr, arith}
use Rattle.std.specs.declared.cmp.Ordering.TheVariants.{Less, Equal, Greater}
use Rattle.std.specs.Ordering.{nat_cmp, match_ordering, MatchOrdering}
use Rattle.std.specs.List.{All}
use Rattle.std.specs.Option.{IfSome, IfNone, IsSome}
use Rattle.std.proofs.lemmas.List.Elements.{All-contains}
use Rattle.std.specs.BTreeSet.{insert_key}
use Rattle.std.proofs.lemmas.Bool.{cases_lt}
use Rattle.std.proofs.lemmas.Cmp.{ranked}
use Rattle.ddl_groups.proofs.Rising.{Contains-first, Contains-rest, first_or_rest}

one_more : (k : ℕ) (xs : List ℕ) (d : ℕ) → (d ≡ k) ⊎ Contains xs d → Contains (k ∷ xs) d
one_more k xs d (inl e) = let P : ℕ → Type 0 = λ v. Contains (k ∷ xs) v in subst P (sym e) (Contains-first k xs)
one_more k xs d (inr c) = Contains-rest k xs d c

same_key : (k x d : ℕ) (xs : List ℕ) → k ≡ x → (d ≡ k) ⊎ Contains (x ∷ xs) d → Contains (x ∷ xs) d
same_key k x d xs e (inl f) = one_more x xs d (inl (omega arith))
same_key k x d xs e (inr c) = c

behind : (k x d : ℕ) (xs : List ℕ) → (d ≡ x) ⊎ ((d ≡ k) ⊎ Contains xs d) → (d ≡ k) ⊎ Contains (x ∷ xs) d
behind k x d xs (inl e) = inr (one_more x xs d (inl e))
behind k x d xs (inr (inl e)) = inl e
behind k x d xs (inr (inr c)) = inr (Contains-rest x xs d c)

is_in_by : (k x : ℕ) (xs : List ℕ) (d : ℕ) (o : Ordering) → (Contains (insert_key nat_cmp xs k) d → (d ≡ k) ⊎ Contains xs d)
    → Contains (match_ordering o (k ∷ x ∷ xs) (x ∷ xs) (x ∷ insert_key nat_cmp xs k)) d → (d ≡ k) ⊎ Contains (x ∷ xs) d
is_in_by k x xs d Less h c = first_or_rest k (x ∷ xs) d c
is_in_by k x xs d Equal h c = inr c
is_in_by k x xs d Greater h c = behind k x d xs (elim (first_or_rest x (insert_key nat_cmp xs k) d c) [ inl e ↦ inl e | inr m ↦ inr (h m) ])

pub is_in : (k : ℕ) (ks : List ℕ) (d : ℕ) → Contains (insert_key nat_cmp ks k) d → (d ≡ k) ⊎ Contains ks d
is_in k [] d c = first_or_rest k [] d c
is_in k (x ∷ xs) d c = is_in_by k x xs d (nat_cmp k x) (is_in k xs d) c

past_first : (k x d : ℕ) (xs : List ℕ) → (d ≡ k) ⊎ Contains (x ∷ xs) d → (d ≡ x) ⊎ ((d ≡ k) ⊎ Contains xs d)
past_first k x d xs (inl e) = inr (inl e)
past_first k x d xs (inr c) = elim (first_or_rest x xs d c) [ inl e ↦ inl e | inr m ↦ inr (inr m) ]

put_in_by : (k x : ℕ) (xs : List ℕ) (d : ℕ) (o : Ordering) → MatchOrdering o (k < x) (k ≡ x) (x < k)
    → ((d ≡ k) ⊎ Contains xs d → Contains (insert_key nat_cmp xs k) d)
    → (d ≡ k) ⊎ Contains (x ∷ xs) d → Contains (match_ordering o (k ∷ x ∷ xs) (x ∷ xs) (x ∷ insert_key nat_cmp xs k)) d
put_in_by k x xs d Less r h c = one_more k (x ∷ xs) d c
put_in_by k x xs d Equal r h c = same_key k x d xs r c
put_in_by k x xs d Greater r h c =
    elim (past_first k x d xs c) [ inl e ↦ one_more x (insert_key nat_cmp xs k) d (inl e) | inr m ↦ Contains-rest x (insert_key nat_cmp xs k) d (h m) ]

pub put_in : (k : ℕ) (ks : List ℕ) (d : ℕ) → (d ≡ k) ⊎ Contains ks d → Contains (insert_key nat_cmp ks k) d
put_in k [] d c = one_more k [] d c
put_in k (x ∷ xs) d c = put_in_by k x xs d (nat_cmp k x) (ranked k x (nat_cmp k x) refl) (put_in k xs d) c

below_rest : (k d : ℕ) (xs : List ℕ) → All (λ y. nat_cmp k y ≡ Less) xs → Contains xs d → k < d
below_rest k d xs all c =
    let e : nat_cmp k d ≡ Less = All-contains (λ y. nat_cmp k y ≡ Less) xs d all c in
    subst (λ o. MatchOrdering o (k < d) (k ≡ d) (d < k)) e (ranked k d (nat_cmp k d) refl)

-- the least first: the set before, what was taken, and the set after
abbrev pub Takes : List ℕ → Option ℕ → List ℕ → Type 0
Takes ks r ls = MatchOption r ((d : ℕ) → ¬ (Contains ks d)) (λ first. Contains ks first × ((d : ℕ) → Contains ks d → (d ≡ first) ⊎ Contains ls d)
    × ((d : ℕ) → Contains ls d → Contains ks d × (first < d)))

empty_has_none : (ks : List ℕ) → length ks ≡ 0 → (d : ℕ) → ¬ (Contains ks d)
empty_has_none ks e d c = omega (arith, c.1)

pub takes : (ks : List ℕ) (r : Option ℕ) (ls : List ℕ) → IfSome r (λ k. ks ≡ k ∷ ls) → IfSome r (λ k. All (λ y. nat_cmp k y ≡ Less) ls)
    → (IfNone r (length ks ≡ 0)) → Takes ks r ls
takes ks None ls e above none = empty_has_none ks none
takes ks (Some k) ls e above none =
    let P : ℕ → List ℕ → Type 0 = λ d xs. Contains xs d in (
      subst (P k) (sym e) (Contains-first k ls),
      (λ d c. first_or_rest k ls d (subst (P d) e c)),
      (λ d c. (subst (P d) (sym e) (Contains-rest k ls d c), below_rest k d ls above c)),
    )

pub none_left : (ks : List ℕ) (r : Option ℕ) → IsSome r ↔ (0 < length ks) → IfNone r (length ks ≡ 0)
none_left ks None e = by (cases_lt 0 (length ks))
  where
    by : (0 < length ks) ⊎ (length ks ≤ 0) → length ks ≡ 0
    by (inl l) = absurd (cc (e.1 l))
    by (inr l) = omega arith
none_left ks (Some k) e = tt
