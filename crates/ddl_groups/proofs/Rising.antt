-- Lists whose numbers rise are known by their members.
use Rattle.std.proofs.Common.{◌≡◌, ℕ, zero, suc, ◌<◌, List, [], ◌∷◌, length, get_or, Contains, refl, sym, ◌⊎◌, inl, inr, arith}
use Rattle.std.specs.List.{AllByRecursion}
use Rattle.ddl_groups.specs.Groups.{IsRising}

at_or_after : (x : ℕ) (xs : List ℕ) (z k : ℕ) → k < length (x ∷ xs) → get_or (x ∷ xs) k z ≡ z → (z ≡ x) ⊎ Contains xs z
at_or_after x xs z zero l e = inl (sym e)
at_or_after x xs z (suc k) l e = inr (k, omega arith, e)

pub first_or_rest : (x : ℕ) (xs : List ℕ) (z : ℕ) → Contains (x ∷ xs) z → (z ≡ x) ⊎ Contains xs z
first_or_rest x xs z c = at_or_after x xs z c.0 c.1 c.2

pub Contains-first : (x : ℕ) (xs : List ℕ) → Contains (x ∷ xs) x
Contains-first x xs = (zero, omega arith, refl)

pub Contains-rest : (x : ℕ) (xs : List ℕ) (z : ℕ) → Contains xs z → Contains (x ∷ xs) z
Contains-rest x xs z c = (suc c.0, omega (arith, c.1), c.2)

pub none_in_empty : (z : ℕ) → Contains [] z → ⊥
none_in_empty z c = omega (arith, c.1)

above : (x : ℕ) (xs : List ℕ) (z : ℕ) → AllByRecursion (λ y. x < y) xs → Contains xs z → x < z
above x [] z h c = absurd (none_in_empty z c)
above x (y ∷ ys) z h c =
    elim (first_or_rest y ys z c) as (λ _. x < z) [ inl e ↦ let l : x < y = h.0 in omega arith | inr d ↦ above x ys z h.1 d ]

first_same : (x y : ℕ) (xs ys : List ℕ) → AllByRecursion (λ v. x < v) xs → AllByRecursion (λ v. y < v) ys
    → (x ≡ y) ⊎ Contains ys x → (y ≡ x) ⊎ Contains xs y → x ≡ y
first_same x y xs ys r s (inl e) g = e
first_same x y xs ys r s (inr c) (inl e) = sym e
first_same x y xs ys r s (inr c) (inr d) = let k : y < x = above y ys x s c in let l : x < y = above x xs y r d in absurd (omega arith)

in_rest : (x y z : ℕ) (ys : List ℕ) → x ≡ y → x < z → (z ≡ y) ⊎ Contains ys z → Contains ys z
in_rest x y z ys e l (inl q) = absurd (omega arith)
in_rest x y z ys e l (inr c) = c

-- two that rise and have the same members are one
pub same_members : (xs ys : List ℕ) → IsRising xs → IsRising ys → ((z : ℕ) → Contains xs z → Contains ys z) → ((z : ℕ) → Contains ys z → Contains xs z)
    → xs ≡ ys
same_members [] [] r s f g = refl
same_members [] (y ∷ ys) r s f g = absurd (none_in_empty y (g y (Contains-first y ys)))
same_members (x ∷ xs) [] r s f g = absurd (none_in_empty x (f x (Contains-first x xs)))
same_members (x ∷ xs) (y ∷ ys) r s f g =
    let e : x ≡ y = first_same x y xs ys r.0 s.0 (first_or_rest y ys x (f x (Contains-first x xs))) (first_or_rest x xs y (g y (Contains-first y ys))) in
    let rest : xs ≡ ys = same_members xs ys r.1 s.1
    (λ z c. in_rest x y z ys e (above x xs z r.0 c) (first_or_rest y ys z (f z (Contains-rest x xs z c))))
    (λ z c. in_rest y x z xs (sym e) (above y ys z s.0 c) (first_or_rest x xs z (g z (Contains-rest y ys z c)))) in
    λ i. e i ∷ rest i
