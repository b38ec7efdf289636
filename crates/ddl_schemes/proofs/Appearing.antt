-- What is kept of variables and places in sets that keep their order.
use Rattle.std.proofs.Common.{◌≡◌, ℕ, List, [], ◌∷◌, ◌++◌, Bool, true, false, ◌||◌, nat_eq, if◌then◌else◌, reverse, refl, sym, ap, ◌∙◌, ◌==◌, ne_eqb, inl, inr}
use Rattle.std.proofs.lemmas.Bool.{eq-eqb as eq_eqb}
use Rattle.std.proofs.lemmas.Bool.Decides.{eqb_tells}
use Rattle.std.specs.List.{list_any}
use Rattle.std.proofs.lemmas.List.{reverse-append}
use Rattle.indexmap.specs.IndexSet.{insert_key}
use Rattle.ddl_schemes.specs.Order.{among}

-- equality of numbers, turned round
pub eq_turned : (m n : ℕ) → nat_eq m n ≡ nat_eq n m
eq_turned m n =
    elim (eqb_tells m n) [ inl q ↦ q.0 ∙ sym (eq_eqb n m (sym q.1)) | inr q ↦ q.0 ∙ sym (ne_eqb n m (λ e. q.1 (sym e))) ]

-- whether a number is in a set's list
pub among_any : (ns : List ℕ) (n : ℕ) → among ns n ≡ list_any (nat_eq n) ns
among_any [] n = refl
among_any (m ∷ ms) n = let e = eq_turned m n in let h = among_any ms n in cc

or_false : (a : Bool) → (a || false) ≡ a
or_false true = refl
or_false false = refl

or_turned : (a b : Bool) → (a || b) ≡ (b || a)
or_turned true true = refl
or_turned true false = refl
or_turned false true = refl
or_turned false false = refl

or_or : (a b c : Bool) → ((a || b) || c) ≡ (a || (b || c))
or_or true b c = refl
or_or false b c = refl

among_append : (ms ns : List ℕ) (n : ℕ) → among (ms ++ ns) n ≡ (among ms n || among ns n)
among_append [] ns n = refl
among_append (m ∷ ms) ns n = ap (λ b. (m == n) || b) (among_append ms ns n) ∙ sym (or_or (m == n) (among ms n) (among ns n))

among_reverse : (ns : List ℕ) (n : ℕ) → among (reverse ns) n ≡ among ns n
among_reverse [] n = refl
among_reverse (m ∷ ms) n =
    ap (λ ks. among ks n) (reverse-append (m ∷ []) ms) ∙ among_append (reverse ms) (m ∷ []) n ∙ or_turned (among (reverse ms) n) ((m == n) || false)
    ∙ ap (λ b. b || among (reverse ms) n) (or_false (m == n)) ∙ ap (λ b. (m == n) || b) (among_reverse ms n)

pub among_last : (ns : List ℕ) (n : ℕ) → among (reverse ns) n ≡ list_any (nat_eq n) ns
among_last ns n = among_reverse ns n ∙ among_any ns n

-- what a set has once a number was put in
pub with_any : (ns : List ℕ) (n : ℕ) → insert_key nat_eq ns n ≡ (if among ns n then ns else ns ++ n ∷ [])
with_any ns n = ap (λ b. if b then ns else ns ++ n ∷ []) (sym (among_any ns n))

last_by : (b : Bool) (ns : List ℕ) (n : ℕ) → reverse (if b then ns else ns ++ n ∷ []) ≡ (if b then reverse ns else n ∷ reverse ns)
last_by true ns n = refl
last_by false ns n = reverse-append ns (n ∷ [])

pub with_last : (ns : List ℕ) (n : ℕ) → reverse (insert_key nat_eq ns n) ≡ (if among (reverse ns) n then reverse ns else n ∷ reverse ns)
with_last ns n = last_by (list_any (nat_eq n) ns) ns n ∙ ap (λ b. if b then reverse ns else n ∷ reverse ns) (sym (among_last ns n))

pub ruleset appearing = (among_any, among_last, with_any, with_last)
