-- Entries of maps: maps with the same entries are equal.
use Rattle.std.proofs.Common.{◌≡◌, ℕ, zero, suc, ◌+◌, ◌≢◌, [], ◌∷◌, length, Option, Some, None, Bool, true, false, refl, sym, ap, ◌∙◌, arith, eq-eqb, eqb-true}
use Rattle.std.specs.Prelude.{nat_eq}
use Rattle.ddl_slots.specs.Slots.{Entry, Slots, entry, set, before, trim, put, is_live, live, vacant_or, picked}

entry_before : (o : Option Entry) (m : Slots) (x : ℕ) → entry (before o m) x ≡ entry (o ∷ m) x
entry_before None [] zero = refl
entry_before None [] (suc x) = refl
entry_before None (p ∷ m) x = refl
entry_before (Some e) m x = refl

pub entry_trim : (m : Slots) (x : ℕ) → entry (trim m) x ≡ entry m x
entry_trim [] x = refl
entry_trim (o ∷ m) zero = entry_before o (trim m) zero
entry_trim (o ∷ m) (suc x) = entry_before o (trim m) (suc x) ∙ entry_trim m x

all_absent : (m : Slots) → ((x : ℕ) → entry m x ≡ None) → trim m ≡ []
all_absent [] h = refl
all_absent (o ∷ m) h = ap (λ t. before o t) (all_absent m (λ x. h (suc x))) ∙ ap (λ p. before p []) (h zero)

-- maps with the same entries are equal
pub trim_same : (m n : Slots) → ((x : ℕ) → entry m x ≡ entry n x) → trim m ≡ trim n
trim_same [] n h = sym (all_absent n (λ x. sym (h x)))
trim_same (o ∷ m) [] h = all_absent (o ∷ m) h
trim_same (o ∷ m) (p ∷ n) h = ap (λ q. before q (trim m)) (h zero) ∙ ap (λ t. before p t) (trim_same m n (λ x. h (suc x)))

entry_set : (m : Slots) (y : ℕ) (o : Option Entry) → entry (set m y o) y ≡ o
entry_set [] zero o = refl
entry_set [] (suc y) o = entry_set [] y o
entry_set (p ∷ m) zero o = refl
entry_set (p ∷ m) (suc y) o = entry_set m y o

entry_unset : (m : Slots) (y x : ℕ) (o : Option Entry) → x ≢ y → entry (set m y o) x ≡ entry m x
entry_unset [] zero zero o h = absurd (h refl)
entry_unset [] zero (suc x) o h = refl
entry_unset [] (suc y) zero o h = refl
entry_unset [] (suc y) (suc x) o h = entry_unset [] y x o (λ q. h (ap suc q))
entry_unset (p ∷ m) zero zero o h = absurd (h refl)
entry_unset (p ∷ m) zero (suc x) o h = refl
entry_unset (p ∷ m) (suc y) zero o h = refl
entry_unset (p ∷ m) (suc y) (suc x) o h = entry_unset m y x o (λ q. h (ap suc q))

pub entry_put : (m : Slots) (y : ℕ) (o : Option Entry) → entry (put m y o) y ≡ o
entry_put m y o = entry_trim (set m y o) y ∙ entry_set m y o

pub entry_other : (m : Slots) (y x : ℕ) (o : Option Entry) → x ≢ y → entry (put m y o) x ≡ entry m x
entry_other m y x o h = entry_trim (set m y o) x ∙ entry_unset m y x o h

live_before : (o : Option Entry) (m : Slots) → live (before o m) ≡ is_live o + live m
live_before None [] = refl
live_before None (p ∷ m) = refl
live_before (Some e) m = refl

pub live_trim : (m : Slots) → live (trim m) ≡ live m
live_trim [] = refl
live_trim (o ∷ m) = live_before o (trim m) ∙ ap (λ n. is_live o + n) (live_trim m)

live_set : (m : Slots) (y : ℕ) (e : Entry) (o : Option Entry) → entry m y ≡ Some e → live (set m y o) + 1 ≡ live m + is_live o
live_set [] y e o h = absurd (cc)
live_set (p ∷ m) zero e o h = let k : is_live p ≡ 1 = ap is_live h in omega arith
live_set (p ∷ m) (suc y) e o h = let k : live (set m y o) + 1 ≡ live m + is_live o = live_set m y e o h in omega arith

pub live_put : (m : Slots) (y : ℕ) (e : Entry) (o : Option Entry) → entry m y ≡ Some e → live (put m y o) + 1 ≡ live m + is_live o
live_put m y e o h = omega (arith, live_trim (set m y o), live_set m y e o h)

decide : {P : Type 0} (x y : ℕ) (t : Bool) → nat_eq x y ≡ t → (x ≡ y → P) → (x ≢ y → P) → P
decide x y true e f g = f (eqb-true x y e)
decide x y false e f g = g (λ q. let k : nat_eq x y ≡ true = eq-eqb x y q in absurd (cc))

-- two numbers are one or two
pub same_or : {P : Type 0} (x y : ℕ) → (x ≡ y → P) → (x ≢ y → P) → P
same_or x y f g = decide x y (nat_eq x y) refl f g

-- past its end a map has no entry
at_end : (m : Slots) → entry m (length m) ≡ None
at_end [] = refl
at_end (o ∷ m) = at_end m

-- the number that a new slot gets
picks_by : (x : ℕ) (m : Slots) (o : Option Entry) → entry m x ≡ o → entry m (vacant_or x o m) ≡ None
picks_by x m None e = e
picks_by x m (Some r) e = at_end m

pub picks_vacant : (x : ℕ) (m : Slots) → entry m (picked x m) ≡ None
picks_vacant x m = picks_by x m (entry m x) refl

pub picks_offered : (x : ℕ) (m : Slots) → entry m x ≡ None → picked x m ≡ x
picks_offered x m e = ap (λ o. vacant_or x o m) e
