-- Elements of lists, and what a queue has met.
use Rattle.std.proofs.Common.{◌≡◌, ◌⊎◌, inl, inr, ℕ, zero, suc, ◌<◌, ◌≤◌, List, [], ◌∷◌, ◌++◌, Option, Some, length, refl, ap, subst, sym, ◌∙◌, arith}
use Rattle.std.proofs.Common.{rules}
use Rattle.ddl_copies.specs.Queue.{Within, at_front, behind, item, Joins, all_there, is_there, is_new, Met, at_first, and_then}

pub within_left : {A : Type 0} {u : A} (ys : List A) {xs : List A} → Within u xs → Within u (xs ++ ys)
within_left ys at_front = at_front
within_left ys (behind i) = behind (within_left ys i)

pub within_right : {A : Type 0} {u : A} (xs : List A) {ys : List A} → Within u ys → Within u (xs ++ ys)
within_right [] i = i
within_right (x ∷ xs) i = behind (within_right xs i)

pub item_left : {A : Type 0} (xs ys : List A) (d : ℕ) {x : A} → item xs d ≡ Some x → item (xs ++ ys) d ≡ Some x
item_left [] ys d e = absurd (search rules)
item_left (x ∷ xs) ys zero e = e
item_left (x ∷ xs) ys (suc d) e = item_left xs ys d e

pub some_is : {A : Type 0} {x y : A} → Some x ≡ Some y → x ≡ y
some_is e = grind arith

-- where an element stands
pub record Stood {A : Type 0} (xs : List A) (x : A) : Type 0 where
  pub at : ℕ
  pub below : at < length xs
  pub is : item xs at ≡ Some x

pub stood : {A : Type 0} {x : A} (xs : List A) → Within x xs → Stood xs x
stood [] i = elim i [ ]
stood (y ∷ xs) at_front = record { at = zero; below = omega arith; is = refl }
stood (y ∷ xs) (behind i) = let s = stood xs i in record { at = suc s.at; below = omega (arith, s.below); is = s.is }

pub record Here {A : Type 0} (o : Option A) : Type 0 where
  pub element : A
  pub is : o ≡ Some element

-- below an element there is one
item_below : {A : Type 0} (xs : List A) (p d : ℕ) {x : A} → item xs d ≡ Some x → p ≤ d → Here (item xs p)
item_below [] p d e le = absurd (search rules)
item_below (y ∷ xs) zero d e le = record { element = y; is = refl }
item_below (y ∷ xs) (suc p) zero e le = absurd (omega (arith, le))
item_below (y ∷ xs) (suc p) (suc d) e le = item_below xs p d e (omega (arith, le))

-- ---- what is joined

pub joins_keep : {A : Type 0} {x : A} {xs us ys : List A} → Joins xs us ys → Within x xs → Within x ys
joins_keep all_there i = i
joins_keep (is_there w j) i = joins_keep j i
joins_keep (is_new {u = u} n j) i = joins_keep j (within_left (u ∷ []) i)

pub joins_have : {A : Type 0} {x : A} {xs us ys : List A} → Joins xs us ys → Within x us → Within x ys
joins_have all_there i = elim i [ ]
joins_have (is_there w j) at_front = joins_keep j w
joins_have (is_there w j) (behind i) = joins_have j i
joins_have (is_new {xs = xs} n j) at_front = joins_keep j (within_right xs at_front)
joins_have (is_new n j) (behind i) = joins_have j i

-- nothing is joined but what was there and what is new
behind_right : {A : Type 0} {x u : A} {xs us : List A} → Within x xs ⊎ Within x us → Within x xs ⊎ Within x (u ∷ us)
behind_right (inl h) = inl h
behind_right (inr h) = inr (behind h)

behind_left : {A : Type 0} {x y : A} {xs us : List A} → Within x xs ⊎ Within x us → Within x (y ∷ xs) ⊎ Within x us
behind_left (inl h) = inl (behind h)
behind_left (inr h) = inr h

at_last_one : {A : Type 0} {x u : A} {us : List A} (xs : List A) → Within x (xs ++ (u ∷ [])) → Within x xs ⊎ Within x (u ∷ us)
at_last_one [] at_front = inr at_front
at_last_one [] (behind h) = elim h [ ]
at_last_one (y ∷ xs) at_front = inl at_front
at_last_one (y ∷ xs) (behind h) = behind_left (at_last_one xs h)

new_back : {A : Type 0} {x u : A} {us : List A} (xs : List A) → Within x (xs ++ (u ∷ [])) ⊎ Within x us → Within x xs ⊎ Within x (u ∷ us)
new_back xs (inl h) = at_last_one xs h
new_back xs (inr h) = inr (behind h)

pub joins_back : {A : Type 0} {x : A} {xs us ys : List A} → Joins xs us ys → Within x ys → Within x xs ⊎ Within x us
joins_back all_there i = inl i
joins_back (is_there w j) i = behind_right (joins_back j i)
joins_back (is_new {xs = xs} n j) i = new_back xs (joins_back j i)

joins_item : {A : Type 0} {x : A} {xs us ys : List A} (d : ℕ) → Joins xs us ys → item xs d ≡ Some x → item ys d ≡ Some x
joins_item d all_there e = e
joins_item d (is_there w j) e = joins_item d j e
joins_item d (is_new {u = u} {xs = xs} n j) e = joins_item d j (item_left xs (u ∷ []) d e)

-- ---- what a queue has met

pub met_entry : {A : Type 0} {uses : A → List A} {entry : A} {d : ℕ} {xs : List A} → Met uses entry d xs → Within entry xs
met_entry at_first = at_front
met_entry (and_then m at j) = joins_keep j (met_entry m)

pub met_first : {A : Type 0} {uses : A → List A} {entry : A} {d : ℕ} {xs : List A} → Met uses entry d xs → item xs 0 ≡ Some entry
met_first at_first = refl
met_first (and_then m at j) = joins_item 0 j (met_first m)

at_last : (p d : ℕ) → p < suc d → (p ≡ d) ⊎ (p < d)
at_last zero zero lt = inl refl
at_last zero (suc d) lt = inr (omega arith)
at_last (suc p) zero lt = absurd (omega (arith, lt))
at_last (suc p) (suc d) lt = later (at_last p d (omega (arith, lt)))
  where
    later : (p ≡ d) ⊎ (p < d) → (suc p ≡ suc d) ⊎ (suc p < suc d)
    later (inl e) = inl (ap suc e)
    later (inr h) = inr (omega (arith, h))

-- what is used by an element that was looked at
pub met_uses : {A : Type 0} {uses : A → List A} {entry : A} {d : ℕ} {xs : List A} (p : ℕ) {x u : A} → Met uses entry d xs → p < d → item xs p ≡ Some x →
    Within u (uses x) → Within u xs
met_uses p at_first lt e i = absurd (omega (arith, lt))
met_uses {A = A} {uses = uses} p {x = x} {u = u} (and_then {d = d} {x = y} {xs = xs} {ys = ys} m at j) lt e i =
    cases (item_below xs p d at (omega (arith, lt))) (at_last p d lt) (λ less is. met_uses p m less is i)
  where
    cases : Here (item xs p) → (p ≡ d) ⊎ (p < d) → (p < d → item xs p ≡ Some x → Within u xs) → Within u ys
    cases h (inl same) before =
        let now : item ys p ≡ Some y = subst (λ q. item ys q ≡ Some y) (sym same) (joins_item d j at) in
        joins_have j (subst (λ z. Within u (uses z)) (some_is (sym e ∙ now)) i)
    cases h (inr less) before =
        let now : item ys p ≡ Some h.element = joins_item p j h.is in
        joins_keep j (before less (h.is ∙ sym now ∙ e))
