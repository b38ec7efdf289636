-- Demands are sorted one after the other: those that are kept, and the first that is left.
use Rattle.std.proofs.Common.{◌≡◌, ℕ, ◌+◌, ◌<◌, ◌≤◌, List, [], ◌∷◌, ◌++◌, refl, sym, ap, subst, ◌∙◌, arith, zero, suc, map, take, length, get_or, Option, Some}
use Rattle.std.proofs.Common.{None, All, add-one}
use Rattle.ddl_base.specs.declared.span.Span.{Span}
use Rattle.ddl_types.specs.Types.{Sub}
use Rattle.ddl_judging.specs.declared.demand.Asked as program
use Rattle.ddl_judging.specs.declared.refusal.Wrong as refusal
use Rattle.ddl_growing.specs.declared.refusal.SettleError.TheVariants as e
use Rattle.ddl_conditions.specs.Closing.{IsUnmet}
use Rattle.ddl_judging.specs.Demands.{Asked, DemandBelow, on_demand}
use Rattle.ddl_conditions.specs.Fates.{AreSorted, IsClosing, first_left}
use Rattle.ddl_conditions.specs.Growing.{FirstOf, Group}
use Rattle.ddl_conditions.specs.Settled.{AreKept, none_left, met, kept, IsFalse, IsKept, IsLeft, IsMet, IsWrong}
use Rattle.ddl_judging.specs.Views.{asked_view, demand_view, wrong_view}
use Rattle.ddl_conditions.proofs.Verdicts.{not_met, not_false, not_neither}

-- what holds of each element of a list, and of one more
all_more : {X : Type 0} (P : X → Type 0) (xs : List X) (x : X) → All P xs → P x → All P (xs ++ x ∷ [])
all_more P [] x a p zero d h = p
all_more P [] x a p (suc k) d h = absurd (omega (arith, h))
all_more P (y ∷ xs) x a p zero d h = a 0 d (omega arith)
all_more P (y ∷ xs) x a p (suc k) d h = all_more P xs x (λ j c l. a (suc j) c (omega (arith, l))) p k d (omega (arith, h))

all_first : {X : Type 0} (P : X → Type 0) (x : X) (xs : List X) → P x → All P xs → All P (x ∷ xs)
all_first P x xs p a zero d h = p
all_first P x xs p a (suc k) d h = a k d (omega (arith, h))

-- the next demand holds
more_met : (g : Group) (f : Sub) (k : ℕ) (xs : List Asked) (ks : List ℕ) (a : Asked) → AreKept g f k xs ks → IsMet g f a → AreKept g f k (xs ++ a ∷ []) ks
more_met g f k [] [] a none_left m = met m none_left
more_met g f k [] (j ∷ ks) a r m = elim r [ ]
more_met g f k (x ∷ xs) ks a (met n r) m = met n (more_met g f (suc k) xs ks a r m)
more_met g f k (x ∷ xs) (j ∷ ks) a (kept n r) m = kept n (more_met g f (suc k) xs ks a r m)

-- or it is kept
more_kept : (g : Group) (f : Sub) (k : ℕ) (xs : List Asked) (ks : List ℕ) (a : Asked) (n : ℕ) → AreKept g f k xs ks → n ≡ k + length xs → IsKept g f a
    → AreKept g f k (xs ++ a ∷ []) (ks ++ n ∷ [])
more_kept g f k [] [] a n none_left z q = let e : k ≡ n = omega (arith, z) in subst (λ m. AreKept g f k (a ∷ []) (m ∷ [])) e (kept q none_left)
more_kept g f k [] (j ∷ ks) a n r z q = elim r [ ]
more_kept g f k (x ∷ xs) ks a n (met m r) z q = met m (more_kept g f (suc k) xs ks a n r (omega (arith, z)) q)
more_kept g f k (x ∷ xs) (j ∷ ks) a n (kept m r) z q = kept m (more_kept g f (suc k) xs ks a n r (omega (arith, z)) q)

-- of those that hold or are kept, none is left
kept_none_left : (g : Group) (f : Sub) (k : ℕ) (xs : List Asked) (ks : List ℕ) → AreKept g f k xs ks → All (λ a. IsLeft g f a → ⊥) xs
kept_none_left g f k [] [] none_left = λ j d h. absurd (omega (arith, h))
kept_none_left g f k [] (j ∷ ks) r = elim r [ ]
kept_none_left g f k (x ∷ xs) ks (met m r) = all_first (λ a. IsLeft g f a → ⊥) x xs (λ l. not_neither g.shapes (on_demand f x.what) m l.neither)
    (kept_none_left g f (suc k) xs ks r)
kept_none_left g f k (x ∷ xs) (j ∷ ks) (kept q r) = all_first (λ a. IsLeft g f a → ⊥) x xs (λ l. l.unkept q) (kept_none_left g f (suc k) xs ks r)

met_not_false : (g : Group) (f : Sub) (a : Asked) → IsMet g f a → IsFalse g f a → ⊥
met_not_false g f a m w = not_met g.shapes (on_demand f a.what) w.0 m w.1

-- the first that is left is so in a longer list
first_longer : {X : Type 0} (P : X → Type 0) (xs : List X) (x y : X) → FirstOf P xs x → FirstOf P (xs ++ y ∷ []) x
first_longer P xs x y o = record {
  before = o.before;
  after = o.after ++ y ∷ [];
  split = ap (λ zs. zs ++ y ∷ []) o.split ∙ append_again o.before (x ∷ o.after) (y ∷ []);
  none_before = o.none_before;
  found = o.found;
}
  where
    append_again : {X : Type 0} (a b c : List X) → (a ++ b) ++ c ≡ a ++ (b ++ c)
    append_again [] b c = refl
    append_again (z ∷ a) b c = ap (λ zs. z ∷ zs) (append_again a b c)

-- where one is left already, it stays the first
left_longer : (g : Group) (f : Sub) (xs : List Asked) (ks js : List ℕ) (span : Span) (a : Asked) → AreSorted g f xs ks (Some span)
    → AreSorted g f (xs ++ a ∷ []) js (Some span)
left_longer g f xs ks js span a s = (s.0, first_longer (IsLeft g f) xs s.0 a s.1, s.2)

sorted_met : (g : Group) (f : Sub) (xs : List Asked) (ks : List ℕ) (l : Option Span) (a : Asked) → AreSorted g f xs ks l → IsMet g f a
    → AreSorted g f (xs ++ a ∷ []) ks l
sorted_met g f xs ks None a s m = more_met g f 0 xs ks a s m
sorted_met g f xs ks (Some span) a s m = left_longer g f xs ks ks span a s

sorted_kept : (g : Group) (f : Sub) (xs : List Asked) (ks : List ℕ) (l : Option Span) (a : Asked) (n : ℕ) → AreSorted g f xs ks l → n ≡ length xs → IsKept g f a
    → AreSorted g f (xs ++ a ∷ []) (ks ++ n ∷ []) l
sorted_kept g f xs ks None a n s z q = more_kept g f 0 xs ks a n s (omega (arith, z)) q
sorted_kept g f xs ks (Some span) a n s z q = left_longer g f xs ks (ks ++ n ∷ []) span a s

sorted_left : (g : Group) (f : Sub) (xs : List Asked) (ks : List ℕ) (l : Option Span) (a : Asked) → AreSorted g f xs ks l → IsLeft g f a
    → AreSorted g f (xs ++ a ∷ []) ks (first_left l a.span)
sorted_left g f xs ks None a s q = (a, record { before = xs; after = []; split = refl; none_before = kept_none_left g f 0 xs ks s; found = q }, refl)
sorted_left g f xs ks (Some span) a s q = left_longer g f xs ks ks span a s

-- the list as far as the next demand, and behind it
next_asked : (xs : List program.Asked) (i : ℕ) (x : program.Asked) → i < length xs → x ≡ get_or xs i x
    → take (suc i) (map asked_view xs) ≡ take i (map asked_view xs) ++ asked_view x ∷ []
next_asked [] i x h e = absurd (omega arith)
next_asked (y ∷ xs) zero x h e = ap (λ (q : program.Asked). asked_view q ∷ []) (sym e)
next_asked (y ∷ xs) (suc i) x h e = ap (λ zs. asked_view y ∷ zs) (next_asked xs i x (omega arith) e)

record Behind (xs before : List Asked) (x : Asked) : Type 0 where
  after : List Asked
  split : xs ≡ before ++ x ∷ after

split_asked : (xs : List program.Asked) (i : ℕ) (x : program.Asked) → i < length xs → x ≡ get_or xs i x
    → Behind (map asked_view xs) (take i (map asked_view xs)) (asked_view x)
split_asked [] i x h e = absurd (omega arith)
split_asked (y ∷ xs) zero x h e = record { after = map asked_view xs; split = ap (λ (q : program.Asked). asked_view q ∷ map asked_view xs) (sym e) }
split_asked (y ∷ xs) (suc i) x h e = let b : Behind (map asked_view xs) (take i (map asked_view xs)) (asked_view x) =
    split_asked xs i x (omega arith) e in record { after = b.after; split = ap (λ zs. asked_view y ∷ zs) b.split }

taken_length : (xs : List program.Asked) (i : ℕ) → i < length xs → i ≡ length (take i (map asked_view xs))
taken_length [] i h = absurd (omega (arith, h))
taken_length (y ∷ xs) zero h = refl
taken_length (y ∷ xs) (suc i) h = ap suc (taken_length xs i (omega (arith, h)))

module _ (g : Group) (f : Sub) (xs : List program.Asked) (i : ℕ) (x : program.Asked) (h : i < length xs) (at : x ≡ get_or xs i x) (ks : List ℕ)
    (l : Option Span) (c : IsClosing g f (take i (map asked_view xs)) ks l) where
  one_more : take (i + 1) (map asked_view xs) ≡ take i (map asked_view xs) ++ asked_view x ∷ []
  one_more = rw (add-one i) (next_asked xs i x h at)

  longer : (js : List ℕ) (m : Option Span) → (IsFalse g f (asked_view x) → ⊥) → AreSorted g f (take i (map asked_view xs) ++ asked_view x ∷ []) js m
      → IsClosing g f (take (i + 1) (map asked_view xs)) js m
  longer js m unfalse s = subst (λ zs. IsClosing g f zs js m) (sym one_more)
      (record { none_false = all_more (λ a. IsFalse g f a → ⊥) (take i (map asked_view xs)) (asked_view x) c.none_false unfalse; sorted = s })

  pub closing_met : IsMet g f (asked_view x) → IsClosing g f (take (i + 1) (map asked_view xs)) ks l
  closing_met m = longer ks l (met_not_false g f (asked_view x) m) (sorted_met g f (take i (map asked_view xs)) ks l (asked_view x) c.sorted m)

  pub closing_kept : IsKept g f (asked_view x) → IsClosing g f (take (i + 1) (map asked_view xs)) (ks ++ i ∷ []) l
  closing_kept q = longer (ks ++ i ∷ []) l (λ w. not_false g.shapes (on_demand f (asked_view x).what) w.0 q.neither w.1)
      (sorted_kept g f (take i (map asked_view xs)) ks l (asked_view x) i c.sorted (taken_length xs i h) q)

  pub closing_left : IsLeft g f (asked_view x) → IsClosing g f (take (i + 1) (map asked_view xs)) ks (first_left l x.span)
  closing_left q = longer ks (first_left l x.span) (λ w. not_false g.shapes (on_demand f (asked_view x).what) w.0 q.neither w.1)
      (sorted_left g f (take i (map asked_view xs)) ks l (asked_view x) c.sorted q)

  -- the first that is false is told
  pub closing_false : g.asked ≡ map asked_view xs → (why : refusal.Wrong) → IsWrong g f (wrong_view why) (asked_view x) → IsUnmet g f (e.Wrong x.span why)
  closing_false z why w =
      let b : Behind (map asked_view xs) (take i (map asked_view xs)) (asked_view x) = split_asked xs i x h at in (
        asked_view x,
        record {
          before = take i (map asked_view xs);
          after = b.after;
          split = z ∙ b.split;
          none_before = c.none_false;
          found =
              (wrong_view why, w);
        },
        w,
        refl,
      )

-- each demand of the list speaks of variables that there are
pub below_at : (n : ℕ) (xs : List program.Asked) (i : ℕ) (x : program.Asked) → i < length xs → x ≡ get_or xs i x
    → All (λ a. DemandBelow n a.what) (map asked_view xs) → DemandBelow n (demand_view x.what)
below_at n [] i x h at b = absurd (omega (arith, h))
below_at n (y ∷ xs) zero x h at b = let P : program.Asked → Type 0 = λ q. DemandBelow n (demand_view q.what)
    in subst P (sym at) (b 0 (asked_view y) (omega arith))
below_at n (y ∷ xs) (suc i) x h at b = below_at n xs i x (omega (arith, h)) at (λ k d l. b (suc k) d (omega (arith, l)))

pub take_all : (xs : List program.Asked) (n : ℕ) → length xs ≤ n → take n (map asked_view xs) ≡ map asked_view xs
take_all [] zero h = refl
take_all [] (suc n) h = refl
take_all (y ∷ xs) zero h = absurd (omega (arith, h))
take_all (y ∷ xs) (suc n) h = ap (λ zs. asked_view y ∷ zs) (take_all xs n (omega (arith, h)))

-- the first that is left is told
pub closing_unresolved : (g : Group) (f : Sub) (ks : List ℕ) (span : Span) → IsClosing g f g.asked ks (Some span) → IsUnmet g f (e.Unresolved span)
closing_unresolved g f ks span c = (c.none_false, c.sorted)

pub closing_start : (g : Group) (f : Sub) → IsClosing g f [] [] None
closing_start g f = record { none_false = λ j d h. absurd (omega (arith, h)); sorted = none_left }
