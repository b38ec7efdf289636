-- The choices do not depend on the most general solution that is kept, so the list grows to one end.
use Rattle.std.proofs.Common.{◌≡◌, ℕ, ◌+◌, List, [], ◌∷◌, ◌++◌, refl, sym, ap, ◌∙◌, subst, Some, None, Option}
use Rattle.std.specs.Prelude.{All}
use Rattle.std.proofs.lemmas.List.Elements.{All-head, All-tail}
use Rattle.ddl_types.specs.Types.{Ty, Ty.var, Ty.con, Tys.none, Sub, on, Head, Head.int}
use Rattle.ddl_unify.specs.Equations.{Equation, equal, MostGeneral}
use Rattle.ddl_judging.specs.Demands.{Asked, subjects, numbered}
use Rattle.ddl_growing.specs.Giving.{gives}
use Rattle.ddl_conditions.specs.Growing.{Group, Grows, IsDone, IsFree, IsReady, State, Step, adding, becoming_int, begun, further, added_at, equations, start}
use Rattle.ddl_growing.specs.Heads.{add_head, head, heads_of}
use Rattle.ddl_conditions.specs.Laws.{Ended, done_with, unsolvable, OneEnd}
use Rattle.ddl_conditions.proofs.Carrying.{Follows, along, free_back}

-- a known head stays
head_stays : (x : Ty) (h : Sub) (c : Head) → head x ≡ Some c → head (on x h) ≡ Some c
head_stays (var v) h c k = let q : None ≡ Some c = k in absurd (cc)
head_stays (con d ts) h c k = k

pub heads_stay : (ts : List Ty) (f g h : Sub) (hs : List Head) → Follows g f h → heads_of ts f ≡ Some hs → heads_of ts g ≡ Some hs
heads_stay [] f g h hs e k = k
heads_stay (t ∷ ts) f g h hs e k = by_parts (heads_stay ts f g h) (head (on t f)) (heads_of ts f) refl refl k
  where
    by_parts : ((us : List Head) → Follows g f h → heads_of ts f ≡ Some us → heads_of ts g ≡ Some us) → (x : Option Head) (y : Option (List Head))
        → head (on t f) ≡ x → heads_of ts f ≡ y → add_head x y ≡ Some hs → add_head (head (on t g)) (heads_of ts g) ≡ Some hs
    by_parts later None y p q z = let w : None ≡ Some hs = z in absurd (cc)
    by_parts later (Some c) None p q z = let w : None ≡ Some hs = z in absurd (cc)
    by_parts later (Some c) (Some us) p q z =
        let a : head (on t g) ≡ Some c = ap head (along t f g h e) ∙ head_stays (on t f) h c p in
        let b : heads_of ts g ≡ Some us = later us e q in
        ap (λ x. add_head x (heads_of ts g)) a ∙ ap (λ y. add_head (Some c) y) b ∙ z

ready_stays : (f g h : Sub) (a : Asked) → Follows g f h → IsReady f a → IsReady g a
ready_stays f g h a e r = record { heads = r.heads; known = heads_stay (subjects a.what) f g h r.heads e r.known }

-- two most general solutions of one list follow each other
follows : (es : List Equation) (f g : Sub) → MostGeneral es f → MostGeneral es g → (h : Sub) × Follows g f h
follows es f g m k = m.general g k.solves

ready_agrees : (es : List Equation) (f g : Sub) (a : Asked) → MostGeneral es f → MostGeneral es g → IsReady f a → IsReady g a
ready_agrees es f g a m k r = let i = follows es f g m k in ready_stays f g i.0 a i.1 r

free_agrees : (z : Group) (es : List Equation) (f g : Sub) (a : Asked) → MostGeneral es f → MostGeneral es g → IsFree z f a → IsFree z g a
free_agrees z es f g a m k r = let i = follows es g f k m in free_back z g f i.0 a i.1 r

middle : (P : Asked → Type 0) (a b : List Asked) (x : Asked) → All P (a ++ (x ∷ b)) → P x
middle P [] b x h = All-head P x b h
middle P (y ∷ a) b x h = middle P a b x (All-tail P y (a ++ (x ∷ b)) h)

middle_of : (P : Asked → Type 0) (xs a b : List Asked) (x : Asked) → xs ≡ a ++ (x ∷ b) → All P xs → P x
middle_of P xs a b x e h = let Q : List Asked → Type 0 = λ y. All P y in middle P a b x (subst Q e h)

same_head : (x y : Asked) (xs ys : List Asked) → x ∷ xs ≡ y ∷ ys → x ≡ y
same_head x y xs ys e = cc

same_tail : (x y : Asked) (xs ys : List Asked) → x ∷ xs ≡ y ∷ ys → xs ≡ ys
same_tail x y xs ys e = cc

-- the first one of a kind is one
first_one : (P Q : Asked → Type 0) → ((x : Asked) → P x → Q x) → ((x : Asked) → Q x → P x) → (a b : List Asked) (x y : Asked) (c d : List Asked)
    → a ++ (x ∷ c) ≡ b ++ (y ∷ d) → All (λ z. P z → ⊥) a → P x → All (λ z. Q z → ⊥) b → Q y → (x ≡ y) × (a ++ c ≡ b ++ d)
first_one P Q p q [] [] x y c d e na px nb qy = (same_head x y c d e, same_tail x y c d e)
first_one P Q p q [] (z ∷ b) x y c d e na px nb qy =
    absurd (All-head (λ w. Q w → ⊥) z b nb (subst Q (same_head x z c (b ++ (y ∷ d)) e) (p x px)))
first_one P Q p q (z ∷ a) [] x y c d e na px nb qy =
    absurd (All-head (λ w. P w → ⊥) z a na (subst P (sym (same_head z y (a ++ (x ∷ c)) d e)) (q y qy)))
first_one P Q p q (z ∷ a) (w ∷ b) x y c d e na px nb qy =
    let i = first_one P Q p q a b x y c d (same_tail z w (a ++ (x ∷ c)) (b ++ (y ∷ d)) e) (All-tail (λ w. P w → ⊥) z a na) px (All-tail (λ w. Q w → ⊥) w b nb)
    qy in
    let k = same_head z w (a ++ (x ∷ c)) (b ++ (y ∷ d)) e in
    (i.0, ap (λ s. s ∷ (a ++ c)) k ∙ ap (λ s. w ∷ s) i.1)

some_heads : (x y : List Head) → Some x ≡ Some y → x ≡ y
some_heads x y e = cc

some_type : (x y : Ty) → Some x ≡ Some y → x ≡ y
some_type x y e = cc

abbrev after_turn : Group → State → Asked → List Head → List Asked → State
after_turn g s a hs rest = record {
  added = s.added ++ added_at a.span (gives g.shapes a.what hs s.next).equations;
  waiting = rest;
  next =
      s.next + (gives g.shapes a.what hs s.next).vars;
}

abbrev after_int : State → Asked → Ty → State
after_int s a t = record { added = s.added ++ added_at a.span (equal (con int none) t ∷ []); waiting = s.waiting; next = s.next }

-- a step leads to one state
one_step : (g : Group) (es : List Equation) (f k : Sub) (s t u : State) → MostGeneral (equations es s) f → MostGeneral (equations es s) k → Step g f s t
    → Step g k s u → t ≡ u
one_step g es f k s t u m n (adding a hs before after split wait known) (adding b is front back split2 wait2 known2) =
    let i = first_one (IsReady f) (IsReady k) (λ x. ready_agrees (equations es s) f k x m n) (λ x. ready_agrees (equations es s) k f x n m) before front a b
    after back (sym split ∙ split2) wait (record { heads = hs; known = known }) wait2 (record { heads = is; known = known2 }) in
    let r = ready_agrees (equations es s) f k a m n (record { heads = hs; known = known }) in
    let q : heads_of (subjects a.what) k ≡ Some hs = (let w = follows (equations es s) f k m n in heads_stay (subjects a.what) f k w.0 hs w.1 known) in
    let j : hs ≡ is = some_heads hs is (sym q ∙ ap (λ (x : Asked). heads_of (subjects x.what) k) i.0 ∙ known2) in
    ap (λ x. after_turn g s x hs (before ++ after)) i.0 ∙ ap (λ x. after_turn g s b x (before ++ after)) j ∙ ap (λ x. after_turn g s b is x) i.1
one_step g es f k s t u m n (adding a hs before after split wait known) (becoming_int b waits first) =
    absurd (middle_of (λ x. IsReady k x → ⊥) s.waiting before after a split waits
    (ready_agrees (equations es s) f k a m n (record { heads = hs; known = known })))
one_step g es f k s t u m n (becoming_int b waits first) (adding a hs before after split wait known) =
    absurd (middle_of (λ x. IsReady f x → ⊥) s.waiting before after a split waits
    (ready_agrees (equations es s) k f a n m (record { heads = hs; known = known })))
one_step g es f k s t u m n (becoming_int a waits first) (becoming_int b waits2 first2) =
    let i = first_one (IsFree g f) (IsFree g k) (λ x. free_agrees g (equations es s) f k x m n) (λ x. free_agrees g (equations es s) k f x n m) first.before
    first2.before a b first.after first2.after (sym first.split ∙ first2.split) first.none_before first.found first2.none_before first2.found in
    let j : first.found.of ≡ first2.found.of = some_type first.found.of first2.found.of (sym first.found.number ∙ ap (λ (x : Asked). numbered x.what) i.0
    ∙ first2.found.number) in
    ap (λ x. after_int s x first.found.of) i.0 ∙ ap (λ x. after_int s b x) j

-- where a list is done, there is no step
no_step : (g : Group) (es : List Equation) (f k : Sub) (s t : State) → MostGeneral (equations es s) f → MostGeneral (equations es s) k → IsDone g f s
    → Step g k s t → ⊥
no_step g es f k s t m n done (adding a hs before after split wait known) =
    middle_of (λ x. IsReady f x → ⊥) s.waiting before after a split done.none_ready
    (ready_agrees (equations es s) k f a n m (record { heads = hs; known = known }))
no_step g es f k s t m n done (becoming_int a waits first) =
    middle_of (λ x. IsFree g f x → ⊥) g.asked first.before first.after a first.split done.none_free (free_agrees g (equations es s) k f a n m first.found)

ended_no_step : (g : Group) (es : List Equation) (k : Sub) (s t : State) → Ended g es s → MostGeneral (equations es s) k → Step g k s t → ⊥
ended_no_step g es k s t (done_with f m done) n step = no_step g es f k s t m n done step
ended_no_step g es k s t (unsolvable none_solves) n step = none_solves k n.solves

-- the steps from one state to another, the first one first
data Chain (g : Group) (es : List Equation) : State → State → Type 0 where
  still : {s : State} → Chain g es s s
  onward : {s t u : State} (f : Sub) → MostGeneral (equations es s) f → Step g f s t → Chain g es t u → Chain g es s u

chain_more : (g : Group) (es : List Equation) (s t u : State) (f : Sub) → Chain g es s t → MostGeneral (equations es t) f → Step g f t u → Chain g es s u
chain_more g es s t u f still m step = onward f m step still
chain_more g es s t u f (onward {t = w} k n first later) m step = onward k n first (chain_more g es w t u f later m step)

chain_of : (g : Group) (es : List Equation) (n : ℕ) (t : State) → Grows g es n t → Chain g es (start g n) t
chain_of g es n t begun = still
chain_of g es n t (further {s = s} f grows m step) = chain_more g es (start g n) s t f (chain_of g es n s grows) m step

chains_end : (g : Group) (es : List Equation) (s a b : State) → Chain g es s a → Chain g es s b → Ended g es a → Ended g es b → a ≡ b
chains_end g es s a b still still p q = refl
chains_end g es s a b still (onward {t = u} f m step later) p q = absurd (ended_no_step g es f s u p m step)
chains_end g es s a b (onward {t = u} f m step later) still p q = absurd (ended_no_step g es f s u q m step)
chains_end g es s a b (onward {t = u} f m step later) (onward {t = w} k n step2 later2) p q =
    let P : State → Type 0 = λ z. Chain g es z b in
    chains_end g es u a b later (subst P (sym (one_step g es f k s u w m n step step2)) later2) p q

pub one_end : OneEnd
one_end g es n a b p x q y = chains_end g es (start g n) a b (chain_of g es n a p) (chain_of g es n b q) x y
