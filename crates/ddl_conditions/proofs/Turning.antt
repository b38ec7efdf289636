-- The first of the demands behind that is ready, as it is found in a list.
use Rattle.std.proofs.Common.{◌≡◌, ℕ, ◌+◌, ◌<◌, ◌≤◌, List, [], ◌∷◌, ◌++◌, map, refl, sym, ap, ◌∙◌, arith, zero, suc, subst, length, take, drop, get_or, None}
use Rattle.std.specs.Prelude.{All}
use Rattle.std.proofs.lemmas.List.{take_more, take_all}
use Rattle.std.proofs.lemmas.List.Elements.{All-cons, All-head, All-tail, All-push}
use Rattle.ddl_types.specs.Types.{Sub}
use Rattle.ddl_growing.specs.declared.refusal.SettleError.{SettleError}
use Rattle.ddl_judging.specs.Demands.{Asked, DemandBelow, subjects}
use Rattle.ddl_conditions.specs.Growing.{Group, IsReady}
use Rattle.ddl_growing.specs.Heads.{heads_of}
use Rattle.ddl_growing.specs.Turns.{AtHeads, HasAdded, IsNoTurn, Solved}
use Rattle.ddl_conditions.specs.Walking.{AreBelow, HasNoTurn, HasTurn, Wait}
use Rattle.ddl_conditions.proofs.Growth.{map_append}
use Rattle.ddl_conditions.proofs.Onwards.{not_ready}

split_at : {X : Type 0} (v : X → Asked) (xs : List X) (i : ℕ) (x : X) → i < length xs → x ≡ get_or xs i x
    → map v xs ≡ map v (take i xs) ++ (v x ∷ map v (drop (suc i) xs))
split_at v [] i x h e = absurd (omega arith)
split_at v (y ∷ xs) zero x h e = ap (λ z. v z ∷ map v xs) (sym e)
split_at v (y ∷ xs) (suc i) x h e = ap (λ z. v y ∷ z) (split_at v xs i x (omega arith) e)

pub turn_found : {X : Type 0} (g : Group) (v : X → Asked) (xs : List X) (i : ℕ) (x : X) (z0 z z2 : Solved) → i < length xs → x ≡ get_or xs i x → z ≡ z0
    → Wait z0.solution (map v (take i xs)) → AtHeads g.shapes (v x) z (λ y. HasAdded y.equations y.vars z z2)
    → HasTurn g (map v xs) (map v (take i xs ++ drop (i + 1) xs)) z0 z2
turn_found g v xs i x z0 z z2 h e same wait added = record {
  turned = v x;
  before = map v (take i xs);
  after = map v (drop (suc i) xs);
  split = split_at v xs i x h e;
  remain = (let k : i + 1 ≡ suc i = omega arith in ap (λ n. map v (take i xs ++ drop n xs)) k ∙ map_append v (take i xs) (drop (suc i) xs));
  wait = wait;
  added = (let P : Solved → Type 0 = λ y. AtHeads g.shapes (v x) y (λ w. HasAdded w.equations w.vars y z2) in subst P same added);
}

pub turn_refused : {X : Type 0} (g : Group) (v : X → Asked) (xs : List X) (i : ℕ) (x : X) (z0 z z2 : Solved) (err : SettleError) → i < length xs
    → x ≡ get_or xs i x → z ≡ z0 → Wait z0.solution (map v (take i xs)) → IsNoTurn g.shapes (v x) z z2 err → HasNoTurn g (map v xs) z0 z2 err
turn_refused g v xs i x z0 z z2 err h e same wait refused = record {
  turned = v x;
  before = map v (take i xs);
  after = map v (drop (suc i) xs);
  split = split_at v xs i x h e;
  wait = wait;
  refused = (let P : Solved → Type 0 = λ y. IsNoTurn g.shapes (v x) y z2 err in subst P same refused);
}

pub wait_more : {X : Type 0} (v : X → Asked) (xs : List X) (i : ℕ) (x : X) (z0 z : Solved) → i < length xs → x ≡ get_or xs i x → z ≡ z0
    → Wait z0.solution (map v (take i xs)) → heads_of (subjects (v x).what) z.solution ≡ None → Wait z0.solution (map v (take (i + 1) xs))
wait_more v xs i x z0 z h e same wait none =
    let P : List Asked → Type 0 = λ y. Wait z0.solution y in
    let Q : Solved → Type 0 = λ y. heads_of (subjects (v x).what) y.solution ≡ None in
    let k : map v (take (i + 1) xs) ≡ map v (take i xs) ++ (v x ∷ []) =
    (ap (map v) (take_more xs i x h) ∙ map_append v (take i xs) (get_or xs i x ∷ []) ∙ ap (λ y. map v (take i xs) ++ (v y ∷ [])) (sym e)) in
    subst P (sym k) (All-push (λ y. IsReady z0.solution y → ⊥) (map v (take i xs)) (v x) wait (not_ready z0.solution (v x) (subst Q same none)))

pub wait_all : {X : Type 0} (v : X → Asked) (xs : List X) (i : ℕ) (f : Sub) → length xs ≤ i → Wait f (map v (take i xs)) → Wait f (map v xs)
wait_all v xs i f h wait = let P : List Asked → Type 0 = λ y. Wait f y in subst P (ap (map v) (take_all i xs h)) wait

all_middle : (P : Asked → Type 0) (a b : List Asked) (x : Asked) → All P (a ++ (x ∷ b)) → P x
all_middle P [] b x h = All-head P x b h
all_middle P (y ∷ a) b x h = all_middle P a b x (All-tail P y (a ++ (x ∷ b)) h)

pub below_at : {X : Type 0} (v : X → Asked) (xs : List X) (i : ℕ) (x : X) (z0 z : Solved) → i < length xs → x ≡ get_or xs i x → z ≡ z0
    → AreBelow z0.variables (map v xs) → DemandBelow z.variables (v x).what
below_at v xs i x z0 z h e same below =
    let P : List Asked → Type 0 = λ y. AreBelow z0.variables y in
    let Q : Solved → Type 0 = λ y. DemandBelow y.variables (v x).what in
    subst Q (sym same) (all_middle (λ y. DemandBelow z0.variables y.what) (map v (take i xs)) (map v (drop (suc i) xs)) (v x)
    (subst P (split_at v xs i x h e) below))

-- what is left of the demands behind
pub below_left : {X : Type 0} (v : X → Asked) (n : ℕ) (xs : List X) (i : ℕ) → AreBelow n (map v xs) → AreBelow n (map v (take i xs ++ drop (i + 1) xs))
below_left {X} v n xs i below =
    let k : i + 1 ≡ suc i = omega arith in
    let P : ℕ → Type 0 = λ m. AreBelow n (map v (take i xs ++ drop m xs)) in
    subst P (sym k) (by_place xs i below)
  where
    by_place : (ys : List X) (j : ℕ) → AreBelow n (map v ys) → AreBelow n (map v (take j ys ++ drop (suc j) ys))
    by_place [] zero b = b
    by_place [] (suc j) b = b
    by_place (y ∷ ys) zero b = All-tail (λ a. DemandBelow n a.what) (v y) (map v ys) b
    by_place (y ∷ ys) (suc j) b = All-cons (λ a. DemandBelow n a.what) (v y) (map v (take j ys ++ drop (suc j) ys))
        (All-head (λ a. DemandBelow n a.what) (v y) (map v ys) b) (by_place ys j (All-tail (λ a. DemandBelow n a.what) (v y) (map v ys) b))
