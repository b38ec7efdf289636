-- Maps of which a beginning is given, and what becomes of forms under them: the types that a typing has where the rules leave
-- one free are given one after the other, for whatever stands behind them.
use Rattle.std.proofs.Common.{◌≡◌, ◌==◌, ◌≤◌, ℕ, zero, suc, ◌+◌, List, [], ◌∷◌, length, if◌then◌else◌, refl, ap, sym, ◌∙◌, arith, subst, rules}
use Rattle.ddl_types.specs.Types.{Ty, Sub}
use Rattle.ddl_typing.specs.Making.{types_from}

-- a map that is given below a number, and left open from there on
abbrev pub Front : Type 0
Front = Sub → Sub

abbrev pub Opens : ℕ → Front → Type 0
Opens n φ = (rest : Sub) (v : ℕ) → n ≤ v → φ rest v ≡ rest v

abbrev pub behind : Front → Front → Front
behind φ ψ rest = φ (ψ rest)

-- the types up to a further number are given too, such that something becomes what it has to be
pub record Becomes {A : Type 0} (next : ℕ) (φ : Front) (it : Sub → A) (wanted : A) : Type 0 where
  pub given : Front
  pub opens : (rest : Sub) (v : ℕ) → next ≤ v → φ (given rest) v ≡ rest v
  pub same : (rest : Sub) → wanted ≡ it (φ (given rest))

-- ---- free types

abbrev give : ℕ → Ty → Front
give n u rest v = if v == n then u else rest v

give_at : (n : ℕ) (u : Ty) (rest : Sub) → give n u rest n ≡ u
give_at n u rest = search rules

give_beyond : (n : ℕ) (u : Ty) (rest : Sub) (v : ℕ) → suc n ≤ v → give n u rest v ≡ rest v
give_beyond n u rest v h = grind arith

opens_one : (n : ℕ) (u : Ty) (φ : Front) → Opens n φ → Opens (suc n) (behind φ (give n u))
opens_one n u φ o rest v h = o (give n u rest) v (omega (arith, h)) ∙ give_beyond n u rest v h

given_one : (n : ℕ) (u : Ty) (φ : Front) (rest : Sub) → Opens n φ → φ (give n u rest) n ≡ u
given_one n u φ rest o = o (give n u rest) n (omega arith) ∙ give_at n u rest

abbrev give_all : ℕ → List Ty → Front
give_all n [] rest = rest
give_all n (u ∷ us) rest = give n u (give_all (suc n) us rest)

opens_all : (n : ℕ) (us : List Ty) (φ : Front) → Opens n φ → Opens (n + length us) (behind φ (give_all n us))
opens_all n [] φ o rest v h = o rest v (omega (arith, h))
opens_all n (u ∷ us) φ o rest v h = opens_all (suc n) us (behind φ (give n u)) (opens_one n u φ o) rest v (omega (arith, h))

given_all : (n : ℕ) (us : List Ty) (φ : Front) (rest : Sub) → Opens n φ → us ≡ types_from (φ (give_all n us rest)) n (length us)
given_all n [] φ rest o = refl
given_all n (u ∷ us) φ rest o =
    let x : φ (give n u (give_all (suc n) us rest)) n ≡ u = given_one n u φ (give_all (suc n) us rest) o in
    let y = given_all (suc n) us (behind φ (give n u)) rest (opens_one n u φ o) in cc

-- ---- what becomes of parts

free_list : (n : ℕ) (us : List Ty) (φ : Front) → Opens n φ → Becomes (n + length us) φ (λ f. types_from f n (length us)) us
free_list n us φ o = record { given = give_all n us; opens = opens_all n us φ o; same = λ rest. given_all n us φ rest o }

-- so many free types
pub free_types : (n k : ℕ) (us : List Ty) (φ : Front) → length us ≡ k → Opens n φ → Becomes (n + k) φ (λ f. types_from f n k) us
free_types n k us φ e o = let P : ℕ → Type 0 = λ i. Becomes (n + i) φ (λ f. types_from f n i) us in subst P e (free_list n us φ o)

-- two things side by side
abbrev pub both : {A B : Type 0} → A → B → A × B
both a b = (a, b)

-- nothing is given for what has no free types
pub still : {A : Type 0} {n : ℕ} {φ : Front} (x : A) → Opens n φ → Becomes n φ (λ f. x) x
still x o = record { given = λ rest. rest; opens = o; same = λ rest. refl }

pub one : {A C : Type 0} {n : ℕ} {φ : Front} {it : Sub → A} {a : A} (rule : A → C) → Becomes n φ it a → Becomes n φ (λ f. rule (it f)) (rule a)
one rule x = record { given = x.given; opens = x.opens; same = λ rest. ap rule (x.same rest) }

-- a part, and one that goes on from it
pub then_ : {A B C : Type 0} {n k : ℕ} {φ : Front} {it : Sub → A} {a : A} {b : B} (x : Becomes n φ it a) (next : A → Sub → B) (rule : A → B → C)
    → Becomes k (behind φ x.given) (next a) b
    → Becomes k φ (λ f. rule (it f) (next (it f) f)) (rule a b)
then_ {φ = φ} {a = a} x next rule y = record {
  given = λ rest. x.given (y.given rest);
  opens = y.opens;
  same = λ rest. ap (rule a) (y.same rest) ∙ ap (λ w. rule w (next w (φ (x.given (y.given rest))))) (x.same (y.given rest));
}

-- the same for what is equal, and up to an equal number
pub so : {A : Type 0} (next : A → ℕ) {φ : Front} {it : Sub → A} {m x : A} → m ≡ x → Becomes (next x) φ it x → Becomes (next m) φ it m
so {A} next {φ} {it} e b = let P : A → Type 0 = λ w. Becomes (next w) φ it w in subst P (sym e) b

pub up_to : {A : Type 0} {n k : ℕ} {φ : Front} {it : Sub → A} {a : A} → n ≡ k → Becomes n φ it a → Becomes k φ it a
up_to {φ = φ} {it = it} {a = a} e b = let P : ℕ → Type 0 = λ i. Becomes i φ it a in subst P e b

pub opens_at : {n k : ℕ} {φ : Front} → n ≡ k → Opens n φ → Opens k φ
opens_at {φ = φ} e o = let P : ℕ → Type 0 = λ i. Opens i φ in subst P e o
