-- Measures, and what solves a list.
use Rattle.std.proofs.Common.{◌≡◌, ℕ, ◌*◌, ◌≤◌, ◌<◌, List, [], ◌∷◌, ◌++◌, ◌≢◌, refl, sym, ap, arith, zero, suc, inl, inr}
use Rattle.std.proofs.Math.Nat.{mul-le-mul_left}
use Rattle.std.proofs.lemmas.Bool.Decides.{eqb_tells}
use Rattle.ddl_types.specs.Types.{Ty, Tys, Ty.var, Ty.con, Tys.none, Tys.more, Sub, on, on_all}
use Rattle.ddl_unify.specs.Occurs.{one, count, count_all, size, size_all}
use Rattle.ddl_unify.specs.Equations.{Equation, equal, Solves, Holds}
use Rattle.ddl_unify.specs.Bindings.{Binding, solution}
use Rattle.ddl_unify.specs.Measures.{weight, steps}
use Rattle.ddl_unify.specs.Heads.{pairs}
use Rattle.ddl_unify.proofs.Sub.{on_on}

pub size_some : (t : Ty) → 1 ≤ size t
size_some (var n) = omega arith
size_some (con h ts) = omega arith

one_size : (v : ℕ) (s : Ty) (n : ℕ) → size (one v s n) ≤ size s
one_size v s n = elim (eqb_tells n v) [ inl q ↦ rw q.0 (omega arith) | inr q ↦ rw q.0 (size_some s) ]

mutual
  size_on : (t : Ty) (f : Sub) (m : ℕ) → 1 ≤ m → ((n : ℕ) → size (f n) ≤ m) → size (on t f) ≤ size t * m
  size_on (var n) f m k h = omega (arith, h n)
  size_on (con c ts) f m k h = omega (arith, size_all_on ts f m k h)

  size_all_on : (ts : Tys) (f : Sub) (m : ℕ) → 1 ≤ m → ((n : ℕ) → size (f n) ≤ m) → size_all (on_all ts f) ≤ size_all ts * m
  size_all_on none f m k h = omega arith
  size_all_on (more t ts) f m k h = omega (arith, size_on t f m k h, size_all_on ts f m k h)

-- one more binding makes what is read larger by the size of the bound type at most
read_bound : (b : Binding) (bs : List Binding) (t : Ty) → size (on t (solution (b ∷ bs))) ≤ size (on t (solution bs)) * size (on b.to (solution bs))
read_bound b bs t =
    let s : Ty = on b.to (solution bs) in
    let e : size (on t (solution (b ∷ bs))) ≡ size (on (on t (solution bs)) (one b.from s)) = ap size (sym (on_on t (solution bs) (one b.from s))) in
    omega (arith, e, size_on (on t (solution bs)) (one b.from s) (size s) (size_some s) (one_size b.from s))

pub weight_bound : (b : Binding) (bs : List Binding) (es : List Equation) → weight (b ∷ bs) es ≤ weight bs es * size (on b.to (solution bs))
weight_bound b bs [] = omega arith
weight_bound b bs (e ∷ es) = omega (arith, read_bound b bs e.left, read_bound b bs e.right, weight_bound b bs es)

square : (a b : ℕ) → a ≤ b → a * a ≤ b * b
square a b h = omega (arith, mul-le-mul_left a h, mul-le-mul_left b h)

pub steps_more : (u a b : ℕ) → a ≤ b → steps u a ≤ steps u b
steps_more zero a b h = h
steps_more (suc u) a b h = omega (arith, steps_more u (a * a) (b * b) (square a b h))

pub steps_less : (u a b : ℕ) → a < b → steps u a < steps u b
steps_less zero a b h = h
steps_less (suc u) a b h = omega (arith, steps_more u (a * a) (b * b) (square a b (omega arith)))

-- one variable fewer, however much larger the types become
pub steps_bind : (u w s a b : ℕ) → w ≤ b → s ≤ b → a ≤ w * s → steps u a < steps (suc u) b
steps_bind u w s a b h k l =
    let e : w * s ≤ b * b = omega (arith, mul-le-mul_left w k, mul-le-mul_left b h) in
    omega (arith, steps_more u a (b * b) (omega arith))

mutual
  held : (t : Ty) (f : Sub) (v : ℕ) → count t v ≢ 0 → size (f v) ≤ size (on t f)
  held (var n) f v h = elim (eqb_tells n v) [ inl q ↦ rw q.1 (omega arith) | inr q ↦ absurd (h (rw q.0 refl)) ]
  held (con c ts) f v h = omega (arith, held_all ts f v h)

  held_all : (ts : Tys) (f : Sub) (v : ℕ) → count_all ts v ≢ 0 → size (f v) ≤ size_all (on_all ts f)
  held_all none f v h = absurd (h refl)
  held_all (more t ts) f v h =
      elim (eqb_tells (count t v) 0) [ inl q ↦ omega (arith, held_all ts f v (λ e. h (omega (arith, q.1, e)))) | inr q ↦ omega (arith, held t f v q.1) ]

-- a variable and a larger type that holds it have no solution
pub holds_none : (l r : Ty) (f : Sub) → Holds l r → on l f ≡ on r f → ⊥
holds_none (var v) (con c ts) f h e = omega (arith, held_all ts f v h, ap size e)
holds_none (var v) (var w) f h e = h
holds_none (con c ts) r f h e = h

pub solves_append : (f : Sub) (a b : List Equation) → Solves f a → Solves f b → Solves f (a ++ b)
solves_append f [] b h k = k
solves_append f (e ∷ a) b h k = (h.0, solves_append f a b h.1 k)

pub solves_front : (f : Sub) (a b : List Equation) → Solves f (a ++ b) → Solves f a
solves_front f [] b h = tt
solves_front f (e ∷ a) b h = (h.0, solves_front f a b h.1)

pub solves_back : (f : Sub) (a b : List Equation) → Solves f (a ++ b) → Solves f b
solves_back f [] b h = h
solves_back f (e ∷ a) b h = solves_back f a b h.1

pub pairs_solve : (f : Sub) (ls rs : Tys) → on_all ls f ≡ on_all rs f → Solves f (pairs ls rs)
pairs_solve f none rs e = tt
pairs_solve f (more l ls) none e = tt
pairs_solve f (more l ls) (more r rs) e = solves_append f (pairs ls rs) (equal l r ∷ []) (pairs_solve f ls rs cc) (cc, tt)
