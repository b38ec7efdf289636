-- When two types can be made equal.
use Rattle.std.proofs.Common.{◌≡◌, ℕ, zero, suc, ◌+◌, ◌<◌, ◌≤◌, List, [], ◌∷◌, map, take, length, get_or, Bool, true, false, sym, ap, ◌∙◌, arith, inl, inr}
use Rattle.std.proofs.Common.{subst, add-one, Result, Ok, Err, IfOk}
use Rattle.ddl_types.specs.declared.ty.Ty as program
use Rattle.ddl_types.specs.Types.{Ty, Ty.var, Tys, Tys.none, Tys.more, Sub, on, tys_of, Below, BelowAll}
use Rattle.ddl_types.specs.TyView.{ty_view}
use Rattle.ddl_unify.specs.Equations.{Equation, equal, Solves, MostGeneral, Holds, Apart}
use Rattle.ddl_unify.specs.declared.refusal.EquateError.{EquateError}
use Rattle.ddl_unify.specs.declared.refusal.EquateError.TheVariants as e
use Rattle.ddl_unify.specs.Refused.{Refused}
use Rattle.ddl_unify.proofs.Equating.{below_more}
use Rattle.ddl_unify.proofs.Steps.{holds_none}
use Rattle.ddl_unify.proofs.Sub.{on_same, on_on}
use Rattle.ddl_judging.specs.Judging.{CanBeEqual}
use Rattle.ddl_judging.specs.Refuting.{IsMeeting, is_refuting}

-- the sides of an endless equation have no solution
apart_read : (f : Sub) (l r x : Ty) (v : ℕ) → MostGeneral [] f → var v ≡ on l f → x ≡ on r f → Holds (var v) x → Apart l r
apart_read f l r x v m a b h g e =
    let k = m.general g tt in
    let p = on_on l f k.0 ∙ sym (on_same l g (λ n. on (f n) k.0) k.1) in
    let q = on_on r f k.0 ∙ sym (on_same r g (λ n. on (f n) k.0) k.1) in
    holds_none (var v) x k.0 h (ap (λ y. on y k.0) a ∙ p ∙ e ∙ sym q ∙ sym (ap (λ y. on y k.0) b))

apart_turned : (l r : Ty) → Apart r l → Apart l r
apart_turned l r a g e = a g (sym e)

-- an equation that is refused by a solver without equations has no solution
pub refused_apart : (d : EquateError) (f : Sub) (l r : Ty) → is_refuting d ≡ true → MostGeneral [] f → Refused d [] f l r → Apart l r
refused_apart (e.Clash a b) f l r q m h = λ g z. h.1 g (z, tt)
refused_apart (e.Endless v x) f l r q m h = elim h.0 [
  | inl k ↦ apart_read f l r (ty_view x) v m k.0 k.1 h.1
  | inr k ↦ apart_turned l r (apart_read f r l (ty_view x) v m k.0 k.1 h.1)
]
refused_apart e.NoMemory f l r q m h = cc

-- and one that is accepted has one
pub accepted_meets : (es : List Equation) (f : Sub) (l r : Ty) → es ≡ equal l r ∷ [] → MostGeneral es f → CanBeEqual l r
accepted_meets es f l r q m = let P : List Equation → Type 0 = λ z. Solves f z in (f, (subst P q m.solves).0)

below_all_more : (ts : Tys) (m n : ℕ) → m ≤ n → BelowAll ts m → BelowAll ts n
below_all_more none m n h b = tt
below_all_more (more t ts) m n h b = (below_more t m n h b.0, below_all_more ts m n h b.1)

-- the refusal of an equation tells that two types never meet
pub refuted_meets : {E : Type 0} (o : Result Bool E) (d : EquateError) (f : Sub) (l r : Ty) → IfOk o (λ b. (b ≡ false) × (is_refuting d ≡ true))
    → MostGeneral [] f → Refused d [] f l r → IfOk o (IsMeeting l r)
refuted_meets (Ok b) d f l r h m k = let P : Bool → Type 0 = λ x. IsMeeting l r x in subst P (sym h.0) (refused_apart d f l r h.1 m k)
refuted_meets (Err x) d f l r h m k = tt

below_suc : (xs : List program.Ty) (i : ℕ) (x : program.Ty) (n : ℕ) → i < length xs → x ≡ get_or xs i x → BelowAll (tys_of (map ty_view (take i xs))) n
    → Below (ty_view x) n → BelowAll (tys_of (map ty_view (take (suc i) xs))) n
below_suc [] i x n h e a b = absurd (omega arith)
below_suc (y ∷ xs) zero x n h e a b = (let P : program.Ty → Type 0 = λ z. Below (ty_view z) n in subst P e b, tt)
below_suc (y ∷ xs) (suc i) x n h e a b = (a.0, below_suc xs i x n (omega arith) e a.1 b)

-- the variables of one part more are below a larger number
pub below_next : (xs : List program.Ty) (i : ℕ) (x : program.Ty) (m n : ℕ) → i < length xs → x ≡ get_or xs i x → m ≤ n
    → BelowAll (tys_of (map ty_view (take i xs))) m → Below (ty_view x) n → BelowAll (tys_of (map ty_view (take (i + 1) xs))) n
below_next xs i x m n h e k a b =
    let P : ℕ → Type 0 = λ j. BelowAll (tys_of (map ty_view (take j xs))) n in
    subst P (sym (add-one i)) (below_suc xs i x n h e (below_all_more (tys_of (map ty_view (take i xs))) m n k a) b)

pub below_whole : (xs : List program.Ty) (i n : ℕ) → length xs ≤ i → BelowAll (tys_of (map ty_view (take i xs))) n → BelowAll (tys_of (map ty_view xs)) n
below_whole [] i n h a = tt
below_whole (x ∷ xs) zero n h a = absurd (omega arith)
below_whole (x ∷ xs) (suc i) n h a = (a.0, below_whole xs i n (omega arith) a.1)

pub ruleset belows = (below_more)
