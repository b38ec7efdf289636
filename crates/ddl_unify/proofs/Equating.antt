-- What solving one more equation says of the list.
use Rattle.std.proofs.Common.{◌≡◌, ℕ, ◌≤◌, List, [], ◌∷◌, ◌++◌, refl, sym, ap, ◌∙◌, arith, zero, suc, length, get_or, length-append, subst, Result, Ok}
use Rattle.std.proofs.Common.{Err, true}
use Rattle.std.specs.Prelude.{IfOk, OnErr, MatchResult}
use Rattle.ddl_types.specs.Types.{Ty, Ty.var, Ty.con, Tys, Tys.none, Tys.more, Below, BelowAll}
use Rattle.ddl_unify.specs.declared.store.Bound.{Bound}
use Rattle.ddl_unify.specs.declared.store.Pair.{Pair}
use Rattle.ddl_unify.specs.declared.trail.Trail.{Trail}
use Rattle.ddl_unify.specs.declared.refusal.EquateError.{EquateError}
use Rattle.ddl_unify.specs.View.{bounds, equations, pair_view}
use Rattle.ddl_unify.specs.Equations.{Equation, equal, MostGeneral, Unsolvable}
use Rattle.ddl_unify.specs.Bindings.{Binding, ToBelow}
use Rattle.ddl_unify.specs.Kept.{Kept}
use Rattle.ddl_unify.specs.Measures.{zeros}
use Rattle.ddl_unify.specs.Refused.{Refused}
use Rattle.ddl_unify.specs.Holding.{Holding, Adds, Accepts}
use Rattle.ddl_unify.specs.Trails.{bindings, solution, variables, no_trail}
use Rattle.ddl_unify.specs.Solving.{Tried, ApartUnder}
use Rattle.ddl_unify.proofs.ReadingLemmas.{most_general}
use Rattle.ddl_unify.proofs.Steps.{solves_append, solves_front, solves_back}
use Rattle.ddl_unify.proofs.Parts.{equations_last}

-- an equation that no map which agrees with the bindings solves, beside those that the bindings say
pub clash_none : (es : List Equation) (t : Trail) (l r : Ty) → Holding es t → ApartUnder t l r → Unsolvable (es ++ equal l r ∷ [])
clash_none es t l r h n f q = n f (h.there f (solves_front f es (equal l r ∷ []) q)) (solves_back f es (equal l r ∷ []) q).0

-- one more equation, solved
pub holding_more : (ps ps2 : List Pair) (t t2 : Trail) (l r : Ty) → Holding (equations ps) t → Tried (Ok true) t l r t2 → Adds ps l r ps2
    → Holding (equations ps2) t2
holding_more ps ps2 t t2 l r h s e =
    let es : List Equation = equations ps in
    let Q : List Equation → Type 0 = λ z. Holding z t2 in
    subst Q (sym e) (record {
      sound = s.1;
      there = λ f q. s.2.there f (h.there f (solves_front f es (equal l r ∷ []) q)) (solves_back f es (equal l r ∷ []) q);
      back = λ f a. (let x = s.2.back f a in solves_append f es (equal l r ∷ []) (h.back f x.0) x.1);
    })

pub accepts_ok : (ps ps2 : List Pair) (t t2 : Trail) (l r : Ty) → Holding (equations ps) t → Tried (Ok true) t l r t2 → Adds ps l r ps2
    → Accepts (Ok tt) ps t l r ps2 t2
accepts_ok ps ps2 t t2 l r h s e = (e, holding_more ps ps2 t t2 l r h s e, s.0.same)

pub pushed : (ps ps2 : List Pair) (p : Pair) (l r : Ty) → ps2 ≡ ps ++ p ∷ [] → pair_view p ≡ equal l r → Adds ps l r ps2
pushed ps ps2 p l r e q = equations_last ps ps2 p e ∙ ap (λ x. equations ps ++ x ∷ []) q

-- the bindings are a most general solution
pub holding_most : (es : List Equation) (t : Trail) → Holding es t → MostGeneral es (solution t)
holding_most es t h = most_general es (bindings t) h.sound h.there h.back

-- what each answer leaves
pub accepts_holding : (d : Result (Unit {0}) EquateError) (ps : List Pair) (t : Trail) (l r : Ty) (ps2 : List Pair) (t2 : Trail) → Holding (equations ps) t
    → Accepts d ps t l r ps2 t2 → Holding (equations ps2) t2
accepts_holding (Ok u) ps t l r ps2 t2 h a = a.1
accepts_holding (Err e) ps t l r ps2 t2 h a =
    let P : List Pair → Type 0 = λ z. Holding (equations z) t2 in
    let Q : Trail → Type 0 = λ z. Holding (equations ps) z in
    subst P (sym a.0) (subst Q (sym a.1) h)

pub accepts_long : (d : Result (Unit {0}) EquateError) (ps : List Pair) (t : Trail) (l r : Ty) (ps2 : List Pair) (t2 : Trail) → Accepts d ps t l r ps2 t2
    → variables t2 ≡ variables t
accepts_long (Ok u) ps t l r ps2 t2 a = a.2
accepts_long (Err e) ps t l r ps2 t2 a = ap (λ (z : Trail). variables z) a.1

pub accepts_adds : (d : Result (Unit {0}) EquateError) (ps : List Pair) (t : Trail) (l r : Ty) (ps2 : List Pair) (t2 : Trail) → Accepts d ps t l r ps2 t2
    → IfOk d (λ _. Adds ps l r ps2)
accepts_adds (Ok u) ps t l r ps2 t2 a = a.0
accepts_adds (Err e) ps t l r ps2 t2 a = tt

pub accepts_refused : (d : Result (Unit {0}) EquateError) (ps : List Pair) (t : Trail) (l r : Ty) (ps2 : List Pair) (t2 : Trail) → Accepts d ps t l r ps2 t2
    → MatchResult d (λ _. Unit {0}) (λ e. Refused e (equations ps) (solution t) l r)
accepts_refused (Ok u) ps t l r ps2 t2 a = tt
accepts_refused (Err e) ps t l r ps2 t2 a = a.2

abbrev same_state : (List Pair × List Bound × ℕ) → (List Pair × List Bound × ℕ) → Type 0
same_state a b = a ≡ b

pub accepts_same : (d : Result (Unit {0}) EquateError) (ps : List Pair) (t : Trail) (l r : Ty) (ps2 : List Pair) (t2 : Trail) → Accepts d ps t l r ps2 t2
    → OnErr d (same_state (ps2, t2.0, t2.1) (ps, t.0, t.1))
accepts_same (Ok u) ps t l r ps2 t2 a = tt
accepts_same (Err e) ps t l r ps2 t2 a = ap (λ (z : List Pair). (z, t2.0, t2.1)) a.0 ∙ ap (λ (z : Trail). (ps, z.0, z.1)) a.1

get_more : (xs : List ℕ) (v : ℕ) → get_or (xs ++ 0 ∷ []) v 0 ≡ get_or xs v 0
get_more [] zero = refl
get_more [] (suc v) = refl
get_more (x ∷ xs) zero = refl
get_more (x ∷ xs) (suc v) = get_more xs v

mutual
  pub below_more : (x : Ty) (m n : ℕ) → m ≤ n → Below x m → Below x n
  below_more (var v) m n h b = omega (arith, b)
  below_more (con c ts) m n h b = below_all_more ts m n h b

  below_all_more : (ts : Tys) (m n : ℕ) → m ≤ n → BelowAll ts m → BelowAll ts n
  below_all_more none m n h b = tt
  below_all_more (more x ts) m n h b = (below_more x m n h b.0, below_all_more ts m n h b.1)

to_more : (bs : List Binding) (m n : ℕ) → m ≤ n → ToBelow bs m → ToBelow bs n
to_more [] m n h b = tt
to_more (d ∷ bs) m n h b = (below_more d.to m n h b.0, to_more bs m n h b.1)

zeros_more : (xs : List ℕ) → zeros (xs ++ 0 ∷ []) ≡ suc (zeros xs)
zeros_more [] = refl
zeros_more (x ∷ xs) = omega (arith, zeros_more xs)

-- one more variable changes nothing
pub kept_fresh : (place : List ℕ) (xs : List Bound) → Kept place xs → Kept (place ++ 0 ∷ []) xs
kept_fresh place xs h = record {
  sound = h.sound;
  unbound = λ v e. h.unbound v (sym (get_more place v) ∙ e);
  bound = λ v k e. h.bound v k (sym (get_more place v) ∙ e);
  below = to_more (bounds xs) (length place) (length (place ++ 0 ∷ [])) (omega (arith, length-append place (0 ∷ []))) h.below;
  counted = omega (arith, zeros_more place, length-append place (0 ∷ []), h.counted);
}

no_bound : (v k : ℕ) → get_or [] v 0 ≡ suc k → ⊥
no_bound v k e = let q : 0 ≡ suc k = e in omega arith

pub kept_none : Kept [] []
kept_none = record { sound = tt; unbound = λ v e. tt; bound = λ v k e. no_bound v k e; below = tt; counted = refl }

pub holding_none : Holding [] no_trail
holding_none = record { sound = tt; there = λ f s. tt; back = λ f a. tt }

-- what is held is held of the bindings alone
pub holding_like : (es : List Equation) (t t2 : Trail) → t2.0 ≡ t.0 → Holding es t → Holding es t2
holding_like es t t2 e h =
    let P : List Bound → Type 0 = λ z. Holding es (z, t2.1) in
    subst P (sym e) (record { sound = h.sound; there = h.there; back = h.back })
