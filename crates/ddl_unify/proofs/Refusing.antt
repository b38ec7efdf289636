-- When an equation is endless, and when it clashes.
use Rattle.std.proofs.Common.{◌≡◌, ℕ, List, [], ◌∷◌, ◌++◌, sym, ◌∙◌, inl, inr, Some, None, Option, true, false, subst, Result, Ok, Err}
use Rattle.ddl_types.specs.Types.{Ty, Sub, on, Ty.var, Ty.con}
use Rattle.ddl_unify.specs.declared.trail.Trail.{Trail}
use Rattle.ddl_unify.specs.Occurs.{has, NoVar}
use Rattle.ddl_unify.specs.Equations.{Equation, equal, Unsolvable, Holds, Endless}
use Rattle.ddl_unify.specs.Bindings.{Unbound}
use Rattle.ddl_unify.specs.Trails.{bindings, solution}
use Rattle.ddl_unify.specs.Solving.{Held, Ends}
use Rattle.ddl_types.specs.TyView.{ty_view}
use Rattle.ddl_unify.specs.declared.refusal.EquateError.{EquateError}
use Rattle.ddl_unify.specs.declared.refusal.EquateError.TheVariants as e
use Rattle.ddl_unify.specs.Refused.{AreRead, IsClash, Refused, IsHeld, LeftHeld, EndlessRefused}
use Rattle.ddl_unify.proofs.Keeping.{has_count_all, count_has_all}
use Rattle.ddl_unify.proofs.ReadingLemmas.{unbound_read}

holds_con : (x y : Ty) → NoVar x → Holds x y → ⊥
holds_con (var v) y c h = cc
holds_con (con g ts) y c h = h

holds_var : (x : Ty) (w : ℕ) → Holds x (var w) → ⊥
holds_var (var v) w h = h
holds_var (con g ts) w h = h

-- no variable is held where the left side is read as none
pub held_con : (t : Trail) (l r : Ty) → NoVar (on l (solution t)) → Held t l r None
held_con t l r c h = holds_con (on l (solution t)) (on r (solution t)) c h

-- what is held of a variable is held of what is read as it
pub held_like : (o : Option ℕ) (t : Trail) (l r : Ty) (v : ℕ) → Ends t l v → Held t (var v) r o → Held t l r o
held_like None t l r v q h = let P : Ty → Type 0 = λ x. Holds x (on r (solution t)) → ⊥ in subst P (sym q.same) h
held_like (Some w) t l r v q h = (q.same ∙ h.0, h.1)

-- a variable holds none
pub held_var : (t : Trail) (v w : ℕ) (r : Ty) → Ends t r w → Held t (var v) r None
held_var t v w r q h =
    let P : Ty → Type 0 = λ x. Holds (on (var v) (solution t)) x in
    holds_var (on (var v) (solution t)) w (subst P (q.same ∙ unbound_read (bindings t) w q.free) h)

holds_yes : (y : Ty) (v : ℕ) → NoVar y → has y v ≡ true → Holds (var v) y
holds_yes (var w) v c h = let q : Some w ≡ None = c in cc
holds_yes (con g ts) v c h = λ z. (let k = count_has_all ts v z in cc)

holds_no : (y : Ty) (v : ℕ) → has y v ≡ false → Holds (var v) y → ⊥
holds_no (var w) v h n = n
holds_no (con g ts) v h n = n (has_count_all ts v h)

pub held_yes : (t : Trail) (v : ℕ) (r : Ty) → Unbound v (bindings t) → NoVar (on r (solution t)) → has (on r (solution t)) v ≡ true → Held t (var v) r (Some v)
held_yes t v r u c h = (unbound_read (bindings t) v u, holds_yes (on r (solution t)) v c h)

pub held_no : (t : Trail) (v : ℕ) (r : Ty) → Unbound v (bindings t) → has (on r (solution t)) v ≡ false → Held t (var v) r None
held_no t v r u h n =
    let P : Ty → Type 0 = λ x. Holds x (on r (solution t)) in
    holds_no (on r (solution t)) v h (subst P (unbound_read (bindings t) v u) n)

-- the refusal of an equation whose left side is held
pub is_held : (t : Trail) (l r x : Ty) (v : ℕ) → x ≡ on r (solution t) → on l (solution t) ≡ var v → Holds (var v) (on r (solution t))
    → AreRead (var v) x (solution t) l r × Holds (var v) x
is_held t l r x v q e h = let P : Ty → Type 0 = λ y. Holds (var v) y in ((sym e, q), subst P (sym q) h)

left_refused : (d : EquateError) (f : Sub) (l r : Ty) → IsHeld d f l r → (es : List Equation) → Refused d es f l r
left_refused (e.Clash a b) f l r h es = absurd h
left_refused (e.Endless v x) f l r h es = (inl h.0, h.1)
left_refused e.NoMemory f l r h es = tt

right_refused : (d : EquateError) (f : Sub) (l r : Ty) → IsHeld d f r l → (es : List Equation) → Refused d es f l r
right_refused (e.Clash a b) f l r h es = absurd h
right_refused (e.Endless v x) f l r h es = (inr h.0, h.1)
right_refused e.NoMemory f l r h es = tt

pub endless_left : (d : EquateError) (f : Sub) (l r : Ty) → LeftHeld (Err d) f l r → EndlessRefused (Err d) f l r
endless_left d f l r h es = left_refused d f l r h es

pub endless_right : (d : Result (Unit {0}) EquateError) (f : Sub) (l r : Ty) → LeftHeld (Ok tt) f l r → LeftHeld d f r l → EndlessRefused d f l r
endless_right (Ok u) f l r a b = λ q. elim q [ inl x ↦ a x | inr x ↦ b x ]
endless_right (Err d) f l r a b = λ es. right_refused d f l r b es

-- a clash is refused where there is no solution and the equation is not endless
pub clash_refused : (d : EquateError) (es : List Equation) (t t2 : Trail) (l r : Ty) → t2 ≡ t → IsClash d (solution t2) l r → Unsolvable (es ++ equal l r ∷ [])
    → (Endless (on l (solution t)) (on r (solution t)) → ⊥) → Refused d es (solution t) l r
clash_refused (e.Clash a b) es t t2 l r q h u n =
    let P : Trail → Type 0 = λ z. AreRead (ty_view a) (ty_view b) (solution z) l r in (subst P q h, u, n)
clash_refused (e.Endless v x) es t t2 l r q h u n = absurd h
clash_refused e.NoMemory es t t2 l r q h u n = tt
