-- The map that bindings stand for, and why reading a type ends.
use Rattle.std.proofs.Common.{◌≡◌, ℕ, ◌+◌, ◌*◌, ◌<◌, ◌≤◌, List, [], ◌∷◌, refl, sym, ap, ◌∙◌, arith, inl, inr, map, length, get_or, zero, suc, MatchOption}
use Rattle.std.proofs.Common.{Option, Some, None, subst}
use Rattle.ddl_types.specs.declared.ty.Ty as program
use Rattle.ddl_types.specs.Types.{Head, Ty, Tys, Ty.var, Ty.con, Tys.none, Tys.more, Sub, on, on_all, tys_of, Below}
use Rattle.ddl_types.specs.TyView.{ty_view}
use Rattle.ddl_types.proofs.Mapping.{on_place}
use Rattle.ddl_unify.specs.declared.store.Bound.{Bound}
use Rattle.ddl_unify.specs.View.{bounds}
use Rattle.ddl_unify.specs.Kept.{Kept}
use Rattle.ddl_unify.specs.Trails.{bindings, variables, LeadsTo}
use Rattle.ddl_unify.specs.Trails.{solution as read_by}
use Rattle.ddl_unify.specs.Solving.{Followed, IsEnd, Ends}
use Rattle.ddl_unify.specs.declared.trail.Trail.{Trail}
use Rattle.ddl_unify.specs.State.{IsFree}
use Rattle.ddl_unify.specs.Occurs.{one, count, count_all, NoVar}
use Rattle.ddl_unify.specs.Equations.{Equation, Solves, MostGeneral}
use Rattle.ddl_unify.specs.Bindings.{Binding, solution, Agrees, Unbound, Binds, Sound, ToBelow}
use Rattle.ddl_unify.specs.Measures.{weighed, weighed_all, cost}
use Rattle.ddl_unify.proofs.Sub.{on_same, on_on, one_kept, one_at, one_off, on_absent, count_self}

-- a map that agrees with the bindings does not see that they were followed
pub solution_then : (bs : List Binding) (f : Sub) → Agrees f bs → (n : ℕ) → on (solution bs n) f ≡ f n
solution_then [] f a n = refl
solution_then (b ∷ bs) f a n =
    let s : Ty = on b.to (solution bs) in
    let e : f b.from ≡ on s f = a.0 ∙ sym (on_on b.to (solution bs) f ∙ on_same b.to (λ m. on (solution bs m) f) f (solution_then bs f a.1)) in
    on_on (solution bs n) (one b.from s) f ∙ on_same (solution bs n) (λ m. on (one b.from s m) f) f (one_kept b.from s f e) ∙ solution_then bs f a.1 n

pub read_then : (bs : List Binding) (t : Ty) (f : Sub) → Agrees f bs → on (on t (solution bs)) f ≡ on t f
read_then bs t f a = on_on t (solution bs) f ∙ on_same t (λ n. on (solution bs n) f) f (solution_then bs f a)

-- a variable that is not bound is read as itself
pub unbound_read : (bs : List Binding) (v : ℕ) → Unbound v bs → solution bs v ≡ var v
unbound_read [] v u = refl
unbound_read (b ∷ bs) v u =
    ap (λ x. on x (one b.from (on b.to (solution bs)))) (unbound_read bs v u.1) ∙ one_off b.from (on b.to (solution bs)) v (λ e. u.0 (sym e))

agrees_through : (bs : List Binding) (f g : Sub) → Agrees f bs → Agrees (λ n. on (f n) g) bs
agrees_through [] f g a = tt
agrees_through (d ∷ bs) f g a = (ap (λ x. on x g) a.0 ∙ on_on d.to f g, agrees_through bs f g a.1)

pub solution_agrees : (bs : List Binding) → Sound bs → Agrees (solution bs) bs
solution_agrees [] w = tt
solution_agrees (b ∷ bs) w =
    let s : Ty = on b.to (solution bs) in (
      ap (λ x. on x (one b.from s)) (unbound_read bs b.from w.0) ∙ one_at b.from s ∙ sym (on_absent s b.from s w.1) ∙ on_on b.to (solution bs) (one b.from s),
      agrees_through bs (solution bs) (one b.from s) (solution_agrees bs w.2),
    )

agrees_binds : (bs : List Binding) (f : Sub) (v : ℕ) (t : Ty) → Agrees f bs → Binds bs v t → f v ≡ on t f
agrees_binds [] f v t a h = absurd h
agrees_binds (b ∷ bs) f v t a h =
    elim h [ inl q ↦ ap f (sym q.0) ∙ a.0 ∙ ap (λ x. on x f) q.1 | inr q ↦ agrees_binds bs f v t a.1 q ]

-- a bound variable is read as what it is bound to
pub binds_read : (bs : List Binding) (v : ℕ) (t : Ty) → Sound bs → Binds bs v t → solution bs v ≡ on t (solution bs)
binds_read bs v t w h = agrees_binds bs (solution bs) v t (solution_agrees bs w) h

-- bindings that say the same as the equations are a most general solution
pub most_general : (es : List Equation) (bs : List Binding) → Sound bs → ((f : Sub) → Solves f es → Agrees f bs) → ((f : Sub) → Agrees f bs → Solves f es)
    → MostGeneral es (solution bs)
most_general es bs w there back = record {
  solves = back (solution bs) (solution_agrees bs w);
  general = λ g s. (g, λ n. sym (solution_then bs g (there g s) n));
}

mutual
  weighed_sum : (t : Ty) (w : ℕ → ℕ) (f : Sub) (v k : ℕ) → weighed t (λ n. w n + count (f n) v * k) ≡ weighed t w + count (on t f) v * k
  weighed_sum (var n) w f v k = refl
  weighed_sum (con h ts) w f v k = omega (arith, weighed_all_sum ts w f v k)

  weighed_all_sum : (ts : Tys) (w : ℕ → ℕ) (f : Sub) (v k : ℕ)
      → weighed_all ts (λ n. w n + count (f n) v * k) ≡ weighed_all ts w + count_all (on_all ts f) v * k
  weighed_all_sum none w f v k = omega arith
  weighed_all_sum (more t ts) w f v k = omega (arith, weighed_sum t w f v k, weighed_all_sum ts w f v k)

weighed_more : (t : Ty) (b : Binding) (bs : List Binding)
    → weighed t (cost (b ∷ bs)) ≡ weighed t (cost bs) + count (on t (solution bs)) b.from * (1 + weighed b.to (cost bs))
weighed_more t b bs = weighed_sum t (cost bs) (solution bs) b.from (1 + weighed b.to (cost bs))

-- what a variable is bound to weighs less than the variable
pub binds_less : (bs : List Binding) (v : ℕ) (t : Ty) → Sound bs → Binds bs v t → weighed t (cost bs) < cost bs v
binds_less [] v t w h = absurd h
binds_less (b ∷ bs) v t w h =
    let k : ℕ = 1 + weighed b.to (cost bs) in
    elim h [
      | inl q ↦ (let z : count (on b.to (solution bs)) b.from * k ≡ 0 * k = ap (λ c. c * k) w.1 in
          let o : count (solution bs b.from) b.from * k ≡ 1 * k = ap (λ c. c * k) (ap (λ x. count x b.from) (unbound_read bs b.from w.0) ∙ count_self b.from) in
          let e : weighed b.to (cost (b ∷ bs)) ≡ weighed t (cost (b ∷ bs)) = ap (λ x. weighed x (cost (b ∷ bs))) q.1 in
          let g : cost (b ∷ bs) b.from ≡ cost (b ∷ bs) v = ap (cost (b ∷ bs)) q.0 in
          let m = weighed_more b.to b bs in
          omega (arith, z, o, e, g, m))
      | inr q ↦ (let e : count (solution bs v) b.from * k ≡ count (on t (solution bs)) b.from * k = ap (λ x. count x b.from * k) (binds_read bs v t w.2 q) in
          omega (arith, e, weighed_more t b bs, binds_less bs v t w.2 q))
    ]

-- what is read of a list's type is read of the list
pub read_place : (bs : List Binding) (h : Head) (ts : List Ty) → on (con h (tys_of ts)) (solution bs) ≡ con h (tys_of (map (λ t. on t (solution bs)) ts))
read_place bs h ts = on_place h ts (solution bs)

binds_below : (bs : List Binding) (v : ℕ) (t : Ty) (n : ℕ) → Binds bs v t → ToBelow bs n → Below t n
binds_below [] v t n h b = absurd h
binds_below (d ∷ bs) v t n h b = elim h [ inl q ↦ (let P : Ty → Type 0 = λ x. Below x n in subst P q.1 b.0) | inr q ↦ binds_below bs v t n q b.1 ]

-- what a kept variable is bound to
pub leads : (place : List ℕ) (xs : List Bound) (v : ℕ) (t : Ty) → Kept place xs → Binds (bounds xs) v t → LeadsTo (xs, length place) v t
leads place xs v t k h = record {
  same = binds_read (bounds xs) v t k.sound h;
  lighter = binds_less (bounds xs) v t k.sound h;
  below = binds_below (bounds xs) v t (length place) h k.below;
}

pub leads_read : (t : Trail) (v : ℕ) (u : Ty) → LeadsTo t v u → on u (read_by t) ≡ on (var v) (read_by t)
leads_read t v u h = sym h.same

pub leads_less : (t : Trail) (v : ℕ) (u : Ty) → LeadsTo t v u → weighed u (cost (bindings t)) < cost (bindings t) v
leads_less t v u h = h.lighter

-- a list's type weighs no more than the list
pub weighed_at : (w : ℕ → ℕ) (xs : List program.Ty) (k : ℕ) (x : program.Ty) → k < length xs → x ≡ get_or xs k x
    → weighed (ty_view x) w ≤ weighed_all (tys_of (map ty_view xs)) w
weighed_at w [] k x h e = absurd (omega arith)
weighed_at w (y ∷ xs) zero x h e = omega (arith, ap (λ z. weighed (ty_view z) w) e)
weighed_at w (y ∷ xs) (suc k) x h e = omega (arith, weighed_at w xs k x (omega arith) e)

pub followed_first : (t : Trail) (x : Ty) → Followed t x x
followed_first t x = record { same = refl; lighter = omega arith }

pub followed_more : (t : Trail) (x u : Ty) (v : ℕ) (w : Ty) → Followed t x u → u ≡ var v → LeadsTo t v w → Followed t x w
followed_more t x u v w f e h = record {
  same = leads_read t v w h ∙ ap (λ y. on y (read_by t)) (sym e) ∙ f.same;
  lighter = omega (arith, h.lighter, f.lighter, ap (λ y. weighed y (cost (bindings t))) e);
}

pub followed_read : (t : Trail) (v : ℕ) (x u : Ty) → LeadsTo t v x → Followed t x u → on u (read_by t) ≡ on (var v) (read_by t)
followed_read t v x u h f = f.same ∙ sym h.same

pub followed_less : (t : Trail) (v : ℕ) (x u : Ty) → LeadsTo t v x → Followed t x u → weighed u (cost (bindings t)) < cost (bindings t) v
followed_less t v x u h f = omega (arith, h.lighter, f.lighter)

-- a chain ends in a type that the solution leaves a variable, or that is none
pub ends_free : (t : Trail) (x : Ty) → IsEnd t x → IsFree x (read_by t)
ends_free t (var v) u = unbound_read (bindings t) v u
ends_free t (con h ts) u = tt

-- what a type is read as that is a variable: itself, or what it leads to
pub ends_var : (t : Trail) (x : Ty) (v : ℕ) → x ≡ var v → Unbound v (bindings t) → Ends t x v
ends_var t x v e u = record {
  free = u;
  same = ap (λ y. on y (read_by t)) e;
  within = let P : Ty → Type 0 = λ y. Below y (variables t) in λ b. subst P e b;
}

pub ends_there : (t : Trail) (x : Ty) (v : ℕ) (u : Ty) (o : Option ℕ) → x ≡ var v → LeadsTo t v u → MatchOption o (NoVar (on u (read_by t))) (Ends t u)
    → MatchOption o (NoVar (on x (read_by t))) (Ends t x)
ends_there t x v u None e h m =
    let P : Ty → Type 0 = λ y. NoVar y in subst P (leads_read t v u h ∙ ap (λ y. on y (read_by t)) (sym e)) m
ends_there t x v u (Some w) e h m = record {
  free = m.free;
  same = ap (λ y. on y (read_by t)) e ∙ h.same ∙ m.same;
  within = λ b. m.within h.below;
}

pub ruleset reads = (read_place, unbound_read, leads_read, leads_less, followed_read, followed_less, ends_var, ends_there)

pub ruleset follows = (followed_first, followed_more, leads_less)

pub ruleset ends = (ends_free)
