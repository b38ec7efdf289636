-- Steps of solving, one after another.
use Rattle.std.proofs.Common.{◌≡◌, ℕ, ◌<◌, List, [], ◌∷◌, ◌++◌, sym, ap, arith, true, false, Bool, subst, Result, Ok, Err}
use Rattle.std.specs.Prelude.{IfOk}
use Rattle.ddl_base.specs.declared.memory.NoMemory.{NoMemory}
use Rattle.ddl_types.specs.Types.{Ty}
use Rattle.ddl_unify.specs.declared.trail.Trail.{Trail}
use Rattle.ddl_unify.specs.Equations.{Equation, equal, Solves, EachBelow}
use Rattle.ddl_unify.specs.Measures.{weight, steps}
use Rattle.ddl_unify.specs.Trails.{bindings, variables, free, Grows}
use Rattle.ddl_unify.specs.Solving.{Step, Split, SplitIs, Going, Opened, Turned, Settled}
use Rattle.ddl_unify.proofs.Steps.{steps_less, solves_append, solves_front, solves_back}
use Rattle.ddl_unify.proofs.Parts.{weight_append, below_front, below_back}
use Rattle.ddl_unify.proofs.Keeping.{grows_same, grows_then, turned_right}

-- types that are no variables, taken apart, are a step
step_split : (t : Trail) (es : List Equation) (l r : Ty) (es2 : List Equation) → EachBelow (equal l r ∷ es) (variables t) → Split l r es es2
    → Step t es l r t es2
step_split t es l r es2 b s = record {
  there = λ f h g q. (h, s.there f g q);
  back = λ n k f h g. (let x = s.back n k f g in (h, x.0, x.1));
  fewer = steps_less (free t) (weight (bindings t) es2) (weight (bindings t) (equal l r ∷ es)) (s.lighter (bindings t));
  below = s.below (variables t) b.0 b.1 b.2;
}

turned_split : (d : Result Bool NoMemory) (t : Trail) (es : List Equation) (l r : Ty) (es2 : List Equation) → EachBelow (equal l r ∷ es) (variables t)
    → IfOk d (λ b. SplitIs b l r es es2) → Turned d t es l r t es2
turned_split (Ok true) t es l r es2 b s = (grows_same t, step_split t es l r es2 b s)
turned_split (Ok false) t es l r es2 b s = (grows_same t, λ f h q. s f q)
turned_split (Err e) t es l r es2 b s = grows_same t

-- and so where the right one is read as such
pub turned_opened : (d : Result Bool NoMemory) (t : Trail) (es : List Equation) (l r y : Ty) (es2 : List Equation) → EachBelow (equal l r ∷ es) (variables t)
    → Opened t r y → IfOk d (λ b. SplitIs b l y es es2) → Turned d t es l r t es2
turned_opened d t es l r y es2 b o s =
    turned_right d t es r y l t es2 (sym o.same) (turned_split d t es l y es2 (b.0, o.below, b.2) s)

pub going_first : (t : Trail) (es : List Equation) → EachBelow es (variables t) → Going t es t es
going_first t es b = record {
  grows = grows_same t;
  there = λ f a s. (a, s);
  back = λ f a s. (a, s);
  below = b;
}

pub going_below : (t0 : Trail) (es0 : List Equation) (t : Trail) (es es2 : List Equation) (p : Equation) → Going t0 es0 t es → es ≡ es2 ++ p ∷ []
    → EachBelow (p ∷ es2) (variables t)
going_below t0 es0 t es es2 p g e =
    let Q : List Equation → Type 0 = λ x. EachBelow x (variables t) in
    let b = subst Q e g.below in
    let c = below_back es2 (p ∷ []) (variables t) b in
    (c.0, c.1, below_front es2 (p ∷ []) (variables t) b)

pub going_next : (t0 : Trail) (es0 : List Equation) (t : Trail) (es es1 : List Equation) (p : Equation) (t2 : Trail) (es2 : List Equation) → Going t0 es0 t es
    → es ≡ es1 ++ p ∷ [] → Turned (Ok true) t es1 p.left p.right t2 es2 → Going t0 es0 t2 es2
going_next t0 es0 t es es1 p t2 es2 g e h =
    let s = h.1 in
    let f : Grows t t2 = h.0 in
    record {
      grows = grows_then t0 t t2 g.grows f;
      there = λ k a q.
          let x = g.there k a q in
          let Q : List Equation → Type 0 = λ z. Solves k z in
          let y : Solves k (es1 ++ p ∷ []) = subst Q e x.1 in
          s.there k x.0 (solves_front k es1 (p ∷ []) y) (solves_back k es1 (p ∷ []) y).0;
      back = λ k a q.
          let x = s.back 0 (omega arith) k a q in
          let Q : List Equation → Type 0 = λ z. Solves k z in
          g.back k x.0 (subst Q (sym e) (solves_append k es1 (p ∷ []) x.1 (x.2, tt)));
      below = let P : ℕ → Type 0 = λ n. EachBelow es2 n in subst P (sym f.same) s.below;
    }

pub going_stop : (t0 : Trail) (es0 : List Equation) (t : Trail) (es es1 : List Equation) (p : Equation) (t2 : Trail) (es2 : List Equation) → Going t0 es0 t es
    → es ≡ es1 ++ p ∷ [] → Turned (Ok false) t es1 p.left p.right t2 es2 → Settled (Ok false) t0 es0 t2
going_stop t0 es0 t es es1 p t2 es2 g e h = (
  grows_then t0 t t2 g.grows h.0,
  λ k a q.
      let x = g.there k a q in
      let Q : List Equation → Type 0 = λ z. Solves k z in
      let y : Solves k (es1 ++ p ∷ []) = subst Q e x.1 in
      h.1 k x.0 (solves_back k es1 (p ∷ []) y).0,
)

pub going_done : (t0 : Trail) (es0 : List Equation) (t : Trail) (es : List Equation) → Going t0 es0 t es → es ≡ [] → Settled (Ok true) t0 es0 t
going_done t0 es0 t es g e = (
  g.grows,
  record {
    there = λ h a q. (g.there h a q).0;
    back = λ h a. (let Q : List Equation → Type 0 = λ z. Solves h z in g.back h a (subst Q (sym e) tt));
  },
)

pub going_smaller : (t : Trail) (es es1 : List Equation) (p : Equation) (t2 : Trail) (es2 : List Equation) → es ≡ es1 ++ p ∷ []
    → Turned (Ok true) t es1 p.left p.right t2 es2 → steps (free t2) (weight (bindings t2) es2) < steps (free t) (weight (bindings t) es)
going_smaller t es es1 p t2 es2 e h =
    let w : weight (bindings t) (equal p.left p.right ∷ es1) ≡ weight (bindings t) es =
    omega (arith, ap (weight (bindings t)) e, weight_append (bindings t) es1 (p ∷ [])) in
    let P : ℕ → Type 0 = λ n. steps (free t2) (weight (bindings t2) es2) < steps (free t) n in
    subst P w h.1.fewer
