-- What is remembered of the compared pairs stays true.
use Rattle.std.proofs.Common.{◌≡◌, ℕ, ◌+◌, ◌≤◌, ◌<◌, List, [], ◌∷◌, ◌++◌, refl, sym, ap, ◌∙◌, arith, zero, suc, inl, inr, ◌⊎◌, length, drop, true, false, Bool}
use Rattle.std.proofs.Common.{◌&&◌, nat_eq, eqb-true, if◌then◌else◌, subst, length-append, Option, Some, None, Result, Ok, Err}
use Rattle.std.specs.Prelude.{MatchOption}
use Rattle.std.proofs.lemmas.Bool.Decides.{leb_tells}
use Rattle.std.proofs.lemmas.List.{drop-append-le, drop_all}
use Rattle.std.specs.HashSet.{contains}
use Rattle.std.specs.Bool.{OnTrue}
use Rattle.ddl_types.specs.Types.{Ty, Ty.var, Sub, on}
use Rattle.ddl_unify.specs.declared.store.Bound.{Bound}
use Rattle.ddl_unify.specs.declared.compared.Pending.{Pending}
use Rattle.ddl_unify.specs.declared.compared.Compared.{Compared}
use Rattle.ddl_unify.specs.declared.store.Pair.{Pair}
use Rattle.ddl_unify.specs.View.{bounds, onto, bound_view, equations}
use Rattle.ddl_unify.specs.Equations.{Equation, equal, Solves, EachBelow}
use Rattle.ddl_unify.specs.Bindings.{Binding, solution, Agrees}
use Rattle.ddl_unify.specs.Measures.{weight}
use Rattle.ddl_unify.specs.Trails.{bindings, variables, free, Extends, Grows}
use Rattle.ddl_unify.specs.Solving.{Step, Turned}
use Rattle.ddl_unify.specs.Comparing.{same_pair, KnownOne, Awaits, Awaited, EachAwaits, Remembers, Remembered}
use Rattle.ddl_unify.specs.declared.trail.Trail.{Trail}
use Rattle.ddl_base.specs.declared.memory.NoMemory.{NoMemory}
use Rattle.ddl_unify.proofs.Keeping.{grows_same}
use Rattle.ddl_unify.proofs.Stored.{onto_append}
use Rattle.ddl_unify.proofs.Steps.{solves_append, steps_less, size_some}

agrees_under : (bs : List Binding) (xs : List Bound) (f : Sub) → Agrees f (onto bs xs) → Agrees f bs
agrees_under bs [] f a = a
agrees_under bs (x ∷ xs) f a = (agrees_under (bound_view x ∷ bs) xs f a).1

-- a map that agrees with more bindings agrees with the first of them
agrees_front : (a b : List Bound) (f : Sub) → Extends a b → Agrees f (bounds b) → Agrees f (bounds a)
agrees_front a b f e h =
    let P : List Binding → Type 0 = λ z. Agrees f z in
    agrees_under (bounds a) e.more f (subst P (ap bounds e.is ∙ onto_append [] a e.more) h)

-- a pair whose equations are solved is equal under the bindings
awaits_none : (p : Pending) (xs : List Bound) (es : List Equation) (f : Sub) → length es ≤ p.above → Awaits p xs es → Agrees f (bounds xs)
    → f p.left ≡ f p.right
awaits_none p xs es f n w a =
    let P : List Equation → Type 0 = λ z. Solves f z in
    w f a (subst P (sym (drop_all p.above es n)) tt)

-- a step keeps what is awaited
awaits_step : (p : Pending) (t : Trail) (es : List Equation) (l r : Ty) (t2 : Trail) (es2 : List Equation) → Grows t t2 → Step t es l r t2 es2
    → Awaits p t.0 (es ++ equal l r ∷ []) → Awaits p t2.0 es2
awaits_step p t es l r t2 es2 e s w f a q =
    elim (leb_tells p.above (length es)) [
      | inl n ↦ (let k : p.above ≤ length es = n.1 in
          let b = s.back p.above k f a q in
          let P : List Equation → Type 0 = λ z. Solves f z in
          w f b.0 (subst P (sym (drop-append-le p.above es (equal l r ∷ []) k)) (solves_append f (drop p.above es) (equal l r ∷ []) b.1 (b.2, tt))))
      | inr n ↦ awaits_none p t.0 (es ++ equal l r ∷ []) f (omega (arith, n.1, length-append es (equal l r ∷ []))) w (agrees_front t.0 t2.0 f e.extends a)
    ]

each_step : (ps : List Pending) (t : Trail) (es : List Equation) (l r : Ty) (t2 : Trail) (es2 : List Equation) → Grows t t2 → Step t es l r t2 es2
    → EachAwaits ps t.0 (es ++ equal l r ∷ []) → EachAwaits ps t2.0 es2
each_step [] t es l r t2 es2 e s w = tt
each_step (p ∷ ps) t es l r t2 es2 e s w = (awaits_step p t es l r t2 es2 e s w.0, each_step ps t es l r t2 es2 e s w.1)

-- and what is remembered
pub remembers_step : (m : Compared) (t : Trail) (es : List Equation) (l r : Ty) (t2 : Trail) (es2 : List Equation) → Grows t t2 → Step t es l r t2 es2
    → Remembers m t.0 (es ++ equal l r ∷ []) → Remembers m t2.0 es2
remembers_step m t es l r t2 es2 e s h = record {
  known = λ p k f a. h.known p k f (agrees_front t.0 t2.0 f e.extends a);
  pending = each_step m.pending.items t es l r t2 es2 e s h.pending;
}

-- an equation of variables that the bindings make equal says nothing
step_known : (t : Trail) (v w : ℕ) (es : List Equation) → ((f : Sub) → Agrees f (bindings t) → f v ≡ f w) → EachBelow es (variables t)
    → Step t es (var v) (var w) t es
step_known t v w es k b = record {
  there = λ f a s e. (a, s);
  back = λ n m f a s. (a, s, k f a);
  fewer = steps_less (free t) (weight (bindings t) es) (weight (bindings t) (equal (var v) (var w) ∷ es)) (omega (arith, size_some (solution (bindings t) v)));
  below = b;
}

pub each_front : (ps : List Pending) (p : Pending) (xs : List Bound) (es : List Equation) → EachAwaits (ps ++ p ∷ []) xs es
    → EachAwaits ps xs es × Awaits p xs es
each_front [] p xs es w = (tt, w.0)
each_front (q ∷ ps) p xs es w = (let r = each_front ps p xs es w.1 in ((w.0, r.0), r.1))

pub each_last : (ps : List Pending) (p : Pending) (xs : List Bound) (es : List Equation) → EachAwaits ps xs es → Awaits p xs es
    → EachAwaits (ps ++ p ∷ []) xs es
each_last [] p xs es w h = (h, tt)
each_last (q ∷ ps) p xs es w h = (w.0, each_last ps p xs es w.1 h)

-- one key more is one pair more
pub known_one : (known known2 : (ℕ × ℕ) → Bool) (p : ℕ × ℕ) → ((q : ℕ × ℕ) → known2 q ≡ (if same_pair p q then true else known q)) → KnownOne known known2 p
known_one known known2 p h q e = by_test (nat_eq p.0 q.0) (nat_eq p.1 q.1) refl refl (sym (h q) ∙ e)
  where
    by_test : (a b : Bool) → nat_eq p.0 q.0 ≡ a → nat_eq p.1 q.1 ≡ b → (if a && b then true else known q) ≡ true → (q ≡ p) ⊎ (known q ≡ true)
    by_test true true i j e = inl (ap (λ (a : ℕ). (a, q.1)) (sym (eqb-true p.0 q.0 i)) ∙ ap (λ (b : ℕ). (p.0, b)) (sym (eqb-true p.1 q.1 j)))
    by_test true false i j e = inr e
    by_test false b i j e = inr e

pub on_true : (b : Bool) (P : Type 0) → OnTrue b P → b ≡ true → P
on_true true P h e = h
on_true false P h e = absurd (let q : false ≡ true = e in cc)

pub knows_is : (b : Bool) (m : Compared) (v w : ℕ) → b ≡ contains same_pair m.known (v, w)
    → OnTrue b ((xs : List Bound) (es : List Equation) → Remembers m xs es → (f : Sub) → Agrees f (bounds xs) → f v ≡ f w)
knows_is true m v w e = λ xs es h f a. h.known (v, w) (sym e) f a
knows_is false m v w e = tt

-- a pair more is awaited
pub remembers_more : (m m2 : Compared) (p : Pending) (xs : List Bound) (es : List Equation) → m2.known ≡ m.known → m2.pending.items ≡ m.pending.items ++ p ∷ []
    → Remembers m xs es → Awaits p xs es → Remembers m2 xs es
remembers_more m m2 p xs es k e h w = record {
  known = λ q i f a. h.known q (ap (λ z. contains same_pair z q) (sym k) ∙ i) f a;
  pending = (let P : List Pending → Type 0 = λ z. EachAwaits z xs es in subst P (sym e) (each_last m.pending.items p xs es h.pending w));
}

-- the last pair that was awaited is known
pub remembers_settled : (m m2 : Compared) (p : Pending) (n : ℕ) (xs : List Bound) (es : List Equation) → m.pending.items ≡ m2.pending.items ++ p ∷ []
    → KnownOne (contains same_pair m.known) (contains same_pair m2.known) (p.left, p.right) → n < p.above → length es ≤ n + 1 → Remembers m xs es
    → Remembers m2 xs es
remembers_settled m m2 p n xs es e o l k h =
    let P : List Pending → Type 0 = λ z. EachAwaits z xs es in
    let w = each_front m2.pending.items p xs es (subst P e h.pending) in
    record {
      known = λ q i f a. elim (o q i) [
        | inl j ↦ (let Q : (ℕ × ℕ) → Type 0 = λ z. f z.0 ≡ f z.1 in subst Q (sym j) (awaits_none p xs es f (omega arith) w.1 a))
        | inr j ↦ h.known q j f a
      ];
      pending = w.0;
    }

-- an equation of what is known to be equal says nothing
pub turned_known : (m : Compared) (t : Trail) (es : List Equation) (l r : Ty) (v w : ℕ) → l ≡ var v → r ≡ var w
    → ((ys : List Bound) (ds : List Equation) → Remembers m ys ds → (f : Sub) → Agrees f (bounds ys) → f v ≡ f w) → Remembers m t.0 (es ++ equal l r ∷ [])
    → EachBelow es (variables t) → Turned (Ok true) t es l r t es
turned_known m t es l r v w a b k h e =
    let P : Ty → Type 0 = λ x. Step t es x r t es in
    let Q : Ty → Type 0 = λ x. Step t es (var v) x t es in
    (grows_same t, subst P (sym a) (subst Q (sym b) (step_known t v w es (k t.0 (es ++ equal l r ∷ []) h) e)))

-- what is remembered, after a step that was made or not
pub remembered_step : (d : Result Bool NoMemory) (m : Compared) (t : Trail) (es : List Equation) (l r : Ty) (t2 : Trail) (es2 : List Equation)
    → Turned d t es l r t2 es2 → Remembers m t.0 (es ++ equal l r ∷ []) → Remembered d m t2.0 es2
remembered_step (Ok true) m t es l r t2 es2 s h = remembers_step m t es l r t2 es2 s.0 s.1 h
remembered_step (Ok false) m t es l r t2 es2 s h = tt
remembered_step (Err d) m t es l r t2 es2 s h = tt

-- after a step two variables are equal once the equations that it left are solved
pub step_awaited : (t : Trail) (es : List Equation) (l r : Ty) (v w : ℕ) (t2 : Trail) (es2 : List Equation) (n : ℕ) → l ≡ var v → r ≡ var w → n ≤ length es
    → Turned (Ok true) t es l r t2 es2 → Awaited v w n t2.0 es2
step_awaited t es l r v w t2 es2 n a b k s f h q =
    ap (λ x. on x f) (sym a) ∙ (s.1.back n k f h q).2 ∙ ap (λ x. on x f) b

pub equations_long : (ps : List Pair) (n : ℕ) → n ≡ length ps → n ≤ length (equations ps)
equations_long [] n e = omega (arith, e)
equations_long (p ∷ ps) zero e = omega arith
equations_long (p ∷ ps) (suc n) e = omega (arith, equations_long ps n (omega arith))

long_most : (ps : List Pair) (e : Equation) → length (equations ps ++ e ∷ []) ≤ length ps + 1
long_most [] e = omega arith
long_most (p ∷ ps) e = omega (arith, long_most ps e)

pub equations_most : (ps : List Pair) (e : Equation) (n : ℕ) → n ≡ length ps → length (equations ps ++ e ∷ []) ≤ n + 1
equations_most ps e n q = omega (arith, q, long_most ps e)

-- what an option's clause says where it is nothing
pub none_clause : {A : Type 0} (o : Option A) (P : Type 0) (Q : A → Type 0) → MatchOption o P Q → ((x : A) → o ≡ Some x → ⊥) → P
none_clause None P Q h n = h
none_clause (Some x) P Q h n = absurd (n x refl)

pub remembers_like : (m m2 : Compared) (xs : List Bound) (es : List Equation) → m2.known ≡ m.known → m2.pending.items ≡ m.pending.items → Remembers m xs es
    → Remembers m2 xs es
remembers_like m m2 xs es k e h = record {
  known = λ q i f a. h.known q (ap (λ z. contains same_pair z q) (sym k) ∙ i) f a;
  pending = (let P : List Pending → Type 0 = λ z. EachAwaits z xs es in subst P (sym e) h.pending);
}

pub ruleset comparisons = (known_one)
