-- What is kept is kept where both are cut.
use Rattle.std.proofs.Common.{◌≡◌, ◌≢◌, ℕ, ◌+◌, ◌*◌, ◌≤◌, List, [], ◌∷◌, Option, Some, None, Bool, true, false, if◌then◌else◌, refl, sym, ap, ◌∙◌, subst, arith}
use Rattle.ddl_base.specs.declared.span.Span.{Span}
use Rattle.ddl_types.specs.declared.fault.Fault.TheVariants.{DeepResult}
use Rattle.ddl_types.specs.Value.{Value, Stream}
use Rattle.ddl_types.specs.Outcome.{Event, Tick, Miss, Parse, Outcome, Ending, Deep, Faulted, ends, tick, miss, parse, ending, ticks}
use Rattle.ddl_types.specs.Cut.{cut_by}
use Rattle.ddl_types.specs.Keeping.{Mark, marks, StartsWith, StartsWithin, Follows, Covers, KeepsCut}

abbrev keep_if : Bool → Mark → List Mark → List Mark
keep_if true m ms = []
keep_if false m ms = m ∷ ms

abbrev stop_if : Bool → ℕ → Option ℕ → Option ℕ
stop_if true x o = Some x
stop_if false x o = o

module _ (t : Value → Bool) (name : Span) where
  abbrev is_cut : Event → Bool
  is_cut Tick = false
  is_cut (Miss why source at span) = false
  is_cut (Parse v s) = t v

  abbrev cut : Outcome → Outcome
  cut o = cut_by t name o

  abbrev cut_marks : List Mark → List Mark
  cut_marks [] = []
  cut_marks (m ∷ ms) = keep_if (is_cut m.event) m (cut_marks ms)

  -- the ticks before the cut
  abbrev stop : List Mark → Option ℕ
  stop [] = None
  stop (m ∷ ms) = stop_if (is_cut m.event) m.ticks (stop ms)

  abbrev mark_of : ℕ → Value → Stream → Mark
  mark_of x v s = record { ticks = x; event = Parse v s }

  abbrev cut_if : Bool → Value → Stream → Outcome → Outcome
  cut_if b v s o = if b then ends (Faulted DeepResult name) else parse v s o

  marks-cut_if : (b : Bool) (x : ℕ) (v : Value) (s : Stream) (o : Outcome) (ms : List Mark) → marks x o ≡ ms
      → marks x (cut_if b v s o) ≡ keep_if b (mark_of x v s) ms
  marks-cut_if true x v s o ms e = refl
  marks-cut_if false x v s o ms e = ap (λ k. mark_of x v s ∷ k) e

  marks-cut : (x : ℕ) (o : Outcome) → marks x (cut o) ≡ cut_marks (marks x o)
  marks-cut x (ends e) = refl
  marks-cut x (tick o) = marks-cut (x + 1) o
  marks-cut x (miss why source at span o) = ap (λ ms. record { ticks = x; event = Miss why source at span } ∷ ms) (marks-cut x o)
  marks-cut x (parse v s o) = marks-cut_if (t v) x v s (cut o) _ (marks-cut x o)

  abbrev end_if : Option ℕ → Ending → Ending
  end_if None e = e
  end_if (Some x) e = Faulted DeepResult name

  end-cut_if : (b : Bool) (x : ℕ) (v : Value) (s : Stream) (o p : Outcome) (k : Option ℕ) → ending o ≡ end_if k (ending p)
      → ending (cut_if b v s o) ≡ end_if (stop_if b x k) (ending p)
  end-cut_if true x v s o p k e = refl
  end-cut_if false x v s o p k e = e

  end-cut : (x : ℕ) (o : Outcome) → ending (cut o) ≡ end_if (stop (marks x o)) (ending o)
  end-cut x (ends e) = refl
  end-cut x (tick o) = end-cut (x + 1) o
  end-cut x (miss why source at span o) = end-cut x o
  end-cut x (parse v s o) = end-cut_if (t v) x v s (cut o) o _ (end-cut x o)

  abbrev cost_if : Option ℕ → ℕ → ℕ
  cost_if None y = y
  cost_if (Some x) y = x

  cost-cut_if : (b : Bool) (x y : ℕ) (v : Value) (s : Stream) (o : Outcome) (k : Option ℕ) → x + ticks o ≡ cost_if k y
      → x + ticks (cut_if b v s o) ≡ cost_if (stop_if b x k) y
  cost-cut_if true x y v s o k e = omega arith
  cost-cut_if false x y v s o k e = e

  cost-cut : (x : ℕ) (o : Outcome) → x + ticks (cut o) ≡ cost_if (stop (marks x o)) (x + ticks o)
  cost-cut x (ends e) = refl
  cost-cut x (tick o) =
      let e : x + 1 + ticks o ≡ x + (1 + ticks o) = omega arith in
      let f : x + (1 + ticks (cut o)) ≡ x + 1 + ticks (cut o) = omega arith in
      f ∙ cost-cut (x + 1) o ∙ ap (cost_if (stop (marks (x + 1) o))) e
  cost-cut x (miss why source at span o) = cost-cut x o
  cost-cut x (parse v s o) = cost-cut_if (t v) x (x + ticks o) v s (cut o) _ (cost-cut x o)

  within_if : (b : Bool) (c : ℕ) (m m' : Mark) (l l' : List Mark) → m.event ≡ m'.event → m'.ticks ≤ c * m.ticks → StartsWithin c l l'
      → StartsWithin c (keep_if b m l) (keep_if b m' l')
  within_if true c m m' l l' e f r = tt
  within_if false c m m' l l' e f r = (e, f, r)

  within_cut : (c : ℕ) (a b : List Mark) → StartsWithin c a b → StartsWithin c (cut_marks a) (cut_marks b)
  within_cut c [] b p = tt
  within_cut c (m ∷ a) [] p = absurd p
  within_cut c (m ∷ a) (m' ∷ b) p = subst (λ z. StartsWithin c (keep_if (is_cut m.event) m (cut_marks a)) (keep_if z m' (cut_marks b))) (ap is_cut p.0)
      (within_if (is_cut m.event) c m m' _ _ p.0 p.1 (within_cut c a b p.2))

  starts_if : (b : Bool) (m m' : Mark) (l l' : List Mark) → m.event ≡ m'.event → StartsWith l l' → StartsWith (keep_if b m l) (keep_if b m' l')
  starts_if true m m' l l' e r = tt
  starts_if false m m' l l' e r = (e, r)

  starts_cut : (a b : List Mark) → StartsWith a b → StartsWith (cut_marks a) (cut_marks b)
  starts_cut [] b p = tt
  starts_cut (m ∷ a) [] p = absurd p
  starts_cut (m ∷ a) (m' ∷ b) p = subst (λ z. StartsWith (keep_if (is_cut m.event) m (cut_marks a)) (keep_if z m' (cut_marks b))) (ap is_cut p.0)
      (starts_if (is_cut m.event) m m' _ _ p.0 (starts_cut a b p.1))

  -- where the first list is cut, the second is cut there too, and nothing stands before it
  record CutThere (c x : ℕ) (a b : List Mark) : Type 0 where
    y : ℕ
    there : stop b ≡ Some y
    cost : y ≤ c * x
    same : StartsWith (cut_marks b) (cut_marks a)

  cut_there_if : (z : Bool) (c x : ℕ) (m m' : Mark) (a b : List Mark) → is_cut m.event ≡ z → is_cut m'.event ≡ z → m.event ≡ m'.event → m'.ticks ≤ c * m.ticks
      → stop_if z m.ticks (stop a) ≡ Some x → (stop a ≡ Some x → CutThere c x a b) → CutThere c x (m ∷ a) (m' ∷ b)
  cut_there_if true c x m m' a b e e' q f h r =
      let mx : m.ticks ≡ x = cc in
      record {
        y = m'.ticks;
        there = ap (λ z. stop_if z m'.ticks (stop b)) e';
        cost = subst (λ k. m'.ticks ≤ c * k) mx f;
        same = subst (λ z. StartsWith (keep_if z m' (cut_marks b)) (keep_if (is_cut m.event) m (cut_marks a))) (sym e') tt;
      }
  cut_there_if false c x m m' a b e e' q f h r =
      let i = r h in
      record {
        y = i.y;
        there = ap (λ z. stop_if z m'.ticks (stop b)) e' ∙ i.there;
        cost = i.cost;
        same = subst (λ z. StartsWith (keep_if z m' (cut_marks b)) (keep_if (is_cut m.event) m (cut_marks a))) (sym e')
            (subst (λ z. StartsWith (m' ∷ cut_marks b) (keep_if z m (cut_marks a))) (sym e) (sym q, i.same));
      }

  cut_there : (c x : ℕ) (a b : List Mark) → StartsWithin c a b → stop a ≡ Some x → CutThere c x a b
  cut_there c x [] b p h = cc
  cut_there c x (m ∷ a) [] p h = absurd p
  cut_there c x (m ∷ a) (m' ∷ b) p h = cut_there_if (is_cut m.event) c x m m' a b refl (ap is_cut (sym p.0)) p.0 p.1 h (cut_there c x a b p.2)

  not_there_if : (z : Bool) (x y : ℕ) (o o' : Option ℕ) → (o ≡ None → o' ≡ None) → stop_if z x o ≡ None → stop_if z y o' ≡ None
  not_there_if true x y o o' h e = cc
  not_there_if false x y o o' h e = h e

  not_there : (a b : List Mark) → StartsWith b a → stop a ≡ None → stop b ≡ None
  not_there a [] p h = refl
  not_there [] (m ∷ b) p h = absurd p
  not_there (m ∷ a) (m' ∷ b) p h = subst (λ z. stop_if z m'.ticks (stop b) ≡ None) (ap is_cut (sym p.0))
      (not_there_if (is_cut m.event) m.ticks m'.ticks (stop a) (stop b) (not_there a b p.1) h)

  -- the same where ticks do not matter
  record StartsThere (a b : List Mark) : Type 0 where
    y : ℕ
    there : stop b ≡ Some y
    same : StartsWith (cut_marks b) (cut_marks a)

  starts_there_if : (z : Bool) (x : ℕ) (m m' : Mark) (a b : List Mark) → is_cut m.event ≡ z → is_cut m'.event ≡ z → m.event ≡ m'.event
      → stop_if z m.ticks (stop a) ≡ Some x → (stop a ≡ Some x → StartsThere a b) → StartsThere (m ∷ a) (m' ∷ b)
  starts_there_if true x m m' a b e e' q h r =
      record {
        y = m'.ticks;
        there = ap (λ z. stop_if z m'.ticks (stop b)) e';
        same = subst (λ z. StartsWith (keep_if z m' (cut_marks b)) (keep_if (is_cut m.event) m (cut_marks a))) (sym e') tt;
      }
  starts_there_if false x m m' a b e e' q h r =
      let i = r h in
      record {
        y = i.y;
        there = ap (λ z. stop_if z m'.ticks (stop b)) e' ∙ i.there;
        same = subst (λ z. StartsWith (keep_if z m' (cut_marks b)) (keep_if (is_cut m.event) m (cut_marks a))) (sym e')
            (subst (λ z. StartsWith (m' ∷ cut_marks b) (keep_if z m (cut_marks a))) (sym e) (sym q, i.same));
      }

  starts_there : (x : ℕ) (a b : List Mark) → StartsWith a b → stop a ≡ Some x → StartsThere a b
  starts_there x [] b p h = cc
  starts_there x (m ∷ a) [] p h = absurd p
  starts_there x (m ∷ a) (m' ∷ b) p h = starts_there_if (is_cut m.event) x m m' a b refl (ap is_cut (sym p.0)) p.0 h (starts_there x a b p.1)

  module _ (c : ℕ) (a b : Outcome) where
    follows_cut : (o : Option ℕ) → stop (marks 0 a) ≡ o → Follows c a b → Follows c (cut a) (cut b)
    follows_cut None e f =
        let ea : ending (cut a) ≡ ending a = end-cut 0 a ∙ ap (λ o. end_if o (ending a)) e in
        let nb : ending a ≢ Deep → stop (marks 0 b) ≡ None = λ h. not_there (marks 0 a) (marks 0 b) (f.no_more h) e in
        let live : ending (cut a) ≢ Deep → ending a ≢ Deep = λ h g. h (ea ∙ g) in
        record {
          events = subst (λ l. StartsWithin c l (marks 0 (cut b))) (sym (marks-cut 0 a))
              (subst (λ l. StartsWithin c (cut_marks (marks 0 a)) l) (sym (marks-cut 0 b)) (within_cut c _ _ f.events));
          no_more = λ h. subst (λ l. StartsWith l (marks 0 (cut a))) (sym (marks-cut 0 b))
              (subst (λ l. StartsWith (cut_marks (marks 0 b)) l) (sym (marks-cut 0 a)) (starts_cut _ _ (f.no_more (live h))));
          end = λ h. end-cut 0 b ∙ ap (λ o. end_if o (ending b)) (nb (live h)) ∙ f.end (live h) ∙ sym ea;
          cost = λ h.
              let x : 0 + ticks (cut a) ≡ 0 + ticks a = cost-cut 0 a ∙ ap (λ o. cost_if o (0 + ticks a)) e in
              let y : 0 + ticks (cut b) ≡ 0 + ticks b = cost-cut 0 b ∙ ap (λ o. cost_if o (0 + ticks b)) (nb (live h)) in
              let x' : ticks (cut a) ≡ ticks a = omega (arith, x) in
              let y' : ticks (cut b) ≡ ticks b = omega (arith, y) in
              subst (λ k. ticks (cut b) ≤ c * k) (sym x') (subst (λ k. k ≤ c * ticks a) (sym y') (f.cost (live h)));
        }
    follows_cut (Some x) e f =
        let i = cut_there c x (marks 0 a) (marks 0 b) f.events e in
        record {
          events = subst (λ l. StartsWithin c l (marks 0 (cut b))) (sym (marks-cut 0 a))
              (subst (λ l. StartsWithin c (cut_marks (marks 0 a)) l) (sym (marks-cut 0 b)) (within_cut c _ _ f.events));
          no_more = λ h. subst (λ l. StartsWith l (marks 0 (cut a))) (sym (marks-cut 0 b))
              (subst (λ l. StartsWith (cut_marks (marks 0 b)) l) (sym (marks-cut 0 a)) i.same);
          end = λ h. end-cut 0 b ∙ ap (λ o. end_if o (ending b)) i.there ∙ sym (end-cut 0 a ∙ ap (λ o. end_if o (ending a)) e);
          cost = λ h.
              let xa : 0 + ticks (cut a) ≡ x = cost-cut 0 a ∙ ap (λ o. cost_if o (0 + ticks a)) e in
              let ya : 0 + ticks (cut b) ≡ i.y = cost-cut 0 b ∙ ap (λ o. cost_if o (0 + ticks b)) i.there in
              let x' : ticks (cut a) ≡ x = omega (arith, xa) in
              let y' : ticks (cut b) ≡ i.y = omega (arith, ya) in
              subst (λ k. ticks (cut b) ≤ c * k) (sym x') (subst (λ k. k ≤ c * x) (sym y') i.cost);
        }

    covers_cut : (o : Option ℕ) → stop (marks 0 b) ≡ o → Covers a b → Covers (cut a) (cut b)
    covers_cut None e f =
        let eb : ending (cut b) ≡ ending b = end-cut 0 b ∙ ap (λ o. end_if o (ending b)) e in
        let live : ending (cut b) ≢ Deep → ending b ≢ Deep = λ h g. h (eb ∙ g) in
        record {
          events = subst (λ l. StartsWith l (marks 0 (cut a))) (sym (marks-cut 0 b))
              (subst (λ l. StartsWith (cut_marks (marks 0 b)) l) (sym (marks-cut 0 a)) (starts_cut _ _ f.events));
          no_more = λ h. subst (λ l. StartsWith l (marks 0 (cut b))) (sym (marks-cut 0 a))
              (subst (λ l. StartsWith (cut_marks (marks 0 a)) l) (sym (marks-cut 0 b)) (starts_cut _ _ (f.no_more (live h))));
          end = λ h. end-cut 0 a ∙ ap (λ o. end_if o (ending a)) (not_there (marks 0 b) (marks 0 a) (f.no_more (live h)) e) ∙ f.end (live h) ∙ sym eb;
        }
    covers_cut (Some y) e f =
        let i = starts_there y (marks 0 b) (marks 0 a) f.events e in
        record {
          events = subst (λ l. StartsWith l (marks 0 (cut a))) (sym (marks-cut 0 b))
              (subst (λ l. StartsWith (cut_marks (marks 0 b)) l) (sym (marks-cut 0 a)) (starts_cut _ _ f.events));
          no_more = λ h. subst (λ l. StartsWith l (marks 0 (cut b))) (sym (marks-cut 0 a))
              (subst (λ l. StartsWith (cut_marks (marks 0 a)) l) (sym (marks-cut 0 b)) i.same);
          end = λ h. end-cut 0 a ∙ ap (λ o. end_if o (ending a)) i.there ∙ sym (end-cut 0 b ∙ ap (λ o. end_if o (ending b)) e);
        }

pub keeps_cut : KeepsCut
keeps_cut c a b t name k = record {
  first = λ n. let x = k.first n in (x.0, follows_cut t name c (a n) (b x.0) (stop t name (marks 0 (a n))) refl x.1);
  second = λ m. let x = k.second m in (x.0, covers_cut t name c (a x.0) (b m) (stop t name (marks 0 (b m))) refl x.1);
}
