-- The steps of a walk, and what each leaves.
use Rattle.std.proofs.Common.{◌≡◌, ℕ, ◌+◌, ◌*◌, ◌≤◌, ◌<◌, List, [], ◌∷◌, ◌++◌, refl, sym, ap, ◌∙◌, arith, suc, true, false, Bool, subst, append_assoc, length}
use Rattle.std.proofs.Common.{Some, None, Option, if◌then◌else◌, length-append}
use Rattle.std.specs.Prelude.{All}
use Rattle.std.proofs.lemmas.List.Elements.{All-nil, All-cons, All-head, All-tail, All-append, All-push}
use Rattle.ddl_base.specs.declared.span.Span.{Span}
use Rattle.ddl_types.specs.Types.{Ty, Ty.var, Ty.con, Tys.none, Sub, on, Head.int, Below}
use Rattle.ddl_unify.specs.Equations.{Equation, equal, MostGeneral, Solves}
use Rattle.ddl_unify.proofs.Steps.{solves_back}
use Rattle.ddl_growing.specs.declared.refusal.SettleError.{SettleError}
use Rattle.ddl_judging.specs.Demands.{Asked, Demand, DemandBelow, adds, numbered, subjects}
use Rattle.ddl_growing.specs.Giving.{Given, gives, nothing}
use Rattle.ddl_conditions.specs.Growing.{Added, Group, Grows, IsDone, IsFree, IsReady, State, Step, FirstOf, adding_ones, added_at, becoming_int, begun}
use Rattle.ddl_conditions.specs.Growing.{equations, further, start}
use Rattle.ddl_growing.specs.Heads.{heads_of}
use Rattle.ddl_judging.specs.Shapes.{Shapes}
use Rattle.ddl_growing.specs.Turns.{AreShapes, AtHeads, HasAdded, IsNoTurn, IsRefusal, Solved}
use Rattle.ddl_conditions.specs.Walking.{AreBelow, Fits, Going, HasGrown, HasNoTurn, HasTurn, IsCut, IsFreeAt, IsOver, IsStep, Onward, Place, Stops, Wait}
use Rattle.ddl_conditions.specs.Walking.{WaitIf, left, unchecked}
use Rattle.ddl_conditions.proofs.Belows.{are_below_more, are_shapes_more}
use Rattle.ddl_conditions.proofs.Carrying.{unfree_stays}
use Rattle.ddl_conditions.proofs.Freeing.{free_of}
use Rattle.ddl_conditions.proofs.Growth.{Grown, append_none, cut_at, equations_added, turn_cut, turn_grown}

abbrev pub at : Solved → List Asked → List Asked → Bool → List Asked → Place
at z b a c ns = record { solver = z; behind = b; ahead = a; checked = c; numbers = ns }

pub grown_of : (g : Group) (es : List Equation) (n : ℕ) (p : Place) → Going g es n p → Grown g es n p.solver (p.behind ++ adding_ones p.ahead)
grown_of g es n p o = record { state = o.state; grows = o.grows; accepted = o.accepted; variables = o.variables; waits = o.waiting }

-- a turn that adds its equations
pub onward_turn : (g : Group) (z z2 : Solved) (b a b2 a2 ns : List Asked) (c c2 : Bool) (turned : Asked) (before after : List Asked)
    → b ++ adding_ones a ≡ before ++ (turned ∷ after) → b2 ++ adding_ones a2 ≡ before ++ after → Wait z.solution before
    → AtHeads g.shapes turned z (λ y. HasAdded y.equations y.vars z z2) → MostGeneral z2.accepted z2.solution → WaitIf c2 z2.solution b2
    → AreBelow z.variables b2 → AreBelow z.variables a2 → Onward g (at z b a c ns) (at z2 b2 a2 c2 ns)
onward_turn g z z2 b a b2 a2 ns c c2 turned before after split rest wait added most waited below_b below_a es n o =
    let w = turn_grown g es n z z2 (b ++ adding_ones a) turned before after (grown_of g es n (at z b a c ns) o) o.fits.most split wait added in
    let qs : List Equation = (gives g.shapes turned.what added.heads z.variables).equations in
    let P : List Equation → Type 0 = λ y. Solves z2.solution y in
    let more : z.variables ≤ z2.variables = omega (arith, added.so.variables) in
    record {
      state = w.state;
      grows = w.grows;
      accepted = w.accepted;
      variables = w.variables;
      waiting = w.waits ∙ sym rest;
      waited = waited;
      passed = o.passed;
      split = o.split;
      unfree = unfree_stays g z.accepted qs z.solution z2.solution o.passed o.fits.most (subst P added.so.accepted most.solves) o.unfree;
      fits = record {
        most = most;
        behind = are_below_more b2 z.variables z2.variables more below_b;
        ahead = are_below_more a2 z.variables z2.variables more below_a;
        numbers = are_below_more ns z.variables z2.variables more o.fits.numbers;
        shapes = are_shapes_more g.shapes z.variables z2.variables more o.fits.shapes;
        asked = are_below_more g.asked z.variables z2.variables more o.fits.asked;
      };
    }

turn_shorter : (g : Group) (b b2 : List Asked) (z z2 : Solved) → HasTurn g b b2 z z2 → length b2 + 1 ≡ length b
turn_shorter g b b2 z z2 h =
    let x = ap length h.split ∙ length-append h.before (h.turned ∷ h.after) in
    let y = ap length h.remain ∙ length-append h.before h.after in
    omega arith

-- one of those behind had its turn
pub behind_turned : (g : Group) (z z2 : Solved) (b b2 a ns : List Asked) (c : Bool) → c ≡ false → Fits g (at z b a c ns) → HasTurn g b b2 z z2
    → MostGeneral z2.accepted z2.solution → AreBelow z.variables b2 → IsStep true g (at z b a c ns) (at z2 b2 a c ns)
behind_turned g z z2 b b2 a ns c e fits h most below = (
  onward_turn g z z2 b a b2 a ns c c h.turned h.before (h.after ++ adding_ones a)
      (ap (λ x. x ++ adding_ones a) h.split ∙ append_assoc h.before (h.turned ∷ h.after) (adding_ones a))
      (ap (λ x. x ++ adding_ones a) h.remain ∙ append_assoc h.before h.after (adding_ones a))
      h.wait h.added most (let P : Bool → Type 0 = λ x. WaitIf x z2.solution b2 in subst P (sym e) tt) below fits.ahead,
  (let k = turn_shorter g b b2 z z2 h in omega arith),
)

-- all those behind wait
pub behind_waits : (g : Group) (z z2 : Solved) (b a ns : List Asked) (c : Bool) → c ≡ false → z2 ≡ z → Wait z.solution b
    → IsStep true g (at z b a c ns) (at z2 b a true ns)
behind_waits g z z2 b a ns c e same wait = (
  (λ es n o. (
      let P : Solved → Type 0 = λ y. Going g es n (at y b a true ns) in
      subst P (sym same) (record {
        state = o.state;
        grows = o.grows;
        accepted = o.accepted;
        variables = o.variables;
        waiting = o.waiting;
        waited =
            wait;
        passed = o.passed;
        split = o.split;
        unfree = o.unfree;
        fits =
            record {
              most = o.fits.most;
              behind = o.fits.behind;
              ahead = o.fits.ahead;
              numbers = o.fits.numbers;
              shapes = o.fits.shapes;
              asked =
                  o.fits.asked;
            };
      }))),
  (let k : unchecked c ≡ 1 = ap unchecked e in omega arith),
)

-- a turn of those behind is refused
pub behind_cut : (g : Group) (z z2 : Solved) (b a ns : List Asked) (c : Bool) (err : SettleError) → HasNoTurn g b z z2 err → Stops g (at z b a c ns) z2 err
behind_cut g z z2 b a ns c err h es n o =
    turn_cut g es n z z2 (b ++ adding_ones a) h.turned h.before (h.after ++ adding_ones a) err (grown_of g es n (at z b a c ns) o) o.fits.most
    (ap (λ x. x ++ adding_ones a) h.split ∙ append_assoc h.before (h.turned ∷ h.after) (adding_ones a)) h.wait h.refused

ones_added : (x : Asked) (others : List Asked) → adds x.what ≡ true → adding_ones (x ∷ others) ≡ x ∷ adding_ones others
ones_added x others e = ap (λ t. if t then x ∷ adding_ones others else adding_ones others) e

ones_passed : (x : Asked) (others : List Asked) → adds x.what ≡ false → adding_ones (x ∷ others) ≡ adding_ones others
ones_passed x others e = ap (λ t. if t then x ∷ adding_ones others else adding_ones others) e

pub waits_of : (c : Bool) (f : Sub) (b : List Asked) → c ≡ true → WaitIf c f b → Wait f b
waits_of c f b e w = let P : Bool → Type 0 = λ x. WaitIf x f b in subst P e w

pub others_below : (n : ℕ) (a : List Asked) (x : Asked) (others : List Asked) → a ≡ x ∷ others → AreBelow n a → AreBelow n others
others_below n a x others e h = let P : List Asked → Type 0 = λ y. AreBelow n y in All-tail (λ y. DemandBelow n y.what) x others (subst P e h)

pub first_below : (n : ℕ) (a : List Asked) (x : Asked) (others : List Asked) → a ≡ x ∷ others → AreBelow n a → DemandBelow n x.what
first_below n a x others e h = let P : List Asked → Type 0 = λ y. AreBelow n y in All-head (λ y. DemandBelow n y.what) x others (subst P e h)

-- a demand ahead is passed over that never adds
pub ahead_passed : (g : Group) (z : Solved) (b a ns : List Asked) (c : Bool) (x : Asked) (others : List Asked) → a ≡ x ∷ others → adds x.what ≡ false
    → IsStep true g (at z b a c ns) (at z b others c ns)
ahead_passed g z b a ns c x others e never = (
  (λ es n o. record {
    state = o.state;
    grows = o.grows;
    accepted = o.accepted;
    variables = o.variables;
    waiting = o.waiting ∙ ap (λ y. b ++ adding_ones y) e
        ∙ ap (λ y. b ++ y) (ones_passed x others never);
    waited = o.waited;
    passed = o.passed;
    split = o.split;
    unfree = o.unfree;
    fits =
        record {
          most = o.fits.most;
          behind = o.fits.behind;
          ahead = others_below z.variables a x others e o.fits.ahead;
          numbers = o.fits.numbers;
          shapes =
              o.fits.shapes;
          asked = o.fits.asked;
        };
  }),
  (let k : length a ≡ suc (length others) = ap length e in omega arith),
)

pub not_ready : (f : Sub) (a : Asked) → heads_of (subjects a.what) f ≡ None → IsReady f a → ⊥
not_ready f a e r = let q : Some r.heads ≡ None = sym r.known ∙ e in cc

-- a demand ahead waits
pub ahead_waits : (g : Group) (z z2 : Solved) (b b2 a ns : List Asked) (c : Bool) (x : Asked) (others : List Asked) → c ≡ true → a ≡ x ∷ others
    → adds x.what ≡ true → b2 ≡ b ++ x ∷ [] → heads_of (subjects x.what) z.solution ≡ None → z2 ≡ z → IsStep true g (at z b a c ns) (at z2 b2 others c ns)
ahead_waits g z z2 b b2 a ns c x others e ea may eb unknown same = (
  (λ es n o. (
      let P : Solved → Type 0 = λ y. Going g es n (at y b2 others c ns) in
      let Q : List Asked → Type 0 = λ y. Wait z.solution y in
      let R : List Asked → Type 0 = λ y. AreBelow z.variables y in
      let S : Bool → Type 0 = λ y. WaitIf y z.solution b2 in
      let w : Wait z.solution b2 = subst Q (sym eb) (All-push (λ y. IsReady z.solution y
      → ⊥) b x (waits_of c z.solution b e o.waited) (not_ready z.solution x unknown)) in
      subst P (sym same) (record {
        state = o.state;
        grows = o.grows;
        accepted = o.accepted;
        variables = o.variables;
        waiting = o.waiting ∙ ap (λ y. b ++ adding_ones y) ea ∙ ap (λ y. b ++ y) (ones_added x others may) ∙ sym (append_assoc b (x ∷ []) (adding_ones others))
            ∙ ap (λ y. y ++ adding_ones others) (sym eb);
        waited = subst S (sym e) w;
        passed = o.passed;
        split = o.split;
        unfree = o.unfree;
        fits = record {
          most = o.fits.most;
          behind = subst R (sym eb)
              (All-push (λ y. DemandBelow z.variables y.what) b x o.fits.behind (first_below z.variables a x others ea o.fits.ahead));
          ahead =
              others_below z.variables a x others ea o.fits.ahead;
          numbers = o.fits.numbers;
          shapes = o.fits.shapes;
          asked = o.fits.asked;
        };
      }))),
  (let k : length a ≡ suc (length others) = ap length ea in let j : length b2 ≡ length b + 1 = (ap length eb ∙ length-append b (x ∷ [])) in omega arith),
)

ahead_split : (b a : List Asked) (x : Asked) (others : List Asked) → a ≡ x ∷ others → adds x.what ≡ true → b ++ adding_ones a ≡ b ++ (x ∷ adding_ones others)
ahead_split b a x others e may = ap (λ y. b ++ adding_ones y) e ∙ ap (λ y. b ++ y) (ones_added x others may)

-- a demand ahead adds its equations
pub ahead_adds : (g : Group) (z z2 : Solved) (b a ns : List Asked) (c : Bool) (x : Asked) (others : List Asked) → c ≡ true → Fits g (at z b a c ns)
    → a ≡ x ∷ others → adds x.what ≡ true → AtHeads g.shapes x z (λ y. HasAdded y.equations y.vars z z2) → MostGeneral z2.accepted z2.solution
    → IsStep true g (at z b a c ns) (at z2 b others false ns)
ahead_adds g z z2 b a ns c x others e fits ea may added most = (
  (λ es n o. onward_turn g z z2 b a b others ns c false x b (adding_ones others) (ahead_split b a x others ea may) refl (waits_of c z.solution b e o.waited)
      added most tt fits.behind (others_below z.variables a x others ea fits.ahead) es n o),
  (let k : length a ≡ suc (length others) = ap length ea in omega arith),
)

pub silent_adds : (ss : Shapes) (x : Asked) (z z2 : Solved) → AtHeads ss x z (λ y. (y.equations ≡ []) × (y.vars ≡ 0)) → z2 ≡ z
    → AtHeads ss x z (λ y. HasAdded y.equations y.vars z z2)
silent_adds ss x z z2 h same = record {
  heads = h.heads;
  known = h.known;
  so = record {
    accepted = ap (λ (y : Solved). y.accepted) same ∙ sym (ap (λ y. z.accepted ++ y) h.so.0 ∙ append_none z.accepted);
    variables = (let k : z2.variables ≡ z.variables = ap (λ (y : Solved). y.variables) same in omega (arith, k, h.so.1));
  };
}

-- a demand ahead has nothing to add
pub ahead_silent : (g : Group) (z z2 : Solved) (b a ns : List Asked) (c : Bool) (x : Asked) (others : List Asked) → c ≡ true → Fits g (at z b a c ns)
    → a ≡ x ∷ others → adds x.what ≡ true → AtHeads g.shapes x z (λ y. (y.equations ≡ []) × (y.vars ≡ 0)) → z2 ≡ z
    → IsStep true g (at z b a c ns) (at z2 b others c ns)
ahead_silent g z z2 b a ns c x others e fits ea may h same = (
  (λ es n o. (
      let P : Solved → Type 0 = λ y. MostGeneral y.accepted y.solution in
      let Q : Solved → Type 0 = λ y. WaitIf c y.solution b in
      onward_turn g z z2 b a b others ns c c x b (adding_ones others) (ahead_split b a x others ea may) refl (waits_of c z.solution b e o.waited)
      (silent_adds g.shapes x z z2 h same) (subst P (sym same) fits.most) (subst Q (sym same) o.waited) fits.behind
      (others_below z.variables a x others ea fits.ahead) es n o)),
  (let k : length a ≡ suc (length others) = ap length ea in omega arith),
)

-- an equation of a demand ahead is refused
pub ahead_cut : (g : Group) (z z2 : Solved) (b a ns : List Asked) (c : Bool) (x : Asked) (others : List Asked) (err : SettleError) → c ≡ true → a ≡ x ∷ others
    → adds x.what ≡ true → IsNoTurn g.shapes x z z2 err → Stops g (at z b a c ns) z2 err
ahead_cut g z z2 b a ns c x others err e ea may h es n o =
    turn_cut g es n z z2 (b ++ adding_ones a) x b (adding_ones others) err (grown_of g es n (at z b a c ns) o) o.fits.most (ahead_split b a x others ea may)
    (waits_of c z.solution b e o.waited) h
