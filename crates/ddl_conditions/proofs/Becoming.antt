-- A number becomes `int`, or is passed over; how a walk begins and ends.
use Rattle.std.proofs.Common.{◌≡◌, ℕ, ◌+◌, ◌*◌, ◌≤◌, ◌<◌, List, [], ◌∷◌, ◌++◌, map, refl, sym, ap, ◌∙◌, arith, suc, true, false, Bool, subst, append_assoc}
use Rattle.std.proofs.Common.{length, Some, None, Option}
use Rattle.std.specs.Prelude.{All}
use Rattle.std.proofs.lemmas.List.Elements.{All-nil, All-push}
use Rattle.ddl_types.specs.Types.{Ty, Ty.var, Ty.con, Tys.none, Sub, on, Head.int, Below}
use Rattle.ddl_types.specs.TyView.{ty_view}
use Rattle.ddl_types.specs.declared.ty.Ty.{Int}
use Rattle.ddl_types.proofs.TyLayers.{layers}
use Rattle.ddl_unify.specs.Equations.{Equation, equal, MostGeneral, Solves}
use Rattle.ddl_unify.proofs.Steps.{solves_back}
use Rattle.ddl_growing.specs.declared.refusal.SettleError.{SettleError}
use Rattle.ddl_growing.specs.declared.refusal.SettleError.TheVariants as e
use Rattle.ddl_conditions.specs.Answer.{IsUnsettled}
use Rattle.ddl_conditions.specs.Closing.{IsUnmet}
use Rattle.ddl_types.specs.Conditions.{num, word, lit}
use Rattle.ddl_judging.specs.Demands.{Asked, Demand, condition, DemandBelow, numbered}
use Rattle.ddl_conditions.specs.Growing.{Added, Group, Grows, IsDone, IsFree, IsReady, State, FirstOf, adding_ones, added_at, becoming_int, begun, equations}
use Rattle.ddl_conditions.specs.Growing.{further, start}
use Rattle.ddl_conditions.specs.Settled.{IsEnd}
use Rattle.ddl_growing.specs.Turns.{AreShapes, IsRefusal, Solved}
use Rattle.ddl_conditions.specs.Walking.{AreBelow, Fits, Going, HasGrown, IsCut, IsFreeAt, IsOver, IsStep, Place, Stops, Wait, WaitIf, left, unchecked}
use Rattle.ddl_conditions.proofs.Carrying.{unfree_stays}
use Rattle.ddl_conditions.proofs.Freeing.{free_at, free_of}
use Rattle.ddl_conditions.proofs.Growth.{append_none, cut_at, equations_added}
use Rattle.ddl_conditions.proofs.Onwards.{at, others_below, waits_of}

pub int_view : ty_view Int ≡ con int none
int_view = grind (arith, layers)

pub int_below : (n : ℕ) → Below (ty_view Int) n
int_below n = let P : Ty → Type 0 = λ y. Below y n in subst P (sym int_view) tt

some_same : (s t : Ty) → Some s ≡ Some t → s ≡ t
some_same s t q = cc

pub numbered_below : (d : Demand) (t : Ty) (n : ℕ) → numbered d ≡ Some t → DemandBelow n d → Below t n
numbered_below (condition (num s)) t n q b = let P : Ty → Type 0 = λ y. Below y n in subst P (some_same s t q) b
numbered_below (condition (word s)) t n q b = let P : Ty → Type 0 = λ y. Below y n in subst P (some_same s t q) b
numbered_below (condition (lit k s)) t n q b = let P : Ty → Type 0 = λ y. Below y n in subst P (some_same s t q) b
numbered_below d t n q b = let k : None ≡ Some t = q in absurd (cc)

split_more : (g : Group) (passed ns others : List Asked) (x : Asked) → g.asked ≡ passed ++ ns → ns ≡ x ∷ others → g.asked ≡ (passed ++ x ∷ []) ++ others
split_more g passed ns others x s q = s ∙ ap (λ y. passed ++ y) q ∙ sym (append_assoc passed (x ∷ []) others)

-- a number is not free
pub number_passed : (g : Group) (z : Solved) (b a ns : List Asked) (c : Bool) (x : Asked) (others : List Asked) → ns ≡ x ∷ others → (IsFree g z.solution x → ⊥)
    → IsStep true g (at z b a c ns) (at z b a c others)
number_passed g z b a ns c x others q told = (
  (λ es n o. record {
    state = o.state;
    grows = o.grows;
    accepted = o.accepted;
    variables = o.variables;
    waiting = o.waiting;
    waited = o.waited;
    passed =
        o.passed ++ x ∷ [];
    split = split_more g o.passed ns others x o.split q;
    unfree = All-push (λ y. IsFree g z.solution y → ⊥) o.passed x o.unfree told;
    fits = record {
      most = o.fits.most;
      behind = o.fits.behind;
      ahead = o.fits.ahead;
      numbers = others_below z.variables ns x others q o.fits.numbers;
      shapes = o.fits.shapes;
      asked = o.fits.asked;
    };
  }),
  (let k : length ns ≡ suc (length others) = ap length q in omega arith),
)

waits_all : (f : Sub) (w b a : List Asked) → w ≡ b ++ adding_ones a → a ≡ [] → Wait f b → Wait f w
waits_all f w b a q spent wait = let P : List Asked → Type 0 = λ y. Wait f y in subst P (sym (q ∙ ap (λ y. b ++ adding_ones y) spent ∙ append_none b)) wait

-- the state after a number becomes `int`
abbrev pub int_state : State → Asked → Ty → State
int_state s x t = record { added = s.added ++ added_at x.span (equal (con int none) t ∷ []); waiting = s.waiting; next = s.next }

int_grows : (g : Group) (es : List Equation) (n : ℕ) (z : Solved) (b a ns : List Asked) (c : Bool) (x : Asked) (others : List Asked) (t : Ty)
    (o : Going g es n (at z b a c ns)) → c ≡ true → a ≡ [] → ns ≡ x ∷ others → IsFreeAt g z.solution x t → Grows g es n (int_state o.state x t)
int_grows g es n z b a ns c x others t o checked spent q free =
    let P : List Equation → Type 0 = λ y. MostGeneral y z.solution in
    further z.solution o.grows (subst P o.accepted o.fits.most)
    (becoming_int x (waits_all z.solution o.state.waiting b a o.waiting spent (waits_of c z.solution b checked o.waited))
    (record {
      before = o.passed;
      after = others;
      split = o.split ∙ ap (λ y. o.passed ++ y) q;
      none_before = o.unfree;
      found =
          free_of g z.solution x t free;
    }))

told_int : (g : Group) (old : List Equation) (z2 : Solved) (x : Asked) (t : Ty) → numbered x.what ≡ Some t → z2.accepted ≡ old ++ equal (con int none) t ∷ []
    → MostGeneral z2.accepted z2.solution → IsFree g z2.solution x → ⊥
told_int g old z2 x t q accepted most free =
    let P : List Equation → Type 0 = λ y. Solves z2.solution y in
    let s = solves_back z2.solution old (equal (con int none) t ∷ []) (subst P accepted most.solves) in
    let k : con int none ≡ var (free_at g z2.solution x t q free).variable = s.0 ∙ (free_at g z2.solution x t q free).free in
    cc

-- a free number becomes `int`
pub number_int : (g : Group) (z z2 : Solved) (b a ns : List Asked) (c : Bool) (x : Asked) (others : List Asked) (t : Ty) → c ≡ true → a ≡ [] → ns ≡ x ∷ others
    → IsFreeAt g z.solution x t → z2.accepted ≡ z.accepted ++ equal (con int none) t ∷ [] → z2.variables ≡ z.variables → MostGeneral z2.accepted z2.solution
    → IsStep true g (at z b a c ns) (at z2 b a false others)
number_int g z z2 b a ns c x others t checked spent q free accepted variables most = (
  (λ es n o. (
      let P : List Equation → Type 0 = λ y. Solves z2.solution y in
      let B : ℕ → Type 0 = λ v. AreBelow v b in
      let A : ℕ → Type 0 = λ v. AreBelow v a in
      let N : ℕ → Type 0 = λ v. AreBelow v others in
      let S : ℕ → Type 0 = λ v. AreShapes v g.shapes in
      let K : ℕ → Type 0 = λ v. AreBelow v g.asked in
      record {
        state = int_state o.state x t;
        grows = int_grows g es n z b a ns c x others t o checked spent q free;
        accepted = accepted ∙ ap (λ y. y ++ equal (con int none) t ∷ []) o.accepted ∙ equations_added es o.state.added x.span (equal (con int none) t ∷ []);
        variables = variables ∙ o.variables;
        waiting = o.waiting;
        waited = tt;
        passed = o.passed ++ x ∷ [];
        split = split_more g o.passed ns others x o.split q;
        unfree = All-push (λ y. IsFree g z2.solution y → ⊥) o.passed x
            (unfree_stays g z.accepted (equal (con int none) t ∷ []) z.solution z2.solution o.passed o.fits.most (subst P accepted most.solves) o.unfree)
            (told_int g z.accepted z2 x t free.number accepted most);
        fits = record {
          most = most;
          behind = subst B (sym variables) o.fits.behind;
          ahead = subst A (sym variables) o.fits.ahead;
          numbers =
              subst N (sym variables) (others_below z.variables ns x others q o.fits.numbers);
          shapes = subst S (sym variables) o.fits.shapes;
          asked =
              subst K (sym variables) o.fits.asked;
        };
      })),
  (let k : length ns ≡ suc (length others) = ap length q in let j : unchecked c ≡ 0 = ap unchecked checked in omega arith),
)

-- the equation is refused
pub number_cut : (g : Group) (z z2 : Solved) (b a ns : List Asked) (c : Bool) (x : Asked) (others : List Asked) (t : Ty) (err : SettleError) → c ≡ true → a ≡ []
    → ns ≡ x ∷ others → IsFreeAt g z.solution x t → z2 ≡ z → IsRefusal err x.span z (equal (con int none) t) → Stops g (at z b a c ns) z2 err
number_cut g z z2 b a ns c x others t err checked spent q free same refusal es n o =
    let P : Solved → Type 0 = λ y. IsRefusal err x.span y (equal (con int none) t) in
    cut_at g es n z2 (int_state o.state x t) o.state.added [] (equal (con int none) t) x.span err
    (int_grows g es n z b a ns c x others t o checked spent q free) refl (ap (λ (y : Solved). y.accepted) same ∙ o.accepted) (subst P (sym same) refusal)

-- before the first step
pub going_start : (g : Group) (z : Solved) (b a ns : List Asked) (c : Bool) → b ≡ [] → a ≡ g.asked → c ≡ true → ns ≡ g.asked → MostGeneral z.accepted z.solution
    → AreBelow z.variables g.asked → AreShapes z.variables g.shapes → Going g z.accepted z.variables (at z b a c ns)
going_start g z b a ns c eb ea ec en most below shapes =
    let P : List Asked → Type 0 = λ y. AreBelow z.variables y in
    let W : List Asked → Type 0 = λ y. Wait z.solution y in
    let V : Bool → Type 0 = λ y. WaitIf y z.solution b in
    record {
      state = start g z.variables;
      grows = begun;
      accepted = sym (append_none z.accepted);
      variables = refl;
      waiting = ap adding_ones (sym ea) ∙ ap (λ y. y ++ adding_ones a) (sym eb);
      waited = subst V (sym ec) (subst W (sym eb) (All-nil (λ y. IsReady z.solution y → ⊥)));
      passed = [];
      split = sym en;
      unfree = All-nil (λ y. IsFree g z.solution y → ⊥);
      fits = record {
        most = most;
        behind = subst P (sym eb) (All-nil (λ y. DemandBelow z.variables y.what));
        ahead = subst P (sym ea) below;
        numbers =
            subst P (sym en) below;
        shapes = shapes;
        asked = below;
      };
    }

-- where no step is left the list has grown to its end
pub grown_over : (g : Group) (es : List Equation) (n : ℕ) (p q : Place) → Going g es n p → IsStep false g p q → HasGrown g es n q.solver
grown_over g es n p q o h =
    let P : Place → Type 0 = λ y. HasGrown g es n y.solver in
    let F : List Asked → Type 0 = λ y. All (λ w. IsFree g p.solver.solution w → ⊥) y in
    subst P (sym h.0) (record {
      state = o.state;
      grows = o.grows;
      done = record {
        none_ready = waits_all p.solver.solution o.state.waiting p.behind p.ahead o.waiting h.1.none_ahead
            (waits_of p.checked p.solver.solution p.behind h.1.checked o.waited);
        none_free = subst F (sym (o.split ∙ ap (λ y. o.passed ++ y) h.1.no_numbers ∙ append_none o.passed)) o.unfree;
      };
      all = o.accepted;
      variables = o.variables;
    })

pub asked_below : (g : Group) (es : List Equation) (n : ℕ) (p q : Place) → Going g es n p → IsStep false g p q → AreBelow q.solver.variables g.asked
asked_below g es n p q o h = let P : Place → Type 0 = λ y. AreBelow y.solver.variables g.asked in subst P (sym h.0) o.fits.asked

-- where nothing is left to be looked at
pub over : (p : Place) → p.checked ≡ true → length p.ahead ≡ 0 → length p.numbers ≡ 0 → IsOver p
over p c a n = record { checked = c; none_ahead = empty p.ahead a; no_numbers = empty p.numbers n }
  where
    empty : (xs : List Asked) → length xs ≡ 0 → xs ≡ []
    empty [] k = refl
    empty (x ∷ xs) k = absurd (omega arith)
