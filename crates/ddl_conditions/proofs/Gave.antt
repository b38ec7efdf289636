-- Each demand that may add equations, and whose subjects have heads at the end, has added them: the solution solves these.
use Rattle.std.proofs.Common.{◌≡◌, ◌⊎◌, inl, inr, ℕ, List, [], ◌∷◌, ◌++◌, Bool, true, false, refl, ap, sym, ◌∙◌, subst, arith, zero, suc, ◌<◌, length, get_or}
use Rattle.std.proofs.Common.{if◌then◌else◌}
use Rattle.std.specs.Prelude.{Contains}
use Rattle.std.proofs.lemmas.List.Elements.{Contains-append_left, Contains-append_right, Contains-append_cases, All-contains}
use Rattle.ddl_types.specs.Types.{Ty.con, Tys.none, Sub, Head.int}
use Rattle.ddl_unify.specs.Equations.{Equation, equal, Solves, MostGeneral}
use Rattle.ddl_unify.proofs.Steps.{solves_front, solves_back}
use Rattle.ddl_judging.specs.Demands.{Asked, subjects, adds}
use Rattle.ddl_growing.specs.Giving.{gives}
use Rattle.ddl_growing.specs.Turns.{Solved}
use Rattle.ddl_conditions.specs.Gave.{HasGiven, HaveGiven}
use Rattle.ddl_conditions.specs.Growing.{Group, Grows, IsReady, State, Step, adding, becoming_int, begun, further, adding_ones, equations}
use Rattle.ddl_conditions.specs.Laws.{EndHasGiven}
use Rattle.ddl_conditions.specs.Walking.{HasGrown}
use Rattle.ddl_conditions.proofs.Growth.{equations_added}
use Rattle.ddl_conditions.proofs.OneEnd.{heads_stay}

-- a demand still waits, or has given its equations
abbrev Went : Group → Sub → List Asked → Asked → Type 0
Went g f waiting a = Contains waiting a ⊎ HasGiven g f a

head_or_tail : (x : Asked) (xs : List Asked) (a : Asked) → Contains (x ∷ xs) a → (x ≡ a) ⊎ Contains xs a
head_or_tail x xs a c = at_place c.0 c.1 c.2
  where
    at_place : (i : ℕ) → i < length (x ∷ xs) → get_or (x ∷ xs) i a ≡ a → (x ≡ a) ⊎ Contains xs a
    at_place zero l e = inl e
    at_place (suc i) l e = inr (i, omega (arith, l), e)

at_front : (x : Asked) (xs : List Asked) → Contains (x ∷ xs) x
at_front x xs = (0, omega arith, refl)

further_on : (x : Asked) (xs : List Asked) (a : Asked) → Contains xs a → Contains (x ∷ xs) a
further_on x xs a c = (suc c.0, omega (arith, c.1), c.2)

waits_first : (xs : List Asked) (a : Asked) → Contains xs a → adds a.what ≡ true → Contains (adding_ones xs) a
waits_first [] a c e = absurd (omega (arith, c.1))
waits_first (x ∷ xs) a c e = by_test (adds x.what) refl (waits_first xs a) (head_or_tail x xs a c)
  where
    by_test : (t : Bool) → adds x.what ≡ t → (Contains xs a → adds a.what ≡ true → Contains (adding_ones xs) a) → (x ≡ a) ⊎ Contains xs a
        → Contains (if t then x ∷ adding_ones xs else adding_ones xs) a
    by_test true q later (inl same) = subst (λ (z : Asked). Contains (z ∷ adding_ones xs) a) (sym same) (at_front a (adding_ones xs))
    by_test true q later (inr deep) = further_on x (adding_ones xs) a (later deep e)
    by_test false q later (inl same) = let w : false ≡ true = sym q ∙ ap (λ (z : Asked). adds z.what) same ∙ e in absurd (cc)
    by_test false q later (inr deep) = later deep e

one_out : (before after : List Asked) (x a : Asked) → Contains (before ++ (x ∷ after)) a → (x ≡ a) ⊎ Contains (before ++ after) a
one_out before after x a c = elim (Contains-append_cases before (x ∷ after) a c) [
  | inl p ↦ inr (Contains-append_left before after a p)
  | inr q ↦ elim (head_or_tail x after a q) [ inl same ↦ inl same | inr r ↦ inr (Contains-append_right before after a r) ]
]

-- one step keeps it
stepped : (g : Group) (es : List Equation) (k f : Sub) (s t : State) (a : Asked)
    → Step g k s t → MostGeneral (equations es s) k → (Solves f (equations es s) → Went g f s.waiting a) → Solves f (equations es t) → Went g f t.waiting a
stepped g es k f s t a (adding b hs before after split wait known) most before_it sol =
    let qs = (gives g.shapes b.what hs s.next).equations in
    let P : List Equation → Type 0 = λ z. Solves f z in
    let both : Solves f (equations es s ++ qs) = subst P (sym (equations_added es s.added b.span qs)) sol in
    let follow = most.general f (solves_front f (equations es s) qs both) in
    let now : HasGiven g f b = record {
      heads = hs;
      from = s.next;
      known = heads_stay (subjects b.what) k f follow.0 hs follow.1 known;
      solved = solves_back f (equations es s) qs both;
    } in
    elim (before_it (solves_front f (equations es s) qs both)) [
      | inl w ↦ elim (one_out before after b a (subst (λ (z : List Asked). Contains z a) split w)) [
        | inl same ↦ inr (subst (λ (z : Asked). HasGiven g f z) same now)
        | inr still ↦ inl still
      ]
      | inr done ↦ inr done
    ]
stepped g es k f s t a (becoming_int b waits first) most before_it sol =
    let qs = equal (con int none) first.found.of ∷ [] in
    let P : List Equation → Type 0 = λ z. Solves f z in
    before_it (solves_front f (equations es s) qs (subst P (sym (equations_added es s.added b.span qs)) sol))

went : (g : Group) (es : List Equation) (n : ℕ) (s : State) (f : Sub) (a : Asked)
    → Grows g es n s → Solves f (equations es s) → Contains g.asked a → adds a.what ≡ true → Went g f s.waiting a
went g es n s f a begun sol c e = inl (waits_first g.asked a c e)
went g es n s f a (further {s = old} k grows most step) sol c e =
    stepped g es k f old s a step most (λ q. went g es n old f a grows q c e) sol

pub has_given : EndHasGiven
has_given g es n s f grows done sol a c e r = elim (went g es n s f a grows sol c e) [
  | inl w ↦ absurd (All-contains (λ b. IsReady f b → ⊥) s.waiting a done.none_ready w r)
  | inr h ↦ h
]

-- so it is under the solution of a list that has grown to its end
pub grown_given : (g : Group) (es : List Equation) (n : ℕ) (z : Solved) → HasGrown g es n z → MostGeneral z.accepted z.solution → HaveGiven g z.solution
grown_given g es n z o most =
    let P : List Equation → Type 0 = λ y. Solves z.solution y in
    has_given g es n o.state z.solution o.grows o.done (subst P o.all most.solves)
