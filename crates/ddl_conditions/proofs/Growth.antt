-- How the turn of a demand makes the list grow.
use Rattle.std.proofs.Common.{◌≡◌, ℕ, ◌+◌, List, [], ◌∷◌, ◌++◌, map, refl, sym, ap, ◌∙◌, subst, append_assoc, Some}
use Rattle.ddl_base.specs.declared.span.Span.{Span}
use Rattle.ddl_types.specs.Types.{Head}
use Rattle.ddl_unify.specs.Equations.{Equation, MostGeneral}
use Rattle.ddl_growing.specs.declared.refusal.SettleError.{SettleError}
use Rattle.ddl_growing.specs.declared.refusal.SettleError.TheVariants as e
use Rattle.ddl_judging.specs.Demands.{Asked, subjects}
use Rattle.ddl_growing.specs.Giving.{gives}
use Rattle.ddl_conditions.specs.Growing.{Added, Group, Grows, State, adding, added_at, equations, further}
use Rattle.ddl_growing.specs.Heads.{heads_of}
use Rattle.ddl_growing.specs.Turns.{AtHeads, HasAdded, IsNoTurn, IsRefusal, IsStopped, Solved}
use Rattle.ddl_conditions.specs.Walking.{IsCut, Wait}

pub append_none : {A : Type 0} (xs : List A) → xs ++ [] ≡ xs
append_none [] = refl
append_none (x ∷ xs) = ap (λ z. x ∷ z) (append_none xs)

pub map_append : {A B : Type 0} (f : A → B) (xs ys : List A) → map f (xs ++ ys) ≡ map f xs ++ map f ys
map_append f [] ys = refl
map_append f (x ∷ xs) ys = ap (λ z. f x ∷ z) (map_append f xs ys)

added_equations : (span : Span) (qs : List Equation) → map (λ (a : Added). a.equation) (added_at span qs) ≡ qs
added_equations span [] = refl
added_equations span (q ∷ qs) = ap (λ z. q ∷ z) (added_equations span qs)

pub equations_added : (es : List Equation) (xs : List Added) (span : Span) (qs : List Equation)
    → (es ++ map (λ (a : Added). a.equation) xs) ++ qs ≡ es ++ map (λ (a : Added). a.equation) (xs ++ added_at span qs)
equations_added es xs span qs =
    append_assoc es (map (λ (a : Added). a.equation) xs) qs
    ∙ ap (λ z. es ++ (map (λ (a : Added). a.equation) xs ++ z)) (sym (added_equations span qs))
    ∙ ap (λ z. es ++ z) (sym (map_append (λ (a : Added). a.equation) xs (added_at span qs)))

-- a state with these equations, so many variables and these demands
pub record Grown (g : Group) (es : List Equation) (n : ℕ) (z : Solved) (waiting : List Asked) : Type 0 where
  pub state : State
  pub grows : Grows g es n state
  pub accepted : z.accepted ≡ equations es state
  pub variables : z.variables ≡ state.next
  pub waits : state.waiting ≡ waiting

-- the state after a turn that adds all its equations
abbrev pub turn_state : Group → State → Asked → List Head → List Asked → State
turn_state g s turned heads rest = record {
  added = s.added ++ added_at turned.span (gives g.shapes turned.what heads s.next).equations;
  waiting = rest;
  next =
      s.next + (gives g.shapes turned.what heads s.next).vars;
}

pub turn_grows : (g : Group) (es : List Equation) (n : ℕ) (z : Solved) (xs : List Asked) (turned : Asked) (before after : List Asked) (heads : List Head)
    → (o : Grown g es n z xs) → MostGeneral z.accepted z.solution → xs ≡ before ++ (turned ∷ after) → Wait z.solution before
    → heads_of (subjects turned.what) z.solution ≡ Some heads → Grows g es n (turn_state g o.state turned heads (before ++ after))
turn_grows g es n z xs turned before after heads o m split wait known =
    let P : List Equation → Type 0 = λ y. MostGeneral y z.solution in
    further z.solution o.grows (subst P o.accepted m) (adding turned heads before after (o.waits ∙ split) wait known)

pub turn_grown : (g : Group) (es : List Equation) (n : ℕ) (z z2 : Solved) (xs : List Asked) (turned : Asked) (before after : List Asked) → Grown g es n z xs
    → MostGeneral z.accepted z.solution → xs ≡ before ++ (turned ∷ after) → Wait z.solution before
    → AtHeads g.shapes turned z (λ y. HasAdded y.equations y.vars z z2) → Grown g es n z2 (before ++ after)
turn_grown g es n z z2 xs turned before after o m split wait h =
    let P : ℕ → Type 0 = λ v. HasAdded (gives g.shapes turned.what h.heads v).equations (gives g.shapes turned.what h.heads v).vars z z2 in
    let k = subst P o.variables h.so in
    let qs : List Equation = (gives g.shapes turned.what h.heads o.state.next).equations in
    record {
      state = turn_state g o.state turned h.heads (before ++ after);
      grows = turn_grows g es n z xs turned before after h.heads o m split wait h.known;
      accepted = k.accepted ∙ ap (λ y. y ++ qs) o.accepted ∙ equations_added es o.state.added turned.span qs;
      variables = k.variables ∙ ap (λ y. y + (gives g.shapes turned.what h.heads o.state.next).vars) o.variables;
      waits = refl;
    }

-- an equation of a state is refused
pub cut_at : (g : Group) (es : List Equation) (n : ℕ) (z : Solved) (t : State) (before after : List Added) (q : Equation) (span : Span) (err : SettleError)
    → Grows g es n t → t.added ≡ before ++ (record { equation = q; span = span } ∷ after) → z.accepted ≡ es ++ map (λ (a : Added). a.equation) before
    → IsRefusal err span z q → IsCut g es n z.accepted z.solution err
cut_at g es n z t before after q span (e.Clash s l r) grows split accepted h =
    let P : Span → Type 0 = λ y. t.added ≡ before ++ (record { equation = q; span = y } ∷ after) in
    (q, record { state = t; grows = grows; before = before; after = after; split = subst P (sym h.0) split; accepted_before = accepted }, h.1)
cut_at g es n z t before after q span (e.Endless s v x) grows split accepted h =
    let P : Span → Type 0 = λ y. t.added ≡ before ++ (record { equation = q; span = y } ∷ after) in
    (q, record { state = t; grows = grows; before = before; after = after; split = subst P (sym h.0) split; accepted_before = accepted }, h.1)
cut_at g es n z t before after q span (e.Wrong s why) grows split accepted h = h
cut_at g es n z t before after q span (e.Unresolved s) grows split accepted h = h
cut_at g es n z t before after q span e.NoMemory grows split accepted h = tt

-- an equation of those that a turn gives is refused
turn_stopped : (g : Group) (es : List Equation) (n : ℕ) (z z2 : Solved) (xs : List Asked) (turned : Asked) (before after : List Asked) (err : SettleError)
    → Grown g es n z xs → MostGeneral z.accepted z.solution → xs ≡ before ++ (turned ∷ after) → Wait z.solution before
    → AtHeads g.shapes turned z (λ y. IsStopped y.equations turned.span z z2 err) → IsCut g es n z2.accepted z2.solution err
turn_stopped g es n z z2 xs turned before after err o m split wait h =
    let P : ℕ → Type 0 = λ v. IsStopped (gives g.shapes turned.what h.heads v).equations turned.span z z2 err in
    let k = subst P o.variables h.so in
    cut_at g es n z2 (turn_state g o.state turned h.heads (before ++ after)) (o.state.added ++ added_at turned.span k.before) (added_at turned.span k.after)
    k.refused turned.span err
    (turn_grows g es n z xs turned before after h.heads o m split wait h.known)
    (ap (λ y. o.state.added ++ added_at turned.span y) k.split
    ∙ ap (λ y. o.state.added ++ y) (map_append (λ (q : Equation). record { equation = q; span = turned.span }) k.before (k.refused ∷ k.after))
    ∙ sym (append_assoc o.state.added (added_at turned.span k.before) (record { equation = k.refused; span = turned.span } ∷ added_at turned.span k.after)))
    (k.accepted ∙ ap (λ y. y ++ k.before) o.accepted ∙ equations_added es o.state.added turned.span k.before)
    k.refusal

pub turn_cut : (g : Group) (es : List Equation) (n : ℕ) (z z2 : Solved) (xs : List Asked) (turned : Asked) (before after : List Asked) (err : SettleError)
    → Grown g es n z xs → MostGeneral z.accepted z.solution → xs ≡ before ++ (turned ∷ after) → Wait z.solution before → IsNoTurn g.shapes turned z z2 err
    → IsCut g es n z2.accepted z2.solution err
turn_cut g es n z z2 xs turned before after (e.Clash s l r) o m split wait h = turn_stopped g es n z z2 xs turned before after (e.Clash s l r) o m split wait h
turn_cut g es n z z2 xs turned before after (e.Endless s v x) o m split wait h =
    turn_stopped g es n z z2 xs turned before after (e.Endless s v x) o m split wait h
turn_cut g es n z z2 xs turned before after (e.Wrong s why) o m split wait h = turn_stopped g es n z z2 xs turned before after (e.Wrong s why) o m split wait h
turn_cut g es n z z2 xs turned before after (e.Unresolved s) o m split wait h =
    turn_stopped g es n z z2 xs turned before after (e.Unresolved s) o m split wait h
turn_cut g es n z z2 xs turned before after e.NoMemory o m split wait h = tt
