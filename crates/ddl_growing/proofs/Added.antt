-- Equations that are added one after another.
use Rattle.std.proofs.Common.{◌≡◌, ℕ, ◌+◌, List, [], ◌∷◌, ◌++◌, refl, sym, ap, ◌∙◌, arith, append_assoc, subst, Result, Ok, Err, IsErrAnd}
use Rattle.ddl_base.specs.declared.span.Span.{Span}
use Rattle.ddl_unify.specs.Equations.{Equation}
use Rattle.ddl_growing.specs.declared.refusal.SettleError.{SettleError}
use Rattle.ddl_growing.specs.declared.refusal.SettleError.TheVariants as e
use Rattle.ddl_growing.specs.declared.turn.Turn.{Turn}
use Rattle.ddl_growing.specs.declared.turn.Turn.TheVariants as turn
use Rattle.ddl_growing.specs.Carrying.{Carries, IsCarried, given}
use Rattle.ddl_growing.specs.Turns.{AreStopped, HasAdded, IsRefusal, IsStopped, Solved}

-- the equations of one list, and then those of another
pub added_then : (es ds : List Equation) (m n : ℕ) (a b c : Solved) → HasAdded es m a b → HasAdded ds n b c → HasAdded (es ++ ds) (m + n) a c
added_then es ds m n a b c h k = record {
  accepted = k.accepted ∙ ap (λ (z : List Equation). z ++ ds) h.accepted ∙ append_assoc a.accepted es ds;
  variables = omega (arith, h.variables, k.variables);
}

-- the first list is stopped, and so the whole
stopped_before : (es ds : List Equation) (s : Span) (a b : Solved) (err : SettleError) → IsStopped es s a b err → IsStopped (es ++ ds) s a b err
stopped_before es ds s a b err h = record {
  before = h.before;
  after = h.after ++ ds;
  refused = h.refused;
  split = ap (λ (z : List Equation). z ++ ds) h.split ∙ append_assoc h.before (h.refused ∷ h.after) ds;
  accepted = h.accepted;
  refusal = h.refusal;
}

pub stopped_first : (es ds : List Equation) (s : Span) (a b : Solved) (err : SettleError) → AreStopped es s a b err → AreStopped (es ++ ds) s a b err
stopped_first es ds s a b e.NoMemory h = tt
stopped_first es ds s a b (e.Clash x l r) h = stopped_before es ds s a b (e.Clash x l r) h
stopped_first es ds s a b (e.Endless x v t) h = stopped_before es ds s a b (e.Endless x v t) h
stopped_first es ds s a b (e.Wrong x why) h = stopped_before es ds s a b (e.Wrong x why) h
stopped_first es ds s a b (e.Unresolved x) h = stopped_before es ds s a b (e.Unresolved x) h

-- the first list is added, and the second is stopped
stopped_behind : (es ds : List Equation) (n : ℕ) (s : Span) (a b c : Solved) (err : SettleError) → HasAdded es n a b → IsStopped ds s b c err
    → IsStopped (es ++ ds) s a c err
stopped_behind es ds n s a b c err k h = record {
  before = es ++ h.before;
  after = h.after;
  refused = h.refused;
  split = ap (λ (z : List Equation). es ++ z) h.split ∙ sym (append_assoc es h.before (h.refused ∷ h.after));
  accepted = h.accepted ∙ ap (λ (z : List Equation). z ++ h.before) k.accepted ∙ append_assoc a.accepted es h.before;
  refusal = h.refusal;
}

pub stopped_then : (es ds : List Equation) (n : ℕ) (s : Span) (a b c : Solved) (err : SettleError) → HasAdded es n a b → AreStopped ds s b c err
    → AreStopped (es ++ ds) s a c err
stopped_then es ds n s a b c e.NoMemory k h = tt
stopped_then es ds n s a b c (e.Clash x l r) k h = stopped_behind es ds n s a b c (e.Clash x l r) k h
stopped_then es ds n s a b c (e.Endless x v t) k h = stopped_behind es ds n s a b c (e.Endless x v t) k h
stopped_then es ds n s a b c (e.Wrong x why) k h = stopped_behind es ds n s a b c (e.Wrong x why) k h
stopped_then es ds n s a b c (e.Unresolved x) k h = stopped_behind es ds n s a b c (e.Unresolved x) k h

no_more : (es : List Equation) → es ++ [] ≡ es
no_more [] = refl
no_more (x ∷ es) = ap (λ z. x ∷ z) (no_more es)

-- nothing is added yet
pub added_none : (a : Solved) → HasAdded [] 0 a a
added_none a = record { accepted = sym (no_more a.accepted); variables = omega arith }

-- what a solver that stays as it was refuses
pub refused_at_once : (q : Equation) (s : Span) (a : Solved) (err : SettleError) → IsRefusal err s a q → IsStopped (q ∷ []) s a a err
refused_at_once q s a err h = record { before = []; after = []; refused = q; split = refl; accepted = sym (no_more a.accepted); refusal = h }

pub as_it_was : (es : List Equation) (s : Span) (a b : Solved) (err : SettleError) → b ≡ a → IsStopped es s a a err → IsStopped es s a b err
as_it_was es s a b err e h = subst (λ z. IsStopped es s a z err) (sym e) h

cons_none : (e : Equation) (ds : List Equation) → e ∷ ds ≡ [] → ⊥
cons_none e ds q = cc

-- the first equation is refused, and its error is passed on
pub refused_first : (e : Equation) (ds : List Equation) (s : Span) (a b : Solved) (r : Result Turn SettleError) (err : SettleError) → IsErrAnd r (λ x. x ≡ err)
    → AreStopped (e ∷ []) s a b err → Carries (given (e ∷ ds) 0) s a b r
refused_first e ds s a b (Ok x) err h k = absurd h
refused_first e ds s a b (Err x) err h k = subst (AreStopped (e ∷ ds) s a b) (sym h) (stopped_first (e ∷ []) ds s a b err k)

-- what is carried of some equations is that they are added
pub carried_added : (e : Equation) (ds : List Equation) (n : ℕ) (a b : Solved) (u : Turn) → IsCarried (given (e ∷ ds) n) a b u → HasAdded (e ∷ ds) n a b
carried_added e ds n a b turn.Waits i = absurd i
carried_added e ds n a b turn.Silent i = absurd (cons_none e ds i.0.0)
carried_added e ds n a b turn.Adds i = i

-- some are added, and then others are, or are stopped
pub carried_then : (e : Equation) (es ds : List Equation) (m n k : ℕ) (s : Span) (a b c : Solved) (r : Result Turn SettleError) → k ≡ m + n → HasAdded es m a b
    → Carries (given (e ∷ ds) n) s b c r → Carries (given (es ++ e ∷ ds) k) s a c r
carried_then e es ds m n k s a b c (Ok turn.Waits) q h g = absurd g
carried_then e es ds m n k s a b c (Ok turn.Silent) q h g = absurd (cons_none e ds g.0.0)
carried_then e es ds m n k s a b c (Ok turn.Adds) q h g = subst (λ z. HasAdded (es ++ e ∷ ds) z a c) (sym q) (added_then es (e ∷ ds) m n a b c h g)
carried_then e es ds m n k s a b c (Err x) q h g = stopped_then es (e ∷ ds) m s a b c x h g

pub ruleset adds = (refused_at_once)
