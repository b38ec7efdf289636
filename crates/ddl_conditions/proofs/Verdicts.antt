-- A demand has one verdict.
use Rattle.std.proofs.Common.{◌≡◌, refl, sym, ap, ◌∙◌}
use Rattle.ddl_types.specs.Types.{Ty, Ty.var, Ty.con, on}
use Rattle.ddl_types.specs.Conditions.{num, word, lit, key, lossless, cut, fit, cat, field, tag, loops}
use Rattle.ddl_judging.specs.Demands.{Demand, condition, make, gather}
use Rattle.ddl_judging.specs.Judging.{Casting, keeps, loses, has_gap, if_equal, casting, IsCast, IsEqual, same, later, never, IsLossless, IsUnknown, itself}
use Rattle.ddl_judging.specs.Judging.{unknown, Judged, Verdict, holds, undecided, false_for, Wrong}
use Rattle.ddl_judging.specs.Shapes.{Shapes}

one_equal : (s t : Ty) (v w : Verdict) → IsEqual s t v → IsEqual s t w → v ≡ w
one_equal s t v w (same e) (same d) = refl
one_equal s t v w (same e) (later n c) = absurd (n e)
one_equal s t v w (same e) (never a) = absurd (a var (ap (λ x. on x var) e))
one_equal s t v w (later n c) (same e) = absurd (n e)
one_equal s t v w (later n c) (later m d) = refl
one_equal s t v w (later n c) (never a) = absurd (a c.0 c.1)
one_equal s t v w (never a) (same e) = absurd (a var (ap (λ x. on x var) e))
one_equal s t v w (never a) (later n c) = absurd (a c.0 c.1)
one_equal s t v w (never a) (never b) = refl

one_unknown : (s t : Ty) (v w : Verdict) → IsUnknown s t v → IsUnknown s t w → v ≡ w
one_unknown s t v w (itself e) (itself d) = refl
one_unknown s t v w (itself e) (unknown n) = absurd (n e)
one_unknown s t v w (unknown n) (itself e) = absurd (n e)
one_unknown s t v w (unknown n) (unknown m) = refl

one_cast : (c : Casting) (s t : Ty) (v w : Verdict) → IsCast c s t v → IsCast c s t w → v ≡ w
one_cast keeps s t v w a b = a ∙ sym b
one_cast loses s t v w a b = a ∙ sym b
one_cast (has_gap n) s t v w a b = a ∙ sym b
one_cast if_equal s t v w a b = one_equal s t v w a b

one_lossless : (ss : Shapes) (s t : Ty) (v w : Verdict) → IsLossless ss s t v → IsLossless ss s t w → v ≡ w
one_lossless ss (con h us) (con k ts) v w a b = one_cast (casting ss h k) (con h us) (con k ts) v w a b
one_lossless ss (con h us) (var n) v w a b = one_unknown (con h us) (var n) v w a b
one_lossless ss (var n) t v w a b = one_unknown (var n) t v w a b

pub one_verdict : (ss : Shapes) (d : Demand) (v w : Verdict) → Judged ss d v → Judged ss d w → v ≡ w
one_verdict ss (condition (num t)) v w a b = a ∙ sym b
one_verdict ss (condition (word t)) v w a b = a ∙ sym b
one_verdict ss (condition (lit n t)) v w a b = a ∙ sym b
one_verdict ss (condition (key t)) v w a b = a ∙ sym b
one_verdict ss (condition (lossless s t)) v w a b = one_lossless ss s t v w a b
one_verdict ss (condition (cut s t)) v w a b = a ∙ sym b
one_verdict ss (condition (fit s t)) v w a b = a ∙ sym b
one_verdict ss (condition (cat x y r)) v w a b = a ∙ sym b
one_verdict ss (condition (field t x r)) v w a b = a ∙ sym b
one_verdict ss (condition (tag t x r)) v w a b = a ∙ sym b
one_verdict ss (condition (loops t k u)) v w a b = a ∙ sym b
one_verdict ss (make t x r) v w a b = a ∙ sym b
one_verdict ss (gather t k u c r) v w a b = a ∙ sym b

-- a demand that holds is not false
pub not_met : (ss : Shapes) (d : Demand) (why : Wrong) → Judged ss d holds → Judged ss d (false_for why) → ⊥
not_met ss d why a b = let e : holds ≡ false_for why = one_verdict ss d holds (false_for why) a b in cc

-- nor is one that is neither
pub not_false : (ss : Shapes) (d : Demand) (why : Wrong) → Judged ss d undecided → Judged ss d (false_for why) → ⊥
not_false ss d why a b = let e : undecided ≡ false_for why = one_verdict ss d undecided (false_for why) a b in cc

-- and one that holds is decided
pub not_neither : (ss : Shapes) (d : Demand) → Judged ss d holds → Judged ss d undecided → ⊥
not_neither ss d a b = let e : holds ≡ undecided = one_verdict ss d holds undecided a b in cc
