-- A demand under a map that is another one followed by a third one.
use Rattle.std.proofs.Common.{◌≡◌, ap, ◌∙◌}
use Rattle.ddl_types.specs.Types.{Ty, Sub, on}
use Rattle.ddl_types.specs.Conditions.{Condition, num, word, lit, key, lossless, cut, fit, cat, field, tag, loops, on_condition}
use Rattle.ddl_judging.specs.Demands.{Demand, condition, make, gather, on_demand}
use Rattle.ddl_conditions.proofs.Carrying.{Follows, along}

module _ (f h g : Sub) (e : Follows g f h) where
  two : {A : Type 0} (c : Ty → Ty → A) (x y : Ty) → c (on x g) (on y g) ≡ c (on (on x f) h) (on (on y f) h)
  two c x y = ap (λ w. c w (on y g)) (along x f g h e) ∙ ap (c (on (on x f) h)) (along y f g h e)

  three : {A : Type 0} (c : Ty → Ty → Ty → A) (x y z : Ty) → c (on x g) (on y g) (on z g) ≡ c (on (on x f) h) (on (on y f) h) (on (on z f) h)
  three c x y z = two (λ v w. c v w (on z g)) x y ∙ ap (c (on (on x f) h) (on (on y f) h)) (along z f g h e)

  five : {A : Type 0} (c : Ty → Ty → Ty → Ty → Ty → A) (v w x y z : Ty)
      → c (on v g) (on w g) (on x g) (on y g) (on z g) ≡ c (on (on v f) h) (on (on w f) h) (on (on x f) h) (on (on y f) h) (on (on z f) h)
  five c v w x y z = three (λ p q r. c p q r (on y g) (on z g)) v w x ∙ two (c (on (on v f) h) (on (on w f) h) (on (on x f) h)) y z

  condition_follows : (c : Condition) → on_condition g c ≡ on_condition h (on_condition f c)
  condition_follows (num x) = ap num (along x f g h e)
  condition_follows (word x) = ap word (along x f g h e)
  condition_follows (lit n x) = ap (lit n) (along x f g h e)
  condition_follows (key x) = ap key (along x f g h e)
  condition_follows (lossless x y) = two lossless x y
  condition_follows (cut x y) = two cut x y
  condition_follows (fit x y) = two fit x y
  condition_follows (cat x y z) = three cat x y z
  condition_follows (field x n y) = two (λ v w. field v n w) x y
  condition_follows (tag x n y) = two (λ v w. tag v n w) x y
  condition_follows (loops x y z) = three loops x y z

  pub demand_follows : (d : Demand) → on_demand g d ≡ on_demand h (on_demand f d)
  demand_follows (condition c) = ap condition (condition_follows c)
  demand_follows (make x n y) = two (λ v w. make v n w) x y
  demand_follows (gather v w x y z) = five gather v w x y z
