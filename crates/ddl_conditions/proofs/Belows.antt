-- Types keep within more variables.
use Rattle.std.proofs.Common.{◌≡◌, ℕ, ◌≤◌, ◌==◌, List, arith, true, false, Bool, subst, if◌then◌else◌}
use Rattle.std.specs.Prelude.{All}
use Rattle.std.proofs.lemmas.List.Elements.{All-weaker}
use Rattle.ddl_types.specs.Types.{Ty, Below}
use Rattle.ddl_types.specs.Conditions.{Condition, num, word, lit, key, lossless, cut, fit, cat, field, tag, loops, ConditionBelow}
use Rattle.ddl_unify.proofs.Equating.{below_more}
use Rattle.ddl_judging.specs.Demands.{Asked, Demand, condition, make, gather, DemandBelow}
use Rattle.ddl_judging.specs.Shapes.{Shape, BitShape, Shapes}
use Rattle.ddl_growing.specs.Turns.{AreShapes, IsShape}
use Rattle.ddl_conditions.specs.Walking.{AreBelow}

condition_below_more : (c : Condition) (m n : ℕ) → m ≤ n → ConditionBelow m c → ConditionBelow n c
condition_below_more (num t) m n h b = below_more t m n h b
condition_below_more (word t) m n h b = below_more t m n h b
condition_below_more (lit k t) m n h b = below_more t m n h b
condition_below_more (key t) m n h b = below_more t m n h b
condition_below_more (lossless s t) m n h b = (below_more s m n h b.0, below_more t m n h b.1)
condition_below_more (cut s t) m n h b = (below_more s m n h b.0, below_more t m n h b.1)
condition_below_more (fit s t) m n h b = (below_more s m n h b.0, below_more t m n h b.1)
condition_below_more (cat s t r) m n h b = (below_more s m n h b.0, below_more t m n h b.1, below_more r m n h b.2)
condition_below_more (field t x r) m n h b = (below_more t m n h b.0, below_more r m n h b.1)
condition_below_more (tag t x r) m n h b = (below_more t m n h b.0, below_more r m n h b.1)
condition_below_more (loops s t r) m n h b = (below_more s m n h b.0, below_more t m n h b.1, below_more r m n h b.2)

demand_below_more : (d : Demand) (m n : ℕ) → m ≤ n → DemandBelow m d → DemandBelow n d
demand_below_more (condition c) m n h b = condition_below_more c m n h b
demand_below_more (make t x r) m n h b = (below_more t m n h b.0, below_more r m n h b.1)
demand_below_more (gather t k v u r) m n h b = (
  below_more t m n h b.0,
  below_more k m n h b.1,
  below_more v m n h b.2,
  below_more u m n h b.3,
  below_more r m n h b.4,
)

pub are_below_more : (xs : List Asked) (m n : ℕ) → m ≤ n → AreBelow m xs → AreBelow n xs
are_below_more xs m n h b = All-weaker (λ a. DemandBelow m a.what) (λ a. DemandBelow n a.what) (λ a. demand_below_more a.what m n h) xs b

shape_more : (s : Shape) (m n : ℕ) → m ≤ n → IsShape m s → IsShape n s
shape_more s m n h b = by_vars (s.vars == 0) b
  where
    by_vars : (e : Bool) → All (λ t. Below t (if e then m else s.vars)) s.types → All (λ t. Below t (if e then n else s.vars)) s.types
    by_vars true b = All-weaker (λ t. Below t m) (λ t. Below t n) (λ t. below_more t m n h) s.types b
    by_vars false b = b

pub are_shapes_more : (ss : Shapes) (m n : ℕ) → m ≤ n → AreShapes m ss → AreShapes n ss
are_shapes_more ss m n h b = (
  All-weaker (IsShape m) (IsShape n) (λ s. shape_more s m n h) ss.places b.0,
  All-weaker (λ s. IsShape m s.shape) (λ s. IsShape n s.shape) (λ s. shape_more s.shape m n h) ss.bitdata b.1,
)
