-- What forms ask of types, and of which types.
use Rattle.std.specs.Prelude.{ℕ, List, [], ◌∷◌, Bool, true, false, Option, Some, None}
use Rattle.ddl_base.specs.declared.span.Span.{Span}
use Rattle.ddl_types.specs.Types.{Ty, Sub, on, Below}
use Rattle.ddl_types.specs.Conditions.{Condition, num, word, lit, key, lossless, cut, fit, cat, field, tag, loops, on_condition, ConditionBelow}

-- a condition; a union form's type, tag and content; what a `map` goes over, the names of its turns, its body and its type
pub data Demand : Type 0 where
  condition : Condition → Demand
  make : Ty → List ℕ → Ty → Demand
  gather : Ty → Ty → Ty → Ty → Ty → Demand

-- what is asked, and where
pub record Asked : Type 0 where
  pub what : Demand
  pub span : Span

-- the types whose heads have to be known
abbrev pub subjects : Demand → List Ty
subjects (condition (num t)) = t ∷ []
subjects (condition (word t)) = t ∷ []
subjects (condition (lit n t)) = t ∷ []
subjects (condition (key t)) = t ∷ []
subjects (condition (lossless s t)) = s ∷ t ∷ []
subjects (condition (cut s t)) = s ∷ t ∷ []
subjects (condition (fit s t)) = s ∷ t ∷ []
subjects (condition (cat a b r)) = a ∷ b ∷ []
subjects (condition (field t x r)) = t ∷ []
subjects (condition (tag t x r)) = t ∷ []
subjects (condition (loops t k v)) = t ∷ []
subjects (make t x r) = t ∷ []
subjects (gather t k v b r) = t ∷ []

-- the type that has to be of numbers
abbrev pub numbered : Demand → Option Ty
numbered (condition (num t)) = Some t
numbered (condition (word t)) = Some t
numbered (condition (lit n t)) = Some t
numbered d = None

-- whether it adds equations, at some heads
abbrev pub adds : Demand → Bool
adds (condition (num t)) = false
adds (condition (word t)) = false
adds (condition (lit n t)) = false
adds (condition (lossless s t)) = false
adds (condition (cut s t)) = false
adds (condition (fit s t)) = false
adds d = true

-- whether it may be kept for the uses of a declaration
abbrev pub may_be_kept : Demand → Bool
may_be_kept (condition (key t)) = true
may_be_kept (condition (cat a b r)) = false
may_be_kept (condition (field t x r)) = false
may_be_kept (condition (tag t x r)) = false
may_be_kept (condition (loops t k v)) = false
may_be_kept (condition c) = true
may_be_kept d = false

abbrev pub on_demand : Sub → Demand → Demand
on_demand f (condition c) = condition (on_condition f c)
on_demand f (make t x r) = make (on t f) x (on r f)
on_demand f (gather t k v b r) = gather (on t f) (on k f) (on v f) (on b f) (on r f)

-- each variable of its types is below a number
abbrev pub DemandBelow : ℕ → Demand → Type 0
DemandBelow n (condition c) = ConditionBelow n c
DemandBelow n (make t x r) = Below t n × Below r n
DemandBelow n (gather t k v b r) = Below t n × Below k n × Below v n × Below b n × Below r n
