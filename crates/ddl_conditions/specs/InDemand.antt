-- The variables of a demand's types.
use Rattle.std.specs.Prelude.{◌≡◌, ◌⊎◌, ℕ, true}
use Rattle.ddl_types.specs.Types.{Ty}
use Rattle.ddl_types.specs.Conditions.{num, word, lit, key, lossless, cut, fit, cat, field, tag, loops}
use Rattle.ddl_unify.specs.Occurs.{has}
use Rattle.ddl_judging.specs.Demands.{Demand, condition, make, gather}

abbrev pub InType : ℕ → Ty → Type 0
InType v t = has t v ≡ true

-- a variable stands in a type of a demand
abbrev pub InDemand : ℕ → Demand → Type 0
InDemand v (condition (num t)) = InType v t
InDemand v (condition (word t)) = InType v t
InDemand v (condition (lit n t)) = InType v t
InDemand v (condition (key t)) = InType v t
InDemand v (condition (lossless s t)) = InType v s ⊎ InType v t
InDemand v (condition (cut s t)) = InType v s ⊎ InType v t
InDemand v (condition (fit s t)) = InType v s ⊎ InType v t
InDemand v (condition (cat a b r)) = InType v a ⊎ InType v b ⊎ InType v r
InDemand v (condition (field t x r)) = InType v t ⊎ InType v r
InDemand v (condition (tag t x r)) = InType v t ⊎ InType v r
InDemand v (condition (loops t k u)) = InType v t ⊎ InType v k ⊎ InType v u
InDemand v (make t x r) = InType v t ⊎ InType v r
InDemand v (gather t k u b r) = InType v t ⊎ InType v k ⊎ InType v u ⊎ InType v b ⊎ InType v r
